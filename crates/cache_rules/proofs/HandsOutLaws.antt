-- What a pop or a sync extraction hands out and leaves, told by the reached ids.
-- Assumes nothing.
use Rattle.std.specs.Prelude.{None, Some, map, filter}
use mathlib.Core.Bool.{true}
use mathlib.Core.List.Memᴰ
use mathlib.Core.List.{List, Memᴰ, [], ◌∷◌}
use mathlib.Core.Logic.{◌↔◌, ◌≢◌, ◌⊎◌, inl, inr}
use mathlib.Core.Path.{◌∙◌, ◌≡◌, ap, refl, subst, sym}
use Prim.Native.Nat.{◌+◌, ℕ}
use native.Mathlib.Nat.{le_refl}
use borrow.Author.Tests.{lt-ltb, ltb-true}
use lib.Dec.{ltb}
use lib.ListN.{length}
use Rattle.block_records.specs.declared.block_id.BlockId.{BlockId}
use Rattle.block_records.specs.declared.block_id.BlockIdShort.{BlockIdShort}
use Rattle.block_records.specs.declared.entry.BlockCacheEntry.{BlockCacheEntry}
use Rattle.block_records.specs.declared.top_block.TopBlock.{TopBlock}
use Rattle.block_records.proofs.rules.Finds.{each_member, member_each}
use Rattle.block_records.proofs.rules.Tests.{and_intro, on}
use Rattle.block_records.specs.layout.Entry.{pack_entry}
use Rattle.block_records.specs.rules.BlockId.{key}
use Rattle.block_records.specs.rules.Entry.{Entry}
use Rattle.cache_rules.proofs.ExtractionLaws.{Inv, Kept, OnceEntries, Seen, begin, ends, times_keeps}
use Rattle.cache_rules.proofs.SoundLaws.{cached_lookup, lookup_cached, lookup_key}
use Rattle.cache_rules.specs.Claim.{Joins, Once, Reached, by_previous, by_top}
use Rattle.cache_rules.specs.Extraction.{Walk, extraction_of, first_walk, previous_cached, starting_ids, starts, top_id}
use Rattle.cache_rules.specs.Model.{Model, block_under}
use Rattle.cache_rules.specs.Refusals.{sound_model}
use Rattle.std.specs.Cmp.{first_so, second_so}

-- ===== the starting ids =====

start_item : (z : ℕ) (ts : List TopBlock) {i : BlockId} → Memᴰ i (map top_id (filter (starts z) ts)) →
    (t : TopBlock) × Memᴰ t ts × (starts z t ≡ true) × (i ≡ t.block_id)
start_item z [] u = absurd (Memᴰ.not-nil u)
start_item z (t ∷ ts) {i} u =
    let later : Memᴰ i (map top_id (filter (starts z) ts)) → (t' : TopBlock) × Memᴰ t' (t ∷ ts) × (starts z t' ≡ true) × (i ≡ t'.block_id) =
    λ v. let r = start_item z ts v in (r.0, Memᴰ.tail r.1, r.2, r.3) in
    on (starts z t) (λ s. by s later (Memᴰ.cases_cons (rw s at u))) (λ s. later (rw s at u))
  where
    by : starts z t ≡ true → (Memᴰ i (map top_id (filter (starts z) ts)) → (t' : TopBlock) × Memᴰ t' (t ∷ ts) × (starts z t' ≡ true) × (i ≡ t'.block_id)) →
        (i ≡ t.block_id) ⊎ Memᴰ i (map top_id (filter (starts z) ts)) → (t' : TopBlock) × Memᴰ t' (t ∷ ts) × (starts z t' ≡ true) × (i ≡ t'.block_id)
    by s later (inl e) = (t, Memᴰ.head refl, s, e)
    by s later (inr v) = later v

item_starts : (z : ℕ) (ts : List TopBlock) {t : TopBlock} → Memᴰ t ts → starts z t ≡ true → Memᴰ t.block_id (map top_id (filter (starts z) ts))
item_starts z [] u s = absurd (Memᴰ.not-nil u)
item_starts z (x ∷ ts) {t} u s = by (Memᴰ.cases_cons u) (λ (v : Memᴰ t ts). item_starts z ts v s)
  where
    by : (t ≡ x) ⊎ Memᴰ t ts → (Memᴰ t ts → Memᴰ t.block_id (map top_id (filter (starts z) ts))) → Memᴰ t.block_id (map top_id (filter (starts z) (x ∷ ts)))
    by (inl e) ih = let s' : starts z x ≡ true = rw e at s in rw s' (Memᴰ.head (ap top_id e))
    by (inr v) ih = on (starts z x) (λ s'. rw s' (Memᴰ.tail (ih v))) (λ s'. rw s' (ih v))

-- ===== the walk at its end =====

module _ (m : Model) (M : Entry) (ok : sound_model m ≡ true) where
  abbrev ids : List BlockId
  ids = starting_ids m.zerostate M

  abbrev w₀ : Walk
  w₀ = first_walk ids m.shards

  ids_reached : (i : BlockId) → Memᴰ i ids → Reached m M i
  ids_reached i u =
      let r = start_item m.zerostate M.tops u in
      let t = r.0 in
      subst (Reached m M) (sym r.3)
      (by_top t r.1 (first_so t.updated (ltb m.zerostate t.ref_by_mc_seqno) r.2)
      (ltb-true m.zerostate t.ref_by_mc_seqno (second_so t.updated (ltb m.zerostate t.ref_by_mc_seqno) r.2)))

  key_of_found : (k : BlockIdShort) (e : Entry) → block_under m.shards k ≡ Some e → key e.id ≡ k
  key_of_found = lookup_key m ok

  closed : (i : BlockId) (e : Entry) (p : BlockId) → Reached m M i → block_under m.shards (key i) ≡ Some e → e.reference ≡ M.id.seqno →
      Memᴰ p e.previous → Reached m M p
  closed i e p r c n u = by_previous i e p r (lookup_cached m (key i) e c) n u

  at_end : Inv m.shards M.id.seqno (Reached m M) ids (extraction_of M m).waiting (extraction_of M m).shards (extraction_of M m).joined
  at_end = times_keeps m.shards M.id.seqno (Reached m M) ids closed key_of_found (length ids + previous_cached m.shards) w₀ (begin m.shards M.id.seqno (Reached m M) ids closed key_of_found ids_reached)

  empty_end : (extraction_of M m).waiting ≡ []
  empty_end = ends (length ids + previous_cached m.shards) M.id.seqno w₀ (le_refl _)

  seen_gone : (p : BlockId) → Seen m.shards M.id.seqno (Reached m M) ids (extraction_of M m).waiting (extraction_of M m).shards p →
      block_under (extraction_of M m).shards (key p) ≡ None
  seen_gone p (inl u) = absurd (Memᴰ.not-nil (subst (λ (q : List BlockId). Memᴰ p q) empty_end u))
  seen_gone p (inr g) = g

  pub reached_left : (i : BlockId) → Reached m M i → block_under (extraction_of M m).shards (key i) ≡ None
  reached_left i (by_top t u up above) =
      seen_gone t.block_id (at_end.starts_seen t.block_id (item_starts m.zerostate M.tops u (and_intro up (lt-ltb m.zerostate t.ref_by_mc_seqno above))))
  reached_left p (by_previous i e q r c n u) = seen_gone p (at_end.gone_seen (key i) e (cached_lookup m ok (key i) e c) (reached_left i r) n p u)

  pub others_stay : (k : BlockIdShort) → ((i : BlockId) → Reached m M i → key i ≢ k) → block_under (extraction_of M m).shards k ≡ block_under m.shards k
  others_stay k none_reached = by (at_end.kept k)
    where
      by : Kept m.shards M.id.seqno (Reached m M) ids (extraction_of M m).shards k → block_under (extraction_of M m).shards k ≡ block_under m.shards k
      by (inl s) = s
      by (inr g) = absurd (none_reached g.0 g.1 g.2)

  -- a block that joined, and what is handed out of it
  joined_joins : (e : Entry) → Memᴰ e (extraction_of M m).joined → Joins m M (pack_entry e)
  joined_joins e u =
      let j = at_end.joined e u in
      record { under = j.under; reached = j.reached; block = e; cached = lookup_cached m (key j.under) e j.as_cached; names = j.names; as_cached = refl }

  joins_joined : (b : BlockCacheEntry) (j : Joins m M b) → Memᴰ j.block (extraction_of M m).joined
  joins_joined b j =
      at_end.gone_joined (key j.under) j.block (cached_lookup m ok (key j.under) j.block j.cached) (reached_left j.under j.reached) j.names

  pub exactly : (b : BlockCacheEntry) → Memᴰ b (map pack_entry (extraction_of M m).joined) ↔ Joins m M b
  exactly b = (
    (λ u. let r = member_each pack_entry (extraction_of M m).joined u in subst (Joins m M) (sym r.2) (joined_joins r.0 r.1)),
    λ j. subst (λ (x : BlockCacheEntry). Memᴰ x (map pack_entry (extraction_of M m).joined)) (sym j.as_cached) (each_member pack_entry (extraction_of M m).joined (joins_joined b j)),
  )

  pub once_entries : OnceEntries (extraction_of M m).joined
  once_entries = at_end.once

-- packing keeps the keys
pub once_packed : (es : List Entry) → OnceEntries es → Once (map pack_entry es)
once_packed [] h = tt
once_packed (e ∷ es) h = (
  (λ d u s. let r = member_each pack_entry es u in h.0 r.0 r.1 (sym (ap (λ (b : BlockCacheEntry). key b.block_id) r.2) ∙ s)),
  once_packed es h.1,
)
