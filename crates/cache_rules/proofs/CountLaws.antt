-- How many ids extraction takes, how many blocks join, that 264 waiting places and 128 records suffice; and that any number of turns after
-- which nothing waits gives the same end.
-- Assumes nothing.
use Rattle.std.specs.List.{list_all}
use Rattle.std.specs.Prelude.{Option, None, Some}
use mathlib.Core.Bool.{Bool, not, true}
use mathlib.Core.List.{List, [], ◌∷◌}
use mathlib.Core.Path.{◌∙◌, ◌≡◌, ap, refl, sym}
use Prim.Native.Nat.{◌*◌, ◌+◌, ◌≤◌, suc, zero, ℕ}
use native.Mathlib.Nat.{le_refl}
use native.Mathlib.Omega.{arith}
use borrow.Author.Tests.{leb-true}
use lib.Dec.{eqb}
use lib.ListN.{length, length-append}
use Rattle.block_records.specs.declared.block_id.BlockId.{BlockId}
use Rattle.block_records.specs.declared.block_id.BlockIdShort.{BlockIdShort}
use Rattle.block_records.specs.declared.block_id.ShardIdent.{ShardIdent}
use Rattle.block_records.proofs.rules.ListLaws.{length_select}
use Rattle.block_records.proofs.rules.Tests.{on, some_not_none}
use Rattle.block_records.specs.rules.BlockId.{id_shard, key, key_shard, same_shard}
use Rattle.block_records.specs.rules.Entry.{Entry}
use Rattle.block_records.specs.rules.Lists.{total}
use Rattle.block_records.specs.rules.Questions.{entry_fits}
use Rattle.blocks_group.proofs.rules.GroupLaws.{previous_two, tops_eight}
use Rattle.blocks_group.specs.rules.Group.{GroupModel, at_seqno, has_seqno, refresh, with_entries, without}
use Rattle.blocks_group.specs.rules.Soundness.{fits_in, of_shard}
use Rattle.cache_rules.proofs.ExtractionLaws.{ends}
use Rattle.cache_rules.proofs.ShardLaws.{previous_refreshed, previous_removed}
use Rattle.cache_rules.proofs.SoundLaws.{parts, shard_parts}
use Rattle.cache_rules.specs.Extraction.{Walk, extract, extraction_of, first_walk, previous_cached, previous_in, starting_ids, starting_items, starts, take_found, take_id, take_one, take_times, top_id}
use Rattle.cache_rules.specs.Model.{Model, ShardModel, block_under, on_shard, remove_block}
use Rattle.cache_rules.specs.Refusals.{sound_model, sound_shard_model}
use Rattle.cache_rules.proofs.WalkLaws.{walk_keeps}
use Rattle.std.proofs.lemmas.List.{length-map}
use Rattle.std.specs.Cmp.{first_so, second_so}

-- the shard blocks in the cache
abbrev pub blocks_cached : List ShardModel → ℕ
blocks_cached gs = total (λ (g : ShardModel). length g.group.entries) gs

-- ===== any end is the end =====

idle_times : (n m : ℕ) (w : Walk) → w.waiting ≡ [] → take_times n m w ≡ w
idle_times zero m w e = refl
idle_times (suc n) m w e =
    let s : take_one m w ≡ w = ap (take_id m w) e in ap (take_times n m) s ∙ idle_times n m w e

pub same_end : (k n m : ℕ) (w : Walk) → (take_times k m w).waiting ≡ [] → (take_times n m w).waiting ≡ [] → take_times k m w ≡ take_times n m w
same_end zero n m w p q = sym (idle_times n m w p)
same_end (suc k) zero m w p q = idle_times (suc k) m w q
same_end (suc k) (suc n) m w p q = same_end k n m (take_one m w) p q

-- ===== the ids taken =====

-- taken and waiting: the starting ids and the previous ids of all joined
abbrev Counted : ℕ → Walk → Type 0
Counted n w = w.taken + length w.waiting ≡ n + previous_in w.joined

found_counted : (n m : ℕ) (i : BlockId) (rest : List BlockId) (w : Walk) (o : Option Entry) → w.taken + suc (length rest) ≡ n + previous_in w.joined →
    Counted n (take_found m i rest w o)
found_counted n m i rest w None h = omega arith
found_counted n m i rest w (Some e) h =
    on (eqb e.reference m) (λ t. rw t (omega (arith, length-append rest e.previous))) (λ t. rw t (omega arith))

times_counted : (k n m : ℕ) (w : Walk) → Counted n w → Counted n (take_times k m w)
times_counted k n m w h =
    walk_keeps m (Counted n) (λ w i rest o e f c. found_counted n m i rest w o (omega (arith, c, ap length e))) k w h

-- an id is taken for each starting id and for each previous id of a block that joined
pub taken_count : (m : ℕ) (ids : List BlockId) (gs : List ShardModel) → (extract m ids gs).taken ≡ length ids + previous_in (extract m ids gs).joined
taken_count m ids gs =
    let w₀ : Walk = record { waiting = ids; shards = gs; joined = []; taken = 0 } in
    let k = length ids + previous_cached gs in
    let c : Counted (length ids) (take_times k m w₀) = times_counted k (length ids) m w₀ (omega arith) in
    omega (arith, c, ap length (ends k m w₀ (le_refl k)))

-- ===== places =====

-- the previous ids of the joined and of the lookup blocks do not grow; nor do the blocks
record Bounded (p b : ℕ) (w : Walk) : Type 0 where
  ids : previous_in w.joined + previous_cached w.shards ≤ p
  blocks : length w.joined + blocks_cached w.shards ≤ b

length_without : (n : ℕ) (es : List Entry) {e : Entry} → at_seqno n es ≡ Some e → suc (length (without n es)) ≤ length es
length_without n [] h = some_not_none h refl
length_without n (x ∷ es) {e} h =
    on (has_seqno n x)
    (λ t. rw t (omega (arith, length_select (λ (e : Entry). not (has_seqno n e)) es)))
    (λ t. let ih = length_without n es {e = e} (rw t at h) in rw t (omega arith))

blocks_on : (s : ShardIdent) (f : GroupModel → GroupModel) (gs : List ShardModel) → ((g : GroupModel) → length (f g).entries ≤ length g.entries) → blocks_cached (on_shard s f gs) ≤ blocks_cached gs
blocks_on s f [] le = le_refl 0
blocks_on s f (h ∷ gs) le =
    let ih = blocks_on s f gs le in on (same_shard h.shard s) (λ t. rw t (omega (arith, le h.group))) (λ t. rw t (omega arith))

blocks_removed : (k : BlockIdShort) (gs : List ShardModel) {e : Entry} → block_under gs k ≡ Some e → suc (blocks_cached (remove_block k gs)) ≤ blocks_cached gs
blocks_removed k [] h = some_not_none h refl
blocks_removed k (x ∷ gs) {e} h =
    on (same_shard x.shard (key_shard k))
    (λ t. rw t (omega (
      arith,
      length_without k.seqno x.group.entries {e = e} (rw t at h),
      blocks_on (key_shard k) (λ (g : GroupModel). with_entries (without k.seqno g.entries) g) gs (λ g. length_select (λ (e : Entry). not (has_seqno k.seqno e)) g.entries),
    )))
    (λ t. let ih = blocks_removed k gs {e = e} (rw t at h) in rw t (omega arith))

found_bounded : (p b m : ℕ) (i : BlockId) (rest : List BlockId) (w : Walk) (o : Option Entry) → block_under w.shards (key i) ≡ o → Bounded p b w → Bounded p b (take_found m i rest w o)
found_bounded p b m i rest w None f h = record { ids = h.ids; blocks = h.blocks }
found_bounded p b m i rest w (Some e) f h =
    let l = previous_removed (key i) w.shards {e = e} f in
    let n = blocks_removed (key i) w.shards {e = e} f in
    on (eqb e.reference m)
    (λ t. rw t (record {
      ids = omega (arith, h.ids, l, previous_refreshed (key i) (remove_block (key i) w.shards));
      blocks = omega (arith, h.blocks, n, blocks_on (id_shard i) (refresh i.seqno) (remove_block (key i) w.shards) (λ g. le_refl _));
    }))
    (λ t. rw t (record { ids = omega (arith, h.ids, l); blocks = omega (arith, h.blocks, n) }))

times_bounded : (k p b m : ℕ) (w : Walk) → Bounded p b w → Bounded p b (take_times k m w)
times_bounded k p b m w h = walk_keeps m (Bounded p b) (λ w i rest o e f c. found_bounded p b m i rest w o f c) k w h

module _ (k m : ℕ) (ids : List BlockId) (gs : List ShardModel) where
  abbrev w₀ : Walk
  w₀ = record { waiting = ids; shards = gs; joined = []; taken = 0 }

  -- after any number of turns
  pub places : (take_times k m w₀).taken + length (take_times k m w₀).waiting ≤ length ids + previous_cached gs
  places =
      let c : Counted (length ids) (take_times k m w₀) = times_counted k (length ids) m w₀ (omega arith) in
      let b : Bounded (previous_cached gs) (blocks_cached gs) (take_times k m w₀) = times_bounded k (previous_cached gs) (blocks_cached gs) m w₀ (record { ids = omega arith; blocks = omega arith }) in
      omega (arith, c, b.ids)

  pub records : length (take_times k m w₀).joined ≤ blocks_cached gs
  records =
      let b : Bounded (previous_cached gs) (blocks_cached gs) (take_times k m w₀) = times_bounded k (previous_cached gs) (blocks_cached gs) m w₀ (record { ids = omega arith; blocks = omega arith }) in
      omega (arith, b.blocks)

-- ===== a sound model's counts =====

previous_at_most : (p : ShardIdent → Bool) (es : List Entry) → list_all (fits_in p) es ≡ true → previous_in es ≤ 2 * length es
previous_at_most p [] h = omega arith
previous_at_most p (e ∷ es) h =
    let ih = previous_at_most p es (second_so (fits_in p e) (list_all (fits_in p) es) h) in
    let f : fits_in p e ≡ true = first_so (fits_in p e) (list_all (fits_in p) es) h in
    omega (arith, ih, previous_two e (second_so (p (id_shard e.id)) (entry_fits e) f))

pub shards_previous : (gs : List ShardModel) → list_all sound_shard_model gs ≡ true → previous_cached gs ≤ 32 * length gs
shards_previous [] h = omega arith
shards_previous (x ∷ gs) h =
    let ih = shards_previous gs (second_so (sound_shard_model x) (list_all sound_shard_model gs) h) in
    let g = shard_parts x (first_so (sound_shard_model x) (list_all sound_shard_model gs) h) in
    omega (arith, ih, leb-true (length x.group.entries) 16 g.count, previous_at_most (of_shard x.shard) x.group.entries g.fit)

pub shards_blocks : (gs : List ShardModel) → list_all sound_shard_model gs ≡ true → blocks_cached gs ≤ 16 * length gs
shards_blocks [] h = omega arith
shards_blocks (x ∷ gs) h =
    let ih = shards_blocks gs (second_so (sound_shard_model x) (list_all sound_shard_model gs) h) in
    let g = shard_parts x (first_so (sound_shard_model x) (list_all sound_shard_model gs) h) in
    omega (arith, ih, leb-true (length x.group.entries) 16 g.count)

-- at any time no more than 264 ids have been in the list
pub places_suffice : (k : ℕ) (m : Model) (M : Entry) → sound_model m ≡ true → entry_fits M ≡ true →
    let w : Walk = take_times k M.id.seqno (first_walk (starting_ids m.zerostate M) m.shards) in
    w.taken + length w.waiting ≤ 264
places_suffice k m M ok fit =
    let ids = starting_ids m.zerostate M in
    let p = (parts m ok).rest.shards in
    omega (
      arith,
      places k M.id.seqno ids m.shards,
      length-map (starting_items m.zerostate M) top_id,
      length_select (starts m.zerostate) M.tops,
      tops_eight M fit,
      shards_previous m.shards p.each_ok,
      leb-true (length m.shards) 8 p.count,
    )

-- 128 records suffice
pub records_suffice : (m : Model) (M : Entry) → sound_model m ≡ true → length (extraction_of M m).joined ≤ 128
records_suffice m M ok =
    let ids = starting_ids m.zerostate M in
    let p = (parts m ok).rest.shards in
    omega (
      arith,
      records (length ids + previous_cached m.shards) M.id.seqno ids m.shards,
      shards_blocks m.shards p.each_ok,
      leb-true (length m.shards) 8 p.count,
    )
