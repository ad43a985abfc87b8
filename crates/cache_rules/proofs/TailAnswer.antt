-- Tail ids on a sound cache: the computed walk is the literal one, each queued id once gives the same answer, and there are at most 17 rows.
-- Assumes nothing.
use Rattle.std.specs.List.{list_all, flat_map, fold}
use Rattle.std.specs.Prelude.{Option, None, Some, map}
use mathlib.Core.Bool.{Bool, ◌||◌, false, true}
use mathlib.Core.List.Memᴰ
use mathlib.Core.List.{List, Memᴰ, [], ◌++◌, ◌∷◌}
use mathlib.Core.Logic.{◌⊎◌, inl, inr}
use mathlib.Core.Path.{◌∙◌, ◌≡◌, ap, ap₂, refl, subst, sym}
use Prim.Native.Nat.{◌+◌, ◌<◌, ◌≤◌, suc, ℕ}
use native.Mathlib.Omega.{arith}
use borrow.Author.Tests.{leb-true, ltb-true}
use lib.Dec.{eqb, ltb}
use lib.ListN.{length, length-append}
use Rattle.block_records.specs.declared.block_id.BlockId.{BlockId}
use Rattle.block_records.specs.declared.block_id.BlockIdShort.{BlockIdShort}
use Rattle.block_records.specs.declared.block_id.ShardIdent.{ShardIdent}
use Rattle.block_records.proofs.rules.Finds.{each_member, member_each}
use Rattle.block_records.proofs.rules.ListLaws.{every_member}
use Rattle.block_records.proofs.rules.Tests.{clash, on}
use Rattle.block_records.specs.rules.BlockId.{id_shard, key}
use Rattle.block_records.specs.rules.Entry.{Entry}
use Rattle.block_records.specs.rules.Lists.{rising}
use Rattle.block_records.specs.rules.Questions.{entry_fits, previous_fits}
use Rattle.blocks_group.proofs.rules.GroupLaws.{tops_eight}
use Rattle.cache_rules.proofs.SoundLaws.{cached_fits, looked_up, lookup_cached, parts}
use Rattle.cache_rules.proofs.TailFifo.{fifo_unique}
use Rattle.cache_rules.proofs.TailKnown.{distinct_fits}
use Rattle.cache_rules.proofs.TailLevels.{Below, deep, deep_queued, flat_map_from, flat_map_member, highest_below, levels_fifo, levels_split, next_below, queued_deep}
use Rattle.cache_rules.proofs.TailOnce.{OnceInv, done_queued, known_fits, once_ends, once_start, queued_done, times_inv}
use Rattle.cache_rules.proofs.TailRows.{fold_append, fold_rising, same_ids_same_rows}
use Rattle.cache_rules.proofs.TailShards.{Within, fold_within, gives_shard, row_shard, rows_distinct}
use Rattle.cache_rules.specs.Calls.{TailRow}
use Rattle.cache_rules.specs.Extraction.{previous_cached, previous_in, top_id}
use Rattle.cache_rules.specs.Model.{Model, ShardModel, block_under}
use Rattle.cache_rules.specs.Refusals.{sound_model}
use Rattle.cache_rules.specs.TailIds.{Fifo, first_row, found_queues, gives, highest, hold, levels, queues, tail_before, tails_of, top_ids, waits}
use Rattle.cache_rules.specs.TailIdsOnce.{OnceWalk, once_begin, once_times, tails_once}
use Rattle.std.proofs.lemmas.List.{length-map}
use Rattle.std.specs.Cmp.{first_so, second_so}

-- ===== the ids that a cache can queue =====

-- a queued id is a previous id of the block found there
found_queued : (m : ℕ) (as_top : Bool) (o : Option Entry) {p : BlockId} → Memᴰ p (found_queues m as_top o) → (e : Entry) × (o ≡ Some e) × Memᴰ p e.previous
found_queued m as_top None u = absurd (Memᴰ.not-nil u)
found_queued m as_top (Some e) u = on (as_top || eqb e.reference m) (λ t. (e, refl, rw t at u)) (λ t. absurd (Memᴰ.not-nil (rw t at u)))

queued_from : (gs : List ShardModel) (m : ℕ) (as_top : Bool) (i : BlockId) {p : BlockId} → Memᴰ p (queues gs m as_top i) →
    (e : Entry) × (block_under gs (key i) ≡ Some e) × Memᴰ p e.previous
queued_from gs m as_top i u =
    on (eqb i.seqno 0) (λ t. absurd (Memᴰ.not-nil (rw t at u))) (λ t. found_queued m as_top (block_under gs (key i)) (rw t at u))

entry_previous : Entry → List BlockId
entry_previous e = e.previous

shard_previous : ShardModel → List BlockId
shard_previous g = flat_map entry_previous g.group.entries

-- all previous ids of the cached shard blocks
all_previous : List ShardModel → List BlockId
all_previous gs = flat_map shard_previous gs

length_entries : (es : List Entry) → length (flat_map entry_previous es) ≡ previous_in es
unfolding entry_previous
length_entries [] = refl
length_entries (e ∷ es) = length-append e.previous (flat_map entry_previous es) ∙ ap (λ (n : ℕ). length e.previous + n) (length_entries es)

length_all : (gs : List ShardModel) → length (all_previous gs) ≡ previous_cached gs
unfolding all_previous shard_previous
length_all [] = refl
length_all (g ∷ gs) =
    length-append (shard_previous g) (flat_map shard_previous gs) ∙ ap₂ (λ (a b : ℕ). a + b) (length_entries g.group.entries) (length_all gs)

previous_among : (gs : List ShardModel) (k : BlockIdShort) (e : Entry) {p : BlockId} → block_under gs k ≡ Some e → Memᴰ p e.previous → Memᴰ p (all_previous gs)
unfolding all_previous shard_previous entry_previous
previous_among gs k e {p} f u =
    let r = looked_up k e gs f in flat_map_member shard_previous gs r.1 (flat_map_member entry_previous r.0.group.entries r.3 u)

queue_in : (gs : List ShardModel) (m : ℕ) (as_top : Bool) (i p : BlockId) → Memᴰ p (queues gs m as_top i) → Memᴰ p (all_previous gs)
queue_in gs m as_top i p u = let r = queued_from gs m as_top i u in previous_among gs (key i) r.0 r.1 r.2

model_shard : ShardModel → ShardIdent
model_shard g = g.shard

-- ===== the answer =====

module _ (m : Model) (ok : sound_model m ≡ true) (M : Entry) where
  abbrev gs : List ShardModel
  gs = m.shards

  abbrev mm : ℕ
  mm = M.id.seqno

  falls : (as_top : Bool) (i p : BlockId) → Memᴰ p (queues gs mm as_top i) → p.seqno < i.seqno
  falls as_top i p u =
      let r = queued_from gs mm as_top i u in
      let e = r.0 in
      let c = lookup_cached m (key i) e r.1 in
      let fit : entry_fits e ≡ true = cached_fits m ok (key i) e c in
      let ps : list_all (previous_fits e.id) e.previous ≡ true = search (first_so, second_so) in
      let q : previous_fits e.id p ≡ true = every_member (previous_fits e.id) e.previous ps r.2 in
      let l : ltb p.seqno e.id.seqno ≡ true = search first_so in
      omega (arith, ltb-true p.seqno e.id.seqno l, c.at_its_seqno)

  abbrev ids₁ : List BlockId
  ids₁ = flat_map (queues gs mm true) (top_ids M)

  ids_in : (i : BlockId) → Memᴰ i ids₁ → Memᴰ i (all_previous gs)
  ids_in i u = let r = flat_map_from (queues gs mm true) (top_ids M) u in queue_in gs mm true r.0 i r.2

  abbrev at_end : OnceWalk
  at_end = once_times (previous_cached gs) gs mm (once_begin gs M)

  inv : OnceInv gs mm ids₁ (all_previous gs) ids_in (queue_in gs mm false) at_end.done at_end.queue
  inv = times_inv gs mm ids₁ (all_previous gs) ids_in (queue_in gs mm false) (previous_cached gs) (once_begin gs M) (once_start gs mm ids₁ (all_previous gs) ids_in (queue_in gs mm false))

  pub ended : at_end.queue ≡ []
  ended =
      once_ends gs mm ids₁ (all_previous gs) ids_in (queue_in gs mm false) (previous_cached gs) (once_begin gs M) (once_start gs mm ids₁ (all_previous gs) ids_in (queue_in gs mm false))
      (omega (arith, length_all gs))

  -- no more ids are taken than the cache holds previous ids
  pub done_fits : length at_end.done ≤ previous_cached gs
  done_fits = omega (arith, known_fits gs mm ids₁ (all_previous gs) ids_in (queue_in gs mm false) at_end.done at_end.queue inv, length_all gs)

  -- the literal walk's rows are what `levels` computes
  pub tails_fifo : Fifo gs mm (map (waits true) (top_ids M)) (levels (suc (highest (top_ids M))) gs mm true (top_ids M))
  tails_fifo = levels_fifo gs mm falls (suc (highest (top_ids M))) true (top_ids M) (highest_below (top_ids M))

  -- and those of the literal walk, whichever way it is shown
  pub tails_literal : (rows : List TailRow) → Fifo gs mm (map (waits true) (top_ids M)) rows → fold hold (first_row M ∷ []) rows ≡ tails_of gs M
  tails_literal rows f = ap (fold hold (first_row M ∷ [])) (fifo_unique gs mm f tails_fifo)

  abbrev deep_ids : List BlockId
  deep_ids = deep (highest (top_ids M)) gs mm ids₁

  -- the walk that takes each queued id once gives the same rows
  pub tails_same : tails_once gs M ≡ tails_of gs M
  tails_same =
      let d = highest (top_ids M) in
      let below : Below d ids₁ = next_below gs mm falls d true (top_ids M) (highest_below (top_ids M)) in
      let rows = fold hold (first_row M ∷ []) (flat_map (gives gs mm true) (top_ids M)) in
      let one : rising tail_before rows ≡ true = fold_rising (flat_map (gives gs mm true) (top_ids M)) (first_row M ∷ []) refl in
      same_ids_same_rows gs mm rows at_end.done (deep d gs mm ids₁) one
      (λ i u. queued_done gs mm ids₁ (all_previous gs) ids_in (queue_in gs mm false) at_end ended inv (deep_queued d gs mm ids₁ u))
      (λ i u. queued_deep gs mm falls d ids₁ below (done_queued gs mm ids₁ (all_previous gs) ids_in (queue_in gs mm false) at_end ended inv u))
      ∙ sym (fold_append hold (first_row M ∷ []) (flat_map (gives gs mm true) (top_ids M)) (flat_map (gives gs mm false) (deep d gs mm ids₁)))
      ∙ ap (fold hold (first_row M ∷ [])) (sym (levels_split d gs mm (top_ids M)))

  -- the rows' shards: M's, the tops', and those of the groups
  abbrev all_shards : List ShardIdent
  all_shards = id_shard M.id ∷ (map id_shard (top_ids M) ++ map model_shard gs)

  gives_within : (t : TailRow) → Memᴰ t (flat_map (gives gs mm true) (top_ids M) ++ flat_map (gives gs mm false) deep_ids) → Memᴰ t.shard all_shards
  unfolding model_shard
  gives_within t u = by (Memᴰ.append_cases (flat_map (gives gs mm true) (top_ids M)) u)
    where
      of_top : (i : BlockId) → Memᴰ i (top_ids M) → t.shard ≡ id_shard i → Memᴰ t.shard all_shards
      of_top i v e =
          Memᴰ.tail (Memᴰ.append_left (map model_shard gs) (subst (λ (s : ShardIdent). Memᴰ s (map id_shard (top_ids M))) (sym e) (each_member id_shard (top_ids M) v)))

      of_group : (i : BlockId) → t.shard ≡ id_shard i → (e : Entry) → block_under gs (key i) ≡ Some e → Memᴰ t.shard all_shards
      of_group i s e f =
          let r = looked_up (key i) e gs f in
          Memᴰ.tail (Memᴰ.append_right (map id_shard (top_ids M)) (subst (λ (z : ShardIdent). Memᴰ z (map model_shard gs)) (r.2 ∙ sym s) (each_member model_shard gs r.1)))

      deeper : (i : BlockId) → (t.shard ≡ id_shard i) × ((false ≡ true) ⊎ ((e : Entry) × (block_under gs (key i) ≡ Some e))) → Memᴰ t.shard all_shards
      deeper i (s, inl h) = clash h refl
      deeper i (s, inr e) = of_group i s e.0 e.1

      by : Memᴰ t (flat_map (gives gs mm true) (top_ids M)) ⊎ Memᴰ t (flat_map (gives gs mm false) deep_ids) → Memᴰ t.shard all_shards
      by (inl v) = let r = flat_map_from (gives gs mm true) (top_ids M) v in of_top r.0 r.1 (gives_shard gs mm true r.0 r.2).0
      by (inr v) = let r = flat_map_from (gives gs mm false) deep_ids v in deeper r.0 (gives_shard gs mm false r.0 r.2)

  -- at most 17 rows
  pub at_most_17 : entry_fits M ≡ true → length (tails_of gs M) ≤ 17
  unfolding row_shard
  at_most_17 fit =
      let split = levels_split (highest (top_ids M)) gs mm (top_ids M) in
      let within : Within all_shards (tails_of gs M) =
      fold_within all_shards (levels (suc (highest (top_ids M))) gs mm true (top_ids M)) (first_row M ∷ [])
      (λ t u. gives_within t (subst (λ (l : List TailRow). Memᴰ t l) split u))
      (λ t u. first_in t (Memᴰ.cases_cons u)) in
      let rise : rising tail_before (tails_of gs M) ≡ true = fold_rising (levels (suc (highest (top_ids M))) gs mm true (top_ids M)) (first_row M ∷ []) refl in
      let few : length (map row_shard (tails_of gs M)) ≤ length all_shards =
      distinct_fits (map row_shard (tails_of gs M)) all_shards (rows_distinct (tails_of gs M) rise)
      (λ s u. let r = member_each row_shard (tails_of gs M) u in subst (λ (z : ShardIdent). Memᴰ z all_shards) (sym r.2) (within r.0 r.1)) in
      omega (
        arith,
        few,
        length-map (tails_of gs M) row_shard,
        length-append (map id_shard (top_ids M)) (map model_shard gs),
        length-map (top_ids M) id_shard,
        length-map M.tops top_id,
        length-map gs model_shard,
        tops_eight M fit,
        leb-true (length gs) 8 (parts m ok).rest.shards.count,
      )
    where
      first_in : (t : TailRow) → (t ≡ first_row M) ⊎ Memᴰ t [] → Memᴰ t.shard all_shards
      first_in t (inl e) = Memᴰ.head (ap (λ (r : TailRow). r.shard) e)
      first_in t (inr v) = absurd (Memᴰ.not-nil v)
