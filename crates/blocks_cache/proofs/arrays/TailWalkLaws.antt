-- The walk of tail ids in its arrays: the queue, one turn of each loop, and the master.
-- Assumes nothing.
use Rattle.block_records.proofs.arrays.LoopLaws.{drop_next}
use Rattle.block_records.specs.declared.block_id.BlockId.{BlockId}
use Rattle.block_records.specs.declared.entry.BlockCacheEntry.{BlockCacheEntry}
use Rattle.block_records.specs.declared.entry.MasterBlock.{MasterBlock}
use Rattle.block_records.specs.declared.top_block.TopBlock.{TopBlock}
use Rattle.block_records.specs.layout.Listed.{PrevIds, TopBlocks}
use Rattle.block_records.specs.layout.Zeros.{zero_id, zero_prev_ids}
use Rattle.block_records.specs.rules.BlockId.{listed_prev_ids, listed_tops}
use Rattle.blocks_cache.proofs.arrays.TailRowLaws.{picked, passed}
use Rattle.blocks_cache.specs.arrays.Lookup.{cached_block}
use Rattle.blocks_cache.specs.arrays.TailIds.{fresh_ids, TailStep, block_tails, cached_row, first_state, hold_given, hold_row, no_step, read_tails, step_of, stepped, tails_at, take_queued, take_queued_at, take_tail_id, with_rows, cached_step, found_step, missing_row, missing_step, TailRows}
use Rattle.blocks_cache.specs.declared.cache.Cache.{Cache}
use Rattle.blocks_cache.specs.declared.tail_ids.TailIdsRow.{TailIdsRow}
use Rattle.blocks_cache.specs.declared.tail_ids.TailWalk.{TailWalk}
use Rattle.blocks_group.specs.arrays.Group.{block_at}
use Rattle.blocks_group.specs.layout.Block.{master_parts}
use Rattle.cache_rules.specs.Extraction.{top_id}
use Rattle.std.proofs.Common.{◌≡◌, ℕ, ◌+◌, ◌≤◌, leb, List, [], ◌++◌, length, get_or, sym, refl, ap, ◌∙◌, append-nil, arith, length-append, zero, suc, ◌-◌, ◌<◌, Bool, true, false, le-ltb, lt-ltb, le-leb, ◌||◌, eqb, ◌≢◌, eq-eqb, ne_eqb, ◌⊎◌, inl, inr}
use Rattle.std.specs.List.{fold}
use Rattle.block_records.specs.declared.questions.Refusal.TheVariants.{NoMaster}
use Rattle.blocks_cache.proofs.layout.CheckLaws.{not_found, passed_on, was_found}
use Rattle.std.proofs.lemmas.Option.{get_or_from_slice_get, none-some, slice_get_cases, slice_get_within}
use Rattle.std.specs.Prelude.{slice_get, map, cond, Err, Ok, Option, None, Some, drop}
use borrow.Author.Tests.{lt-leb}

-- ===== what an id gives and queues =====

module _ (c : Cache) (m : ℕ) (as_top : Bool) (i : BlockId) where
  pub step_skipped : i.seqno ≡ 0 → no_step ≡ step_of c m as_top i
  unfolding step_of
  step_skipped z = rw (eq-eqb i.seqno 0 z)

  step_taken : i.seqno ≢ 0 → (o : Option BlockCacheEntry) → cached_block i c ≡ o → found_step m as_top i o ≡ step_of c m as_top i
  unfolding step_of
  step_taken z o e = rw (ne_eqb i.seqno 0 z) (ap (found_step m as_top i) (sym e))

  module _ (z : i.seqno ≢ 0) where
    pub step_missing : cached_block i c ≡ None → as_top ≡ true → missing_step i ≡ step_of c m as_top i
    step_missing e t = picked as_top (missing_step i) no_step t ∙ step_taken z None e

    pub step_missed : cached_block i c ≡ None → as_top ≡ false → no_step ≡ step_of c m as_top i
    step_missed e t = passed as_top (missing_step i) no_step t ∙ step_taken z None e

    module _ (b : BlockCacheEntry) (e : cached_block i c ≡ Some b) where
      pub step_cached : as_top || eqb b.ref_by_mc_seqno m ≡ true → cached_step i b.prev_ids ≡ step_of c m as_top i
      step_cached t = picked (as_top || eqb b.ref_by_mc_seqno m) (cached_step i b.prev_ids) no_step t ∙ step_taken z (Some b) e

      pub step_foreign : as_top || eqb b.ref_by_mc_seqno m ≡ false → no_step ≡ step_of c m as_top i
      step_foreign t = passed (as_top || eqb b.ref_by_mc_seqno m) (cached_step i b.prev_ids) no_step t ∙ step_taken z (Some b) e

-- ===== one id of the walk =====

module _ (c : Cache) (m : ℕ) (as_top : Bool) (tails : TailRows) (known : List BlockId) (i : BlockId) (s : TailStep) (of_step : s ≡ step_of c m as_top i) where
  abbrev new_of : List BlockId
  new_of = fresh_ids known (listed_prev_ids s.queued)

  taken_is : record { tails = hold_given s tails; queue = known ++ fresh_ids known (listed_prev_ids s.queued) } ≡ take_tail_id c m as_top (record { tails = tails; queue = known }) i
  unfolding take_tail_id
  taken_is = ap (λ (x : TailStep). stepped x (record { tails = tails; queue = known })) of_step

  -- it queues nothing
  unqueued_is : s.queued ≡ zero_prev_ids → record { tails = hold_given s tails; queue = known } ≡ take_tail_id c m as_top (record { tails = tails; queue = known }) i
  unfolding zero_prev_ids fresh_ids
  unqueued_is e =
      let n : known ++ new_of ≡ known =
      ap (λ (p : PrevIds). known ++ fresh_ids known (listed_prev_ids p)) e
      ∙ ap (λ (xs : List BlockId). known ++ xs) (sym (same_either (leb (length known + 0) 256))) ∙ append-nil known in
      ap (λ (xs : List BlockId). record { tails = hold_given s tails; queue = xs }) (sym n) ∙ taken_is
    where
      same_either : (b : Bool) → ◌≡◌ {A = List BlockId} [] (cond b [] [])
      same_either true = refl
      same_either false = refl

-- ===== all tops in turn =====

abbrev after_tops : Cache → ℕ → TailWalk → List TopBlock → TailWalk
after_tops c m w ts = fold (take_tail_id c m true) w (map top_id ts)

module _ (c : Cache) (m : ℕ) (start : TailWalk) (xs : List TopBlock) where
  -- those that are left make of the walk so far what all make of the first
  pub record TopsTaken (i : ℕ) (tails : TailRows) (known : List BlockId) : Type 0 where
    pub rest : fold (take_tail_id c m true) start (map top_id xs) ≡ fold (take_tail_id c m true) (record { tails = tails; queue = known }) (map top_id (drop i xs))

module _ {c : Cache} {m : ℕ} {start : TailWalk} {xs : List TopBlock} {i : ℕ} {tails : TailRows} {known : List BlockId} (v : TopsTaken c m start xs i tails known) where
  -- x is any item
  module _ (h : i < length xs) (x : TopBlock) where
    abbrev id_here : BlockId
    id_here = (get_or xs i x).block_id

    top_taken : (st : TailWalk) → st ≡ take_tail_id c m true (record { tails = tails; queue = known }) id_here →
        after_tops c m start xs ≡ after_tops c m st (drop (i + 1) xs)
    top_taken st e =
        v.rest ∙ ap (after_tops c m (record { tails = tails; queue = known })) (drop_next xs i x h)
        ∙ ap (λ (y : TailWalk). after_tops c m y (drop (i + 1) xs)) (sym e)

    -- it queues nothing
    pub top_unqueued : (s : TailStep) → s ≡ step_of c m true (get_or xs i x).block_id → s.queued ≡ zero_prev_ids → (t : TailRows) → t ≡ hold_given s tails → TopsTaken c m start xs (i + 1) t known
    top_unqueued s of_step e t held =
        record {
          rest = top_taken (record { tails = t; queue = known }) (ap (λ (y : TailRows). record { tails = y; queue = known }) held ∙ unqueued_is c m true tails known id_here s of_step e);
        }

    pub top_queued : (s : TailStep) → s ≡ step_of c m true (get_or xs i x).block_id → (t : TailRows) → t ≡ hold_given s tails → (ks : List BlockId) →
        ks ≡ known ++ fresh_ids known (listed_prev_ids s.queued) → TopsTaken c m start xs (i + 1) t ks
    top_queued s of_step t held ks e =
        let ids = known ++ fresh_ids known (listed_prev_ids s.queued) in
        record {
          rest =
              top_taken (record { tails = t; queue = ids }) (ap (λ (y : TailRows). record { tails = y; queue = ids }) held ∙ taken_is c m true tails known id_here s of_step)
              ∙ ap (λ (ys : List BlockId). after_tops c m (record { tails = t; queue = ys }) (drop (i + 1) xs)) (sym e);
        }

    -- seqno 0 is skipped
    pub top_zero : (get_or xs i x).block_id.seqno ≡ 0 → TopsTaken c m start xs (i + 1) tails known
    top_zero z = top_unqueued no_step (step_skipped c m true id_here z) refl tails refl

    module _ (z : (get_or xs i x).block_id.seqno ≢ 0) where
      pub top_missing : cached_block (get_or xs i x).block_id c ≡ None → (t : TailRows) → t ≡ hold_row (missing_row (get_or xs i x).block_id) tails → TopsTaken c m start xs (i + 1) t known
      top_missing e = top_unqueued (missing_step id_here) (step_missing c m true id_here z e refl) refl

      pub top_cached : (b : BlockCacheEntry) → cached_block (get_or xs i x).block_id c ≡ Some b → (t : TailRows) → t ≡ hold_row (cached_row (get_or xs i x).block_id b.prev_ids) tails → (ks : List BlockId) →
          ks ≡ known ++ fresh_ids known (listed_prev_ids b.prev_ids) → TopsTaken c m start xs (i + 1) t ks
      top_cached b e = top_queued (cached_step id_here b.prev_ids) (step_cached c m true id_here z b e refl)

-- ===== each id that was queued =====

-- past the last one nothing is taken
pub queue_passed : (k : ℕ) (c : Cache) (m j : ℕ) (w : TailWalk) → length w.queue ≤ j → take_queued k c m j w ≡ w
unfolding take_queued
queue_passed zero c m j w h = refl
queue_passed (suc k) c m j w h = rw (le-ltb j (length w.queue) h) (queue_passed k c m (j + 1) w (omega arith))

queue_one : (k : ℕ) (c : Cache) (m j : ℕ) (w : TailWalk) → take_queued (suc k) c m j w ≡ take_queued k c m (j + 1) (take_queued_at c m j w)
unfolding take_queued
queue_one k c m j w = refl

module _ (c : Cache) (m : ℕ) (start : TailWalk) where
  -- those that are left make of the walk so far what all make of the first
  pub record QueueTaken (j : ℕ) (tails : TailRows) (known : List BlockId) : Type 0 where
    pub bound : j ≤ length known
    pub rest : take_queued 256 c m 0 start ≡ take_queued (256 - j) c m j (record { tails = tails; queue = known })

-- what no place has
none_past : (ids : List BlockId) (j : ℕ) → None ≡ slice_get ids j → length ids ≤ j
none_past ids j e = by (slice_get_cases ids j).1
  where
    by : ((x : BlockId) × (j < length ids) × (slice_get ids j ≡ Some x) × (get_or ids j x ≡ x)) ⊎ ((length ids ≤ j) × (slice_get ids j ≡ None)) → length ids ≤ j
    by (inl h) = absurd (none-some h.0 (e ∙ h.2))
    by (inr h) = h.0

module _ {c : Cache} {m : ℕ} {start : TailWalk} {j : ℕ} {tails : TailRows} {known : List BlockId} (v : QueueTaken c m start j tails known) where
  abbrev so_far : TailWalk
  so_far = record { tails = tails; queue = known }

  pub queue_end : None ≡ slice_get known j → tails ≡ (take_queued 256 c m 0 start).tails
  queue_end e = ap (λ (x : TailWalk). x.tails) (sym (v.rest ∙ queue_passed (256 - j) c m j so_far (none_past known j e)))

  module _ (few : length known ≤ 256) (id : BlockId) (e : Some id ≡ slice_get known j) where
    pub id_within : j < length known
    id_within = slice_get_within known j id (sym e)

    id_taken : (st : TailWalk) → st ≡ take_tail_id c m false so_far id → take_queued 256 c m 0 start ≡ take_queued (256 - (j + 1)) c m (j + 1) st
    id_taken st e₂ =
        let h = id_within in
        let k : 256 - j ≡ suc (256 - (j + 1)) = omega arith in
        let l : get_or known j zero_id ≡ id = get_or_from_slice_get known j id zero_id (sym e) in
        let q : take_queued_at c m j so_far ≡ take_tail_id c m false so_far id = rw (lt-ltb j (length known) h, l) in
        v.rest ∙ ap (λ (i : ℕ). take_queued i c m j so_far) k ∙ queue_one (256 - (j + 1)) c m j so_far ∙ ap (take_queued (256 - (j + 1)) c m (j + 1)) (q ∙ sym e₂)

    -- it gives nothing
    pub queue_skip : no_step ≡ step_of c m false id → QueueTaken c m start (j + 1) tails known
    queue_skip of_step = record { bound = omega (arith, id_within); rest = id_taken so_far (unqueued_is c m false tails known id no_step of_step refl) }

    pub queue_next : (s : TailStep) → s ≡ step_of c m false id → (t : TailRows) → t ≡ hold_given s tails → (ks : List BlockId) →
        ks ≡ known ++ fresh_ids known (listed_prev_ids s.queued) → QueueTaken c m start (j + 1) t ks
    queue_next s of_step t held ks e₂ =
        let ids = known ++ fresh_ids known (listed_prev_ids s.queued) in
        record {
          bound = omega (arith, ap length e₂, length-append known (fresh_ids known (listed_prev_ids s.queued)), id_within);
          rest =
              id_taken (record { tails = t; queue = ids }) (ap (λ (y : TailRows). record { tails = y; queue = ids }) held ∙ taken_is c m false tails known id s of_step)
              ∙ ap (λ (xs : List BlockId). take_queued (256 - (j + 1)) c m (j + 1) (record { tails = t; queue = xs })) (sym e₂);
        }

    -- seqno 0 is skipped
    pub queue_zero : id.seqno ≡ 0 → QueueTaken c m start (j + 1) tails known
    queue_zero z = queue_skip (step_skipped c m false id z)

    module _ (z : id.seqno ≢ 0) where
      pub queue_missed : cached_block id c ≡ None → QueueTaken c m start (j + 1) tails known
      queue_missed n = queue_skip (step_missed c m false id z n refl)

      module _ (b : BlockCacheEntry) (f : cached_block id c ≡ Some b) where
        pub queue_foreign : b.ref_by_mc_seqno ≢ m → QueueTaken c m start (j + 1) tails known
        queue_foreign n = queue_skip (step_foreign c m false id z b f (ne_eqb b.ref_by_mc_seqno m n))

        pub queue_joined : b.ref_by_mc_seqno ≡ m → (t : TailRows) → t ≡ hold_row (cached_row id b.prev_ids) tails → (ks : List BlockId) →
            ks ≡ known ++ fresh_ids known (listed_prev_ids b.prev_ids) → QueueTaken c m start (j + 1) t ks
        queue_joined n = queue_next (cached_step id b.prev_ids) (step_cached c m false id z b f (eq-eqb b.ref_by_mc_seqno m n))

pub ruleset queue_turns = (queue_end, id_within, queue_zero, queue_missed, queue_foreign)

-- ===== the two loops, one after the other =====

module _ (c : Cache) (m : ℕ) (first : TailIdsRow) (tops : TopBlocks) (walk : TailWalk)
    (of_tops : walk ≡ fold (take_tail_id c m true) (first_state first) (map top_id (listed_tops tops))) where
  pub tails_walked : (b : MasterBlock) → first ≡ cached_row b.entry.block_id b.entry.prev_ids → tops ≡ b.tops → m ≡ b.entry.block_id.seqno →
      (t : TailRows) → t ≡ (take_queued 256 c m 0 walk).tails → t ≡ block_tails b c
  unfolding block_tails
  tails_walked b ef et em t e =
      e ∙ ap (λ (w : TailWalk). (take_queued 256 c m 0 w).tails) of_tops
      ∙ rw (ef, et, em) refl

-- ===== the master =====

module _ (n : ℕ) (c : Cache) where
  pub read_early : n ≤ c.zerostate_mc_seqno → Ok (with_rows []) ≡ read_tails n c
  unfolding read_tails
  read_early h = rw (le-leb n c.zerostate_mc_seqno h)

  module _ (h : c.zerostate_mc_seqno < n) where
    read_late : read_tails n c ≡ tails_at (block_at master_parts n c.masters) c
    unfolding read_tails
    read_late = rw (lt-leb n c.zerostate_mc_seqno h)

    pub read_missed : block_at master_parts n c.masters ≡ None → read_tails n c ≡ Err NoMaster
    read_missed e = read_late ∙ ap (λ (o : Option MasterBlock). tails_at o c) e

    pub read_found : (b : MasterBlock) → block_at master_parts n c.masters ≡ Some b → read_tails n c ≡ Ok (block_tails b c)
    read_found b e = read_late ∙ ap (λ (o : Option MasterBlock). tails_at o c) e

pub ruleset tails_read = (passed_on, not_found, was_found, read_early, read_missed, read_found)
