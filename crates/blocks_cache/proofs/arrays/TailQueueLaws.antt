-- The queue of tail ids in its arrays: it holds the ids that were added, with their fingerprints.
-- Assumes nothing.
use Rattle.block_records.proofs.arrays.ArrayLaws.{padded_longer, padded_zero, take_padded_at}
use Rattle.block_records.proofs.arrays.LoopLaws.{set_padded}
use Rattle.block_records.proofs.rules.Tests.{on}
use Rattle.block_records.specs.declared.block_id.BlockId.{BlockId}
use Rattle.block_records.specs.layout.Entry.{pack_prev_ids}
use Rattle.block_records.specs.layout.Listed.{PrevIds}
use Rattle.block_records.specs.layout.Zeros.{zero_id, zero_shard}
use Rattle.block_records.specs.rules.Lists.{padded}
use Rattle.blocks_cache.specs.arrays.TailIds.{fresh_ids}
use Rattle.blocks_cache.specs.arrays.TailQueue.{IsQueue, fingerprint}
use Rattle.cache_rules.specs.TailIdsOnce.{unknown_ids}
use Rattle.std.proofs.Common.{◌≡◌, ℕ, ◌+◌, ◌-◌, ◌≤◌, leb, List, [], ◌∷◌, ◌++◌, length, get_or, take, set, replicate, sym, refl, ap, ◌∙◌, ap₂, append_assoc, append-nil, arith, length-append, leb-true}
use Rattle.std.specs.Prelude.{map}
use lib.ListN.{length-replicate}
use lib.Seq.{length-take-le}
use Rattle.std.proofs.lemmas.List.{map-append, length-map}

-- ===== the ids that wait, in their array =====

-- two that are written after those that stand there; z is a zero
module _ {A : Type 0} (z : A) (known : List A) (few : length known ≤ 256) where
  two_written : (a b : A) → set (set (padded 258 z known) (length known) a) (length known + 1) b ≡ padded 258 z ((known ++ (a ∷ [])) ++ (b ∷ []))
  two_written a b =
      let l = length-append known (a ∷ []) in
      ap (λ (xs : List A). set xs (length known + 1) b) (set_padded 258 z known (length known) a refl (omega arith))
      ∙ set_padded 258 z (known ++ (a ∷ [])) (length known + 1) b (omega arith) (omega arith)

  zero_last : (xs : List A) → length xs ≤ 257 → padded 258 z (xs ++ (z ∷ [])) ≡ padded 258 z xs
  zero_last xs h = padded_zero 258 z xs (omega arith)

  fresh_written : (new : List A) (d e : A) → length new ≤ 2 →
      set (set (padded 258 z known) (length known) (get_or (padded 2 z new) 0 d)) (length known + 1) (get_or (padded 2 z new) 1 e) ≡ padded 258 z (known ++ new)
  unfolding padded
  fresh_written [] d e h =
      two_written z z ∙ zero_last (known ++ (z ∷ [])) (omega (arith, length-append known (z ∷ []))) ∙ zero_last known (omega arith)
      ∙ ap (padded 258 z) (sym (append-nil known))
  fresh_written (a ∷ []) d e h = two_written a z ∙ zero_last (known ++ (a ∷ [])) (omega (arith, length-append known (a ∷ [])))
  fresh_written (a ∷ b ∷ []) d e h = two_written a b ∙ ap (padded 258 z) (append_assoc known (a ∷ []) (b ∷ []))
  fresh_written (a ∷ b ∷ x ∷ xs) d e h = absurd (omega arith)

-- they have places
fresh_room : (known : List BlockId) → length known ≤ 256 → (ps : List BlockId) → length (known ++ fresh_ids known ps) ≤ 256
unfolding fresh_ids
fresh_room known few ps =
    let l : length known + length (unknown_ids known ps) ≤ 256 → length (known ++ unknown_ids known ps) ≤ 256 = λ h. omega (arith, length-append known (unknown_ids known ps)) in
    on (leb (length known + length (unknown_ids known ps)) 256)
    (λ t. rw t (l (leb-true (length known + length (unknown_ids known ps)) 256 t)))
    (λ t. rw (t, append-nil known) few)

-- the fingerprint of a zero is a zero
fingerprint_zero : fingerprint zero_id ≡ 0
unfolding fingerprint zero_id zero_shard
fingerprint_zero = refl

-- d is any id, k any number
first_fingerprint : (new : List BlockId) (d : BlockId) (k : ℕ) → fingerprint (get_or (padded 2 zero_id new) 0 d) ≡ get_or (padded 2 0 (map fingerprint new)) 0 k
unfolding padded
first_fingerprint [] d k = fingerprint_zero
first_fingerprint (a ∷ new) d k = refl

second_fingerprint : (new : List BlockId) (d : BlockId) (k : ℕ) → fingerprint (get_or (padded 2 zero_id new) 1 d) ≡ get_or (padded 2 0 (map fingerprint new)) 1 k
unfolding padded
second_fingerprint [] d k = fingerprint_zero
second_fingerprint (a ∷ []) d k = fingerprint_zero
second_fingerprint (a ∷ b ∷ new) d k = refl

-- the fingerprints are written beside the ids
fingerprints_written : (known new : List BlockId) (d e : BlockId) → length known ≤ 256 → length new ≤ 2 →
    set (set (padded 258 0 (map fingerprint known)) (length known) (fingerprint (get_or (padded 2 zero_id new) 0 d))) (length known + 1) (fingerprint (get_or (padded 2 zero_id new) 1 e))
    ≡ padded 258 0 (map fingerprint (known ++ new))
fingerprints_written known new d e few two =
    let n = length-map known fingerprint in
    ap₂ (λ (x y : ℕ). set (set (padded 258 0 (map fingerprint known)) (length known) x) (length known + 1) y) (first_fingerprint new d 0) (second_fingerprint new e 0)
    ∙ ap (λ (k : ℕ). set (set (padded 258 0 (map fingerprint known)) k (get_or (padded 2 0 (map fingerprint new)) 0 0)) (k + 1) (get_or (padded 2 0 (map fingerprint new)) 1 0)) (sym n)
    ∙ fresh_written 0 (map fingerprint known) (omega (arith, n)) (map fingerprint new) 0 0 (omega (arith, length-map new fingerprint))
    ∙ ap (padded 258 0) (sym (map-append fingerprint known new))

-- ===== the queue =====

-- no id waits yet
pub no_ids : IsQueue (replicate 258 zero_id) (replicate 258 0) 0
unfolding padded
no_ids = record { few = omega arith; ids_packed = refl; fingerprints_packed = refl }

module _ (ids : List BlockId) (prints : List ℕ) (count : ℕ) (h : IsQueue ids prints count) where
  -- the ids that were queued
  abbrev known : List BlockId
  known = take count ids

  queue_number : count ≡ length (take count ids)
  unfolding padded
  queue_number =
      let few : count ≤ 256 = h.few in
      let spare = 258 - length known in
      let same : length ids ≡ length (known ++ replicate (258 - length known) zero_id) = ap length h.ids_packed in
      let room : 258 ≤ length ids = omega (arith, same, length-append known (replicate spare zero_id), length-replicate spare zero_id) in
      sym (length-take-le count ids (omega (arith, few, room)))

  pub queue_prints : take count prints ≡ map fingerprint (take count ids)
  queue_prints = ap (take count) h.fingerprints_packed ∙ take_padded_at 258 0 (map fingerprint known) count (length-map known fingerprint ∙ sym queue_number)

  -- those that are new are written, with their fingerprints
  module _ (ps : List BlockId) (fresh : PrevIds) (of_fresh : fresh ≡ pack_prev_ids (fresh_ids (take count ids) ps)) where
    abbrev new_ids : List BlockId
    new_ids = fresh_ids known ps

    queue_few : length (take count ids) ≤ 256
    queue_few = let f = h.few in omega (arith, queue_number)

    pub fresh_within : count + fresh.count ≤ 256
    fresh_within = omega (arith, fresh_room known queue_few ps, length-append known new_ids, queue_number, ap (λ (p : PrevIds). p.count) of_fresh)

    module _ (two : length fresh.items ≡ 2) (d e : BlockId) (x y : ℕ) (of_first : x ≡ fingerprint (get_or fresh.items 0 d)) (of_second : y ≡ fingerprint (get_or fresh.items 1 e)) where
      items_are : fresh.items ≡ padded 2 zero_id new_ids
      items_are = ap (λ (p : PrevIds). p.items) of_fresh

      few_new : length (fresh_ids (take count ids) ps) ≤ 2
      few_new = omega (arith, padded_longer 2 zero_id new_ids, ap length items_are, two)

      -- the ids
      ids_are : set (set ids count (get_or fresh.items 0 d)) (count + 1) (get_or fresh.items 1 e) ≡ padded 258 zero_id (take count ids ++ fresh_ids (take count ids) ps)
      ids_are =
          ap (λ (xs : List BlockId). set (set ids count (get_or xs 0 d)) (count + 1) (get_or xs 1 e)) items_are
          ∙ ap (λ (xs : List BlockId). set (set xs count (get_or (padded 2 zero_id new_ids) 0 d)) (count + 1) (get_or (padded 2 zero_id new_ids) 1 e)) h.ids_packed
          ∙ ap (λ (n : ℕ). set (set (padded 258 zero_id known) n (get_or (padded 2 zero_id new_ids) 0 d)) (n + 1) (get_or (padded 2 zero_id new_ids) 1 e)) queue_number
          ∙ fresh_written zero_id known queue_few new_ids d e few_new

      -- their fingerprints
      prints_are : set (set prints count x) (count + 1) y ≡ padded 258 0 (map fingerprint (take count ids ++ fresh_ids (take count ids) ps))
      prints_are =
          let fx : x ≡ fingerprint (get_or (padded 2 zero_id new_ids) 0 d) = of_first ∙ ap (λ (xs : List BlockId). fingerprint (get_or xs 0 d)) items_are in
          let fy : y ≡ fingerprint (get_or (padded 2 zero_id new_ids) 1 e) = of_second ∙ ap (λ (xs : List BlockId). fingerprint (get_or xs 1 e)) items_are in
          ap₂ (λ (a b : ℕ). set (set prints count a) (count + 1) b) fx fy
          ∙ ap₂ (λ (xs : List ℕ) (n : ℕ). set (set xs n (fingerprint (get_or (padded 2 zero_id new_ids) 0 d))) (n + 1) (fingerprint (get_or (padded 2 zero_id new_ids) 1 e))) h.fingerprints_packed queue_number
          ∙ fingerprints_written known new_ids d e queue_few few_new

      pub added_ids : take (count + fresh.count) (set (set ids count (get_or fresh.items 0 d)) (count + 1) (get_or fresh.items 1 e)) ≡ take count ids ++ fresh_ids (take count ids) ps
      added_ids =
          ap (take (count + fresh.count)) ids_are
          ∙ take_padded_at 258 zero_id (known ++ new_ids) (count + fresh.count) (length-append known new_ids ∙ omega (arith, queue_number, ap (λ (p : PrevIds). p.count) of_fresh))

      pub still_queue : IsQueue (set (set ids count (get_or fresh.items 0 d)) (count + 1) (get_or fresh.items 1 e)) (set (set prints count x) (count + 1) y) (count + fresh.count)
      still_queue =
          record {
            few = fresh_within;
            ids_packed = ids_are ∙ ap (padded 258 zero_id) (sym added_ids);
            fingerprints_packed = prints_are ∙ ap (λ (xs : List BlockId). padded 258 0 (map fingerprint xs)) (sym added_ids);
          }

pub ruleset queue_added = (fresh_within, added_ids)
