-- A list in a fixed number of places: what packs it.
-- Assumes nothing.
use Prim.Native.Nat.{zero}
use Rattle.block_records.proofs.rules.ListLaws.{Order}
use Rattle.block_records.proofs.arrays.ScanLaws.{neighbours, rising_neighbours}
use Rattle.block_records.proofs.rules.Tests.{absurd_eq, on}
use Rattle.std.specs.List.{AllWithin, HoldsAt, list_any, find, IsAllAdjacentAnswer}
use Rattle.std.specs.Option.{MatchOption}
use Rattle.std.specs.Prelude.{suc, get_or, Result, Ok, Err, ◌<◌, take, ◌-◌, ◌+◌, ◌≤◌, ◌∷◌, List, [], ◌++◌, ◌≡◌, ℕ, drop, length, replicate, Bool, is_some, slice_get, Option, option_map, None, Some, true, false, not, slice_index_or}
use Rattle.std.proofs.lemmas.List.{drop-replicate, drop_all}
use native.Mathlib.Nat.{sub-zero}
use mathlib.Core.List.{append_assoc}
use Rattle.std.specs.Ordering.{is_eq, is_gt, is_lt, nat_cmp}
use lib.Dec.{ltb}
use Rattle.block_records.proofs.rules.BlockIdLaws.{nat_gt_is, nat_lt_is}
use Rattle.std.specs.declared.cmp.Ordering.{Ordering}
use Rattle.std.specs.declared.cmp.Ordering.TheVariants.{Less, Equal, Greater}
use Rattle.block_records.specs.arrays.Place.{place, place_from}
use Rattle.block_records.proofs.arrays.ArrayLaws.{length_within, within_few}
use Rattle.block_records.proofs.arrays.PlaceLaws.{inserted_few, inserted_many, put_inserts, put_replaces, replaced_few}
use mathlib.Core.Path.{ap, sym, ◌∙◌, refl}
use native.Mathlib.Omega.{arith}
use lib.ListN.{length-append}
use lib.Seq.{drop-cons, length-take-le}
use native.Mathlib.Numerals.{add-one}
use Rattle.block_records.specs.arrays.Arrays.{spliced}
use Rattle.block_records.specs.declared.listed.Listed.{Listed}
use Rattle.block_records.specs.layout.Listed.{Compares, listed, packed, put_listed}
use Rattle.block_records.specs.rules.Lists.{padded, last, rising}

module _ {A : Type 0} where
  pub packed_nil : (n : ℕ) (z : A) → ◌≡◌ {A = Listed A n} (record { count = 0; items = replicate n z }) (packed n z [])
  unfolding padded
  packed_nil n z = rw sub-zero

  -- the list over an array of zeros
  pub packed_over : (n : ℕ) (z : A) (xs : List A) → ◌≡◌ {A = Listed A n} (record { count = length xs; items = xs ++ drop (length xs) (replicate n z) }) (packed n z xs)
  unfolding padded
  packed_over n z xs = rw (drop-replicate (length xs) n z)

  -- the first `at` items, one more, and those of place `from` on, over an array of zeros
  pub spliced_over : (n : ℕ) (z a : A) (xs : List A) (at from : ℕ) → at ≤ from → from ≤ length xs →
      ◌≡◌ {A = Listed A n} (record {
        count = at + 1 + length (drop from xs);
        items = take at xs ++ (a ∷ (drop from xs ++ drop (length (take at xs) + (1 + length (drop from xs))) (replicate n z)));
      }) (packed n z (spliced at from a xs))
  unfolding padded
  spliced_over n z a xs at from p q =
      let front = take at xs in
      let back = drop from xs in
      let l : length front ≡ at = length-take-le at xs (omega arith) in
      let m : length (spliced at from a xs) ≡ length front + (1 + length back) = length-append front (a ∷ back) ∙ omega arith in
      let c : at + 1 + length back ≡ length (spliced at from a xs) = omega arith in
      let e : front ++ (a ∷ (back ++ drop (length front + (1 + length back)) (replicate n z))) ≡ padded n z (spliced at from a xs) =
      ap (λ (r : List A). front ++ (a ∷ (back ++ r))) (drop-replicate (length front + (1 + length back)) n z ∙ ap (λ (k : ℕ). replicate (n - k) z) (sym m))
      ∙ sym (append_assoc front (a ∷ back) (replicate (n - length (spliced at from a xs)) z)) in
      λ i. record { count = c i; items = e i }

-- ===== a place looked for by comparing, at place i of xs, where x stands =====

module _ {A : Type 0} (cmp : A → Ordering) (xs : List A) where
  -- what is looked for in the items from place i on
  abbrev pub places_from : ℕ → Result ℕ ℕ
  places_from i = place_from (λ (y : A). is_lt (cmp y)) (λ (y : A). is_eq (cmp y)) i (drop i xs)

  module _ (i : ℕ) (x : A) (here : x ≡ get_or xs i x) (h : i < length xs) where
    split_here : drop i xs ≡ x ∷ drop (i + 1) xs
    split_here = drop-cons xs i x h ∙ rw add-one (ap (λ (y : A). y ∷ drop (suc i) xs) (sym here))

    pub place_is_here : Equal ≡ cmp x → places_from i ≡ Ok i
    place_is_here e = rw (split_here, ← e)

    pub place_would_be_here : Greater ≡ cmp x → places_from i ≡ Err i
    place_would_be_here e = rw (split_here, ← e)

  pub place_at_end : (i : ℕ) → length xs ≤ i → i ≤ length xs → places_from i ≡ Err (length xs)
  place_at_end i h k = let e : i ≡ length xs = omega arith in rw (drop_all i xs h, e)

-- ===== what the library's methods answer, in the rules' words =====

-- one that passes is one that is found
pub any_finds : {A : Type 0} (p : A → Bool) (xs : List A) → list_any p xs ≡ is_some (find p xs)
any_finds p [] = refl
any_finds p (x ∷ xs) = on (p x) (λ t. rw t) (λ t. rw (t, any_finds p xs))

-- the last item is that at the place before the length
pub last_item : {A : Type 0} (xs : List A) → slice_get xs (length xs - 1) ≡ last xs
last_item [] = refl
last_item (x ∷ []) = refl
last_item (x ∷ y ∷ ys) = let e : suc (suc (length ys)) - 1 ≡ suc (suc (length ys) - 1) = omega arith in rw e (last_item (y ∷ ys))

-- the first that passes is the one that is found
module _ {A : Type 0} (p : A → Bool) where
  found_none : (xs : List A) → AllWithin (λ (x : A). p x ≡ false) xs 0 (length xs) → None ≡ find p xs
  found_none [] h = refl
  found_none (x ∷ xs) h = rw (h 0 x (omega arith) (omega arith)) (found_none xs (λ k d l m. h (suc k) d (omega arith) (omega arith)))

  found_some : (xs : List A) (a : A) → p a ≡ true → (i : ℕ) → i < length xs → HoldsAt (λ (y : A). y ≡ a) xs i → AllWithin (λ (x : A). p x ≡ false) xs 0 i → Some a ≡ find p xs
  found_some [] a t i l h w = absurd (omega arith)
  found_some (x ∷ xs) a t zero l h w = let e : x ≡ a = h x in rw (ap p e ∙ t) (ap Some (sym e))
  found_some (x ∷ xs) a t (suc i) l h w = rw (w 0 x (omega arith) (omega arith)) (found_some xs a t i (omega arith) h (λ k d m n. w (suc k) d (omega arith) (omega arith)))

  pub first_found : {C : Type 0} (v : C → A) (xs : List A) (r : Option C) →
      MatchOption r (AllWithin (λ (x : A). p x ≡ false) xs 0 (length xs)) (λ x. (p (v x) ≡ true) × (i : ℕ) × (i < length xs) × HoldsAt (λ (y : A). y ≡ v x) xs i × AllWithin (λ (x : A). p x ≡ false) xs 0 i) →
      option_map v r ≡ find p xs
  first_found v xs None h = found_none xs h
  first_found v xs (Some x) h = found_some xs (v x) h.0 h.1 h.2 h.3 h.4

-- each item comes before the next one: the list rises, where the order is transitive
module _ {A : Type 0} (lt : A → A → Bool) where
  holds : (xs : List A) → ((k : ℕ) (d : A) → k + 1 < length xs → true ≡ lt (slice_index_or xs k d) (slice_index_or xs (k + 1) d)) → true ≡ neighbours lt xs
  holds [] h = refl
  holds (x ∷ []) h = refl
  holds (x ∷ y ∷ ys) h =
      rw (← h 0 x (omega arith))
      (holds (y ∷ ys) (λ k d l. let q : suc k + 1 ≡ suc (k + 1) = omega arith in rw q at (h (suc k) d (omega arith))))

  fails : (xs : List A) (k : ℕ) → k + 1 < length xs → ((d : A) → false ≡ lt (slice_index_or xs k d) (slice_index_or xs (k + 1) d)) →
      false ≡ neighbours lt xs
  fails [] k h e = absurd (omega arith)
  fails (x ∷ []) k h e = absurd (omega arith)
  fails (x ∷ y ∷ ys) zero h e = rw (← e x)
  fails (x ∷ y ∷ ys) (suc k) h e =
      let q : suc k + 1 ≡ suc (k + 1) = omega arith in
      let r = fails (y ∷ ys) k (omega arith) (λ d. rw q at (e d)) in
      on (lt x y) (λ t. rw t r) (λ t. rw t)

  adjacent : (xs : List A) (r : Bool) → IsAllAdjacentAnswer (λ x y b. b ≡ lt x y) xs r → r ≡ neighbours lt xs
  adjacent xs true h = holds xs h
  adjacent xs false h = fails xs h.0 h.1 h.2

  pub sorted_rises : Order lt → (xs : List A) (r : Bool) → IsAllAdjacentAnswer (λ x y b. b ≡ lt x y) xs r → r ≡ rising lt xs
  sorted_rises o xs r h = adjacent xs r h ∙ sym (rising_neighbours lt o xs)

-- ===== an item put by what comparing it tells =====

lt_not_gt : (o : Ordering) → is_lt o ≡ true → is_gt o ≡ false
lt_not_gt Less h = refl
lt_not_gt Equal h = refl
lt_not_gt Greater h = absurd_eq h

eq_not_gt : (o : Ordering) → is_lt o ≡ false → is_eq o ≡ not (is_gt o)
eq_not_gt Less h = absurd_eq (sym h)
eq_not_gt Equal h = refl
eq_not_gt Greater h = refl

module _ {A : Type 0} (size : ℕ) (z : A) (lt : A → A → Bool) (a : A) (cmp : A → Ordering) (c : Compares lt a cmp) where
  abbrev level_with : A → Bool
  level_with x = is_eq (cmp x)

  compared_once : (x : A) → lt x a ≡ true → lt a x ≡ false
  compared_once x t = c.above x ∙ lt_not_gt (cmp x) (sym (c.below x) ∙ t)

  compared_level : (x : A) → lt x a ≡ false → level_with x ≡ not (lt a x)
  compared_level x t = eq_not_gt (cmp x) (sym (c.below x) ∙ t) ∙ ap not (sym (c.above x))

  module _ (l : Listed A size) (long : length l.items ≡ size) where
    few : length (listed l) ≤ size
    few = rw (length_within size l.count l.items long) (within_few size l.count)

    place_is : (p : Result ℕ ℕ) → p ≡ place (λ (x : A). is_lt (cmp x)) level_with (listed l) → place (λ (x : A). lt x a) level_with (listed l) ≡ p
    place_is p e = (λ i. place (λ (x : A). c.below x i) level_with (listed l)) ∙ sym e

    module _ (k : ℕ) where
      pub put_in_place : k < length (listed l) → Ok k ≡ place (λ (x : A). is_lt (cmp x)) level_with (listed l) → packed size z (spliced k (k + 1) a (listed l)) ≡ put_listed size z lt a l
      put_in_place h e =
          let p = put_replaces lt a level_with compared_once compared_level (listed l) k (place_is (Ok k) e) in
          rw (p, replaced_few size a (listed l) few k h)

      pub put_between : k ≤ length (listed l) → length (listed l) < size → Err k ≡ place (λ (x : A). is_lt (cmp x)) level_with (listed l) → packed size z (spliced k k a (listed l)) ≡ put_listed size z lt a l
      put_between h r e =
          let p = put_inserts lt a level_with compared_once compared_level (listed l) k (place_is (Err k) e) in
          rw (p, inserted_few size a (listed l) few k h r)

      pub put_nowhere : k ≤ length (listed l) → size ≤ length (listed l) → Err k ≡ place (λ (x : A). is_lt (cmp x)) level_with (listed l) → l ≡ put_listed size z lt a l
      put_nowhere h r e =
          let p = put_inserts lt a level_with compared_once compared_level (listed l) k (place_is (Err k) e) in
          rw (p, inserted_many size a (listed l) few k h r)

-- comparing by a number tells the order by that number
pub compares_by : {A : Type 0} (f : A → ℕ) (a : A) → Compares (λ (x y : A). ltb (f x) (f y)) a (λ (x : A). nat_cmp (f x) (f a))
compares_by f a = record { below = λ x. sym (nat_lt_is (f x) (f a)); above = λ x. sym (nat_gt_is (f x) (f a)) }
