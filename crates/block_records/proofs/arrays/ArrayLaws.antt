-- Lists that stand in arrays, over any element type: the first places, what stands at a place, and one turn of each kind of loop that fills an array.
-- Assumes nothing.
use Rattle.std.specs.List.{list_all}
use Rattle.std.specs.Prelude.{map, cond, filter}
use mathlib.Core.Bool.{Bool, false, true}
use mathlib.Core.List.{List, [], ◌++◌, ◌∷◌, append_assoc}
use mathlib.Core.Path.{◌∙◌, ◌≡◌, ap, refl, sym}
use Prim.Native.Nat.{◌+◌, ◌-◌, ◌<◌, ◌≤◌, suc, zero, ℕ}
use native.Mathlib.Nat.{le_refl}
use native.Mathlib.Numerals.{add-one}
use native.Mathlib.Omega.{arith}
use borrow.Author.Tests.{ltb-false, ltb-true}
use lib.Dec.{ltb}
use lib.ListN.{get_or, length, length-append, length-drop, length-replicate, replicate, set, take}
use lib.Seq.{length-take-le, take_all, take_at}
use Rattle.block_records.proofs.arrays.LoopLaws.{set_padded, take_more}
use Rattle.block_records.proofs.rules.Tests.{on}
use Rattle.block_records.specs.arrays.Arrays.{flagged, spliced}
use Rattle.block_records.specs.rules.Lists.{padded, put}
use Rattle.std.specs.Cmp.{first_so, second_so}

-- a count, or the number of places where it is past them, is within the places
pub within_few : (size n : ℕ) → cond (ltb n size) n size ≤ size
within_few size n = on (ltb n size) (λ t. rw t (let m = ltb-true n size t in omega arith)) (λ t. rw t (le_refl size))

module _ {A : Type 0} where
  -- what holds of all holds at each place
  pub all_get_d : (p : A → Bool) (xs : List A) (i : ℕ) (d : A) → list_all p xs ≡ true → i < length xs → p (get_or xs i d) ≡ true
  all_get_d p [] i d e h = absurd (omega arith)
  all_get_d p (x ∷ xs) zero d e h = first_so (p x) (list_all p xs) e
  all_get_d p (x ∷ xs) (suc i) d e h = all_get_d p xs i d (second_so (p x) (list_all p xs) e) (omega arith)

  -- ===== the first places =====

  -- the first n elements are n, or all
  pub length_within : (size n : ℕ) (xs : List A) → length xs ≡ size → length (take n xs) ≡ cond (ltb n size) n size
  length_within size n xs l =
      on (ltb n size)
      (λ t. rw t (let m = ltb-true n size t in length-take-le n xs (omega arith)))
      (λ t. rw t (let m = ltb-false n size t in ap length (take_all n xs (omega arith)) ∙ l))

  -- .. and no more than all
  pub length_take_few : (n : ℕ) (xs : List A) → length (take n xs) ≤ length xs
  length_take_few zero xs = omega arith
  length_take_few (suc n) [] = omega arith
  length_take_few (suc n) (x ∷ xs) = let ih = length_take_few n xs in omega arith

  -- ===== an array of n places: the list, then z in the places that are left =====

  -- it has n places
  pub length_padded : (n : ℕ) (z : A) (xs : List A) → length xs ≤ n → length (padded n z xs) ≡ n
  unfolding padded
  length_padded n z xs h = simp (length-append, length-replicate) (omega arith)

  -- it is no shorter than its list
  pub padded_longer : (n : ℕ) (z : A) (xs : List A) → length xs ≤ length (padded n z xs)
  unfolding padded
  padded_longer n z xs = omega (arith, length-append xs (replicate (n - length xs) z))

  -- a z more in the places that are left
  pub padded_zero : (n : ℕ) (z : A) (xs : List A) → length xs < n → padded n z (xs ++ (z ∷ [])) ≡ padded n z xs
  unfolding padded
  padded_zero n z xs h =
      let l = length-append xs (z ∷ []) in
      let e : n - length xs ≡ suc (n - length (xs ++ (z ∷ []))) = omega arith in
      rw e (append_assoc xs (z ∷ []) (replicate (n - length (xs ++ (z ∷ []))) z))

  -- two places; d and e are any elements
  pub two_places : (xs : List A) (d e : A) → length xs ≡ 2 → xs ≡ get_or xs 0 d ∷ get_or xs 1 e ∷ []
  two_places [] d e h = absurd (omega arith)
  two_places (x ∷ []) d e h = absurd (omega arith)
  two_places (x ∷ y ∷ []) d e h = refl
  two_places (x ∷ y ∷ z ∷ zs) d e h = absurd (omega arith)

  -- its first places are the list
  pub take_padded_at : (n : ℕ) (z : A) (xs : List A) (k : ℕ) → length xs ≡ k → take k (padded n z xs) ≡ xs
  unfolding padded
  take_padded_at n z xs k e = take_at xs (replicate (n - length xs) z) k e

  -- ===== a loop that fills an array from the front with the list t, at place i =====

  -- one turn
  pub fill_next : (n : ℕ) (z : A) (t out : List A) (i : ℕ) (v d : A) → out ≡ padded n z (take i t) → v ≡ get_or t i d → i < length t → length t ≤ n →
      set out i v ≡ padded n z (take (i + 1) t)
  fill_next n z t out i v d o e h l =
      rw (o, e, take_more t i d h) (set_padded n z (take i t) i (get_or t i d) (length-take-le i t (omega arith)) (omega arith))

  -- the loop ends
  pub fill_end : (n : ℕ) (z : A) (t out : List A) (i : ℕ) → out ≡ padded n z (take i t) → length t ≤ i → out ≡ padded n z t
  fill_end n z t out i o h = o ∙ ap (padded n z) (take_all i t h)

-- ===== one element for those from place `at` up to `from` =====

module _ {A : Type 0} (at from : ℕ) (a : A) (xs : List A) (p : at ≤ from) (q : from ≤ length xs) where
  -- how many they are then
  pub length_spliced : length (spliced at from a xs) ≡ at + 1 + (length xs - from)
  length_spliced = simp (length-append, length-drop, length-take-le at xs (omega arith)) (omega arith)

-- ===== a loop that moves the flagged elements together: after the first i of xs, n are in `out` =====

module _ {A : Type 0} where
  -- one more flag that is set
  flagged_yes : (ks : List Bool) (xs : List A) (i : ℕ) (k : Bool) (d : A) → get_or ks i k ≡ true → i < length ks → i < length xs →
      flagged (take (suc i) ks) (take (suc i) xs) ≡ flagged (take i ks) (take i xs) ++ (get_or xs i d ∷ [])
  flagged_yes [] xs i k d e h l = absurd (omega arith)
  flagged_yes (y ∷ ks) [] i k d e h l = absurd (omega arith)
  flagged_yes (y ∷ ks) (x ∷ xs) zero k d e h l = rw e
  flagged_yes (y ∷ ks) (x ∷ xs) (suc i) k d e h l =
      let ih = flagged_yes ks xs i k d e (omega arith) (omega arith) in
      on y (λ t. rw (t, ih)) (λ t. rw (t, ih))

  -- one more flag that is not
  flagged_no : (ks : List Bool) (xs : List A) (i : ℕ) (k : Bool) → get_or ks i k ≡ false → i < length ks → i < length xs →
      flagged (take (suc i) ks) (take (suc i) xs) ≡ flagged (take i ks) (take i xs)
  flagged_no [] xs i k e h l = absurd (omega arith)
  flagged_no (y ∷ ks) [] i k e h l = absurd (omega arith)
  flagged_no (y ∷ ks) (x ∷ xs) zero k e h l = rw e
  flagged_no (y ∷ ks) (x ∷ xs) (suc i) k e h l =
      let ih = flagged_no ks xs i k e (omega arith) (omega arith) in
      on y (λ t. rw (t, ih)) (λ t. rw (t, ih))

  -- where the loop stands
  pub record Compacted (size : ℕ) (z : A) (ks : List Bool) (xs : List A) (i n : ℕ) (out : List A) : Type 0 where
    pub few : n ≤ i
    pub count : n ≡ length (flagged (take i ks) (take i xs))
    pub places : out ≡ padded size z (flagged (take i ks) (take i xs))

  module _ (size : ℕ) (z : A) (ks : List Bool) (xs : List A) (i n : ℕ) (out : List A) (c : Compacted size z ks xs i n out) where
    -- one turn, at an element that is flagged
    pub compact_yes : (k : Bool) (d : A) → get_or ks i k ≡ true → i < length ks → i < length xs → i < size → Compacted size z ks xs (i + 1) (n + 1) (set out n (get_or xs i d))
    compact_yes k d e h l b =
        let q : flagged (take (i + 1) ks) (take (i + 1) xs) ≡ flagged (take i ks) (take i xs) ++ (get_or xs i d ∷ []) = rw add-one (flagged_yes ks xs i k d e h l) in
        let f = c.few in
        record {
          few = omega arith;
          count = rw (q, length-append, ← c.count);
          places = rw (c.places, q) (set_padded size z (flagged (take i ks) (take i xs)) n (get_or xs i d) (sym c.count) (omega arith));
        }

    -- one turn, at one that is not
    pub compact_no : (k : Bool) → get_or ks i k ≡ false → i < length ks → i < length xs → Compacted size z ks xs (i + 1) n out
    compact_no k e h l =
        let q : flagged (take (i + 1) ks) (take (i + 1) xs) ≡ flagged (take i ks) (take i xs) = rw add-one (flagged_no ks xs i k e h l) in
        let f = c.few in
        record { few = omega arith; count = rw q c.count; places = rw q c.places }

-- ===== `each` of a list so changed =====

module _ {A B : Type 0} (f : A → B) where
  -- an order of the images that says what an order of the elements says
  pub each_put : (lt : A → A → Bool) (lt' : B → B → Bool) → ((x y : A) → lt' (f x) (f y) ≡ lt x y) → (a : A) (xs : List A) →
      put lt' (f a) (map f xs) ≡ map f (put lt a xs)
  each_put lt lt' same a [] = refl
  each_put lt lt' same a (x ∷ xs) =
      on (lt a x)
      (λ t. rw (same a x, t))
      (λ t. rw (same a x, t, same x a) (on (lt x a) (λ u. rw u (ap (λ (r : List B). f x ∷ r) (each_put lt lt' same a xs))) (λ u. rw u)))

  -- a test of the images that says what a test of the elements says
  pub each_select : (p : A → Bool) (q : B → Bool) → ((x : A) → q (f x) ≡ p x) → (xs : List A) → filter q (map f xs) ≡ map f (filter p xs)
  each_select p q same [] = refl
  each_select p q same (x ∷ xs) =
      on (p x)
      (λ t. rw (same x, t) (ap (λ (r : List B). f x ∷ r) (each_select p q same xs)))
      (λ t. rw (same x, t) (each_select p q same xs))
