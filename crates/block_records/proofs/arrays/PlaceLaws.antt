-- A place in a list, over any element type: one turn of a search; an element is put at the place that is found, and what is the same stands there.
-- Assumes nothing.
use Rattle.std.specs.List.{list_all, find}
use Rattle.std.specs.Prelude.{Option, None, Some, map, cond, Err, Ok, Result}
use mathlib.Core.Bool.{Bool, false, not, true}
use mathlib.Core.List.{List, [], ◌∷◌}
use mathlib.Core.Path.{◌∙◌, ◌≡◌, ap, refl}
use Prim.Native.Nat.{◌+◌, ◌<◌, ◌≤◌, suc, suc-le-suc, ℕ}
use native.Mathlib.Numerals.{add-one}
use native.Mathlib.Omega.{arith}
use borrow.Author.Tests.{le-leb, lt-leb}
use lib.Dec.{leb}
use lib.ListN.{get_or, length}
use Rattle.block_records.proofs.arrays.ArrayLaws.{length_spliced}
use Rattle.block_records.proofs.rules.Finds.{find_none}
use Rattle.block_records.proofs.rules.ListLaws.{every_weaken}
use Rattle.block_records.proofs.rules.Tests.{on}
use Rattle.block_records.specs.arrays.Arrays.{spliced}
use Rattle.block_records.specs.arrays.Place.{IsWithin, place, place_from}
use Rattle.block_records.specs.rules.Lists.{put, rising}
use Rattle.std.specs.Cmp.{first_so, second_so}

-- ===== the place by the list's first element =====

-- one place further
abbrev pub next_place : (Result ℕ ℕ) → (Result ℕ ℕ)
next_place (Ok k) = Ok (suc k)
next_place (Err k) = Err (suc k)

place_further : {A : Type 0} (below same : A → Bool) (i : ℕ) (xs : List A) → place_from below same (suc i) xs ≡ next_place (place_from below same i xs)
place_further below same i [] = refl
place_further below same i (x ∷ xs) =
    on (below x) (λ t. rw t (place_further below same (suc i) xs)) (λ t. rw t (on (same x) (λ u. rw u) (λ u. rw u)))

pub place_cons : {A : Type 0} (below same : A → Bool) (x : A) (xs : List A) →
    place below same (x ∷ xs) ≡ cond (below x) (next_place (place below same xs)) (cond (same x) (Ok 0) (Err 0))
unfolding place
place_cons below same x xs = rw (place_further below same 0 xs)

-- a place of a list of n elements
within_next : (n : ℕ) (f : (Result ℕ ℕ)) → IsWithin n f → IsWithin (suc n) (next_place f)
within_next n (Ok k) h = suc-le-suc h
within_next n (Err k) h = suc-le-suc h

place_within : {A : Type 0} (below same : A → Bool) (xs : List A) → IsWithin (length xs) (place_from below same 0 xs)
place_within below same [] = omega arith
place_within below same (x ∷ xs) =
    on (below x) (λ t. rw (t, place_further below same 0 xs) (within_next (length xs) (place_from below same 0 xs) (place_within below same xs)))
    (λ t. rw t (on (same x) (λ u. rw u (omega arith)) (λ u. rw u (omega arith))))

module _ {A : Type 0} (below same : A → Bool) (xs : List A) (k : ℕ) where
  pub at_within : place below same xs ≡ Ok k → k < length xs
  unfolding place
  at_within e = rw e at (place_within below same xs)

  pub vacant_within : place below same xs ≡ Err k → k ≤ length xs
  unfolding place
  vacant_within e = rw e at (place_within below same xs)

-- ===== an element is put at its place: `same` is that neither comes before the other =====

module _ {A : Type 0} (lt : A → A → Bool) (a : A) (same : A → Bool) (once : (x : A) → lt x a ≡ true → lt a x ≡ false)
    (level : (x : A) → lt x a ≡ false → same x ≡ not (lt a x)) where
  abbrev put_at : (Result ℕ ℕ) → List A → List A
  put_at (Ok k) xs = spliced k (k + 1) a xs
  put_at (Err k) xs = spliced k k a xs

  put_further : (f : (Result ℕ ℕ)) (x : A) (xs : List A) → put_at (next_place f) (x ∷ xs) ≡ x ∷ put_at f xs
  put_further (Ok k) x xs = rw (add-one (suc k), add-one k)
  put_further (Err k) x xs = refl

  put_placed : (xs : List A) → put lt a xs ≡ put_at (place_from (λ (x : A). lt x a) same 0 xs) xs
  put_placed [] = refl
  put_placed (x ∷ xs) = let ih = put_placed xs in on (lt x a) (before ih) after
    where
      before : put lt a xs ≡ put_at (place_from (λ (x : A). lt x a) same 0 xs) xs → lt x a ≡ true → put lt a (x ∷ xs) ≡ put_at (place_from (λ (x : A). lt x a) same 0 (x ∷ xs)) (x ∷ xs)
      before ih t =
          rw (t, once x t, place_further (λ (x : A). lt x a) same 0 xs, put_further (place_from (λ (x : A). lt x a) same 0 xs) x xs)
          (ap (λ (r : List A). x ∷ r) ih)

      after : lt x a ≡ false → put lt a (x ∷ xs) ≡ put_at (place_from (λ (x : A). lt x a) same 0 (x ∷ xs)) (x ∷ xs)
      after t = rw (t, level x t) (on (lt a x) (λ u. rw u) (λ u. rw u))

  module _ (xs : List A) (k : ℕ) where
    pub put_replaces : place (λ (x : A). lt x a) same xs ≡ Ok k → put lt a xs ≡ spliced k (k + 1) a xs
    unfolding place
    put_replaces e = put_placed xs ∙ ap (λ (f : (Result ℕ ℕ)). put_at f xs) e

    pub put_inserts : place (λ (x : A). lt x a) same xs ≡ Err k → put lt a xs ≡ spliced k k a xs
    unfolding place
    put_inserts e = put_placed xs ∙ ap (λ (f : (Result ℕ ℕ)). put_at f xs) e

-- ===== and whether it has a place among `size` =====

module _ {A : Type 0} (size : ℕ) (a : A) (xs : List A) (few : length xs ≤ size) (k : ℕ) where
  pub replaced_few : k < length xs → leb (length (spliced k (k + 1) a xs)) size ≡ true
  replaced_few h = le-leb (length (spliced k (k + 1) a xs)) size (omega (arith, length_spliced k (k + 1) a xs (omega arith) (omega arith)))

  pub inserted_few : k ≤ length xs → length xs < size → leb (length (spliced k k a xs)) size ≡ true
  inserted_few h l = le-leb (length (spliced k k a xs)) size (omega (arith, length_spliced k k a xs (omega arith) h))

  pub inserted_many : k ≤ length xs → size ≤ length xs → leb (length (spliced k k a xs)) size ≡ false
  inserted_many h l = lt-leb (length (spliced k k a xs)) size (omega (arith, length_spliced k k a xs (omega arith) h))

-- ===== what stands at the place that is found =====

module _ {A : Type 0} (below same : A → Bool) where
  abbrev pub element_at : A → (Result ℕ ℕ) → List A → Option A
  element_at d (Ok k) xs = Some (get_or xs k d)
  element_at d (Err k) xs = None

  at_further : (d : A) (f : (Result ℕ ℕ)) (x : A) (xs : List A) → element_at d (next_place f) (x ∷ xs) ≡ element_at d f xs
  at_further d (Ok k) x xs = refl
  at_further d (Err k) x xs = refl

  module _ (lt : A → A → Bool) (apart : (x : A) → below x ≡ true → same x ≡ false)
      (above : (x y : A) → below x ≡ false → same x ≡ false → lt x y ≡ true → not (same y) ≡ true) where
    finds_from : (d : A) (xs : List A) → rising lt xs ≡ true → find same xs ≡ element_at d (place_from below same 0 xs) xs
    finds_from d [] r = refl
    finds_from d (x ∷ xs) r =
        let ih = finds_from d xs (second_so (list_all (lt x) xs) (rising lt xs) r) in
        on (below x)
        (λ t. rw (t, apart x t, place_further below same 0 xs, at_further d (place_from below same 0 xs) x xs) ih)
        (λ t. rw t
        (on (same x) (λ u. rw u)
        (λ u. rw u (find_none same xs (every_weaken (lt x) (λ (y : A). not (same y)) xs (λ y l. above x y t u l) (first_so (list_all (lt x) xs) (rising lt xs) r))))))

    -- in a rising list the first that is the same stands there
    pub place_finds : (d : A) (xs : List A) → rising lt xs ≡ true → find same xs ≡ element_at d (place below same xs) xs
    unfolding place
    place_finds d xs r = finds_from d xs r

-- ===== in a list that is made of another =====

module _ {A B : Type 0} (f : A → B) where
  each_from : (below same : B → Bool) (i : ℕ) (xs : List A) → place_from below same i (map f xs) ≡ place_from (λ (x : A). below (f x)) (λ (x : A). same (f x)) i xs
  each_from below same i [] = refl
  each_from below same i (x ∷ xs) =
      on (below (f x)) (λ t. rw t (each_from below same (suc i) xs)) (λ t. rw t)

  pub place_each : (below same : B → Bool) (xs : List A) → place below same (map f xs) ≡ place (λ (x : A). below (f x)) (λ (x : A). same (f x)) xs
  unfolding place
  place_each below same xs = each_from below same 0 xs
