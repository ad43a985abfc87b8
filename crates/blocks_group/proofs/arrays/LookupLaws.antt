-- What stands at a number, in a list of any element type: by the search, and after an element is put, or elements are retained.
-- Assumes nothing.
use Rattle.std.specs.List.{list_all, find}
use Rattle.std.specs.Prelude.{Option, option_map, None, Some, map, cond, filter, Err, Ok, Result}
use mathlib.Core.Bool.{Bool, not, true}
use mathlib.Core.List.{List, [], ◌∷◌}
use mathlib.Core.Logic.{◌≢◌}
use mathlib.Core.Path.{◌∙◌, ◌≡◌, refl, sym}
use Prim.Native.Nat.{◌≤◌, ℕ}
use native.Mathlib.Omega.{arith}
use borrow.Author.Tests.{eq-eqb, eqb-true, ltb-false, ltb-true, ne_eqb}
use lib.Dec.{eqb, ltb}
use Rattle.std.specs.declared.cmp.Ordering.TheVariants.{Equal, Less}
use Rattle.std.specs.Ordering.{is_eq, is_lt, nat_cmp}
use Rattle.block_records.proofs.arrays.PlaceLaws.{next_place, place_cons, place_each}
use Rattle.block_records.proofs.rules.Finds.{find_none}
use Rattle.block_records.proofs.rules.BlockIdLaws.{nat_eq_is, nat_lt_is}
use Rattle.block_records.proofs.rules.ListLaws.{every_select, every_weaken}
use Rattle.block_records.proofs.rules.Tests.{on}
use Rattle.block_records.specs.arrays.Place.{place}
use Rattle.block_records.specs.rules.Lists.{put, rising}
use Rattle.blocks_group.proofs.arrays.SearchLaws.{seqno_place_cons}
use Rattle.blocks_group.specs.arrays.Group.{found_at}
use Rattle.blocks_group.specs.arrays.Search.{number_below, number_is, seqno_place}
use Rattle.std.specs.Cmp.{first_so, second_so}

-- what stands at a place is found one place further with an element more in front
pub at_next : {A : Type 0} (z x : A) (xs : List A) (p : Result ℕ ℕ) → found_at z (x ∷ xs) (next_place p) ≡ found_at z xs p
at_next z x xs (Ok k) = refl
at_next z x xs (Err k) = refl

-- a comparison that calls what passes equal, and all else less
pub passes_is_lt : (b : Bool) → is_lt (cond b Equal Less) ≡ not b
passes_is_lt b = on b (λ t. rw t) (λ t. rw t)

pub passes_is_eq : (b : Bool) → is_eq (cond b Equal Less) ≡ b
passes_is_eq b = on b (λ t. rw t) (λ t. rw t)

-- at the place of the first that passes stands the first that passes
pub found_first : {A : Type 0} (p : A → Bool) (z : A) (xs : List A) → found_at z xs (place (λ (x : A). not (p x)) p xs) ≡ find p xs
unfolding place
found_first p z [] = refl
found_first p z (x ∷ xs) =
    let below = λ (x : _). not (p x) in
    rw (place_cons below p x xs)
    (on (p x) (λ t. rw t) (λ t. rw t (at_next z x xs (place below p xs) ∙ found_first p z xs)))

module _ {A B : Type 0} where
  -- a test of the images that says what a test of the elements says
  pub find_each : (f : A → B) (p : A → Bool) (q : B → Bool) → ((x : A) → q (f x) ≡ p x) → (xs : List A) → find q (map f xs) ≡ option_map f (find p xs)
  find_each f p q same [] = refl
  find_each f p q same (x ∷ xs) = on (p x) (λ t. rw (same x, t)) (λ t. rw (same x, t) (find_each f p q same xs))

module _ {A : Type 0} where
  -- the one found, where it passes
  abbrev pub if_passes : (A → Bool) → Option A → Option A
  if_passes p None = None
  if_passes p (Some a) = cond (p a) (Some a) None

module _ {A : Type 0} (f : A → ℕ) where
  abbrev by_f : A → A → Bool
  by_f x y = ltb (f x) (f y)

  -- above a number that is not below n there is no n
  find_above : (n : ℕ) (x : A) (xs : List A) → n ≤ f x → list_all (by_f x) xs ≡ true → find (λ (y : A). eqb (f y) n) xs ≡ None
  find_above n x xs l h =
      find_none (λ (y : A). eqb (f y) n) xs
      (every_weaken (by_f x) (λ (y : A). not (eqb (f y) n)) xs
      (λ y t. let m = ltb-true (f x) (f y) t in rw (ne_eqb (f y) n (λ e. omega arith))) h)

  -- a search that compares the numbers
  pub searched : (n : ℕ) (xs : List A) → place (λ (x : A). is_lt (nat_cmp (f x) n)) (λ (x : A). is_eq (nat_cmp (f x) n)) xs ≡ seqno_place n (map f xs)
  searched n xs =
      (λ i. place (λ (x : A). nat_lt_is (f x) n i) (λ (x : A). nat_eq_is (f x) n i) xs) ∙ sym (place_each f (number_below n) (number_is n) xs)

  -- ===== the search answers with what stands at the number =====

  pub seqno_place_finds : (n : ℕ) (z : A) (xs : List A) → rising by_f xs ≡ true → found_at z xs (seqno_place n (map f xs)) ≡ find (λ (y : A). eqb (f y) n) xs
  unfolding place
  seqno_place_finds n z [] r = refl
  seqno_place_finds n z (x ∷ xs) r =
      let above = first_so (list_all (by_f x) xs) (rising by_f xs) r in
      let ih = seqno_place_finds n z xs (second_so (list_all (by_f x) xs) (rising by_f xs) r) in
      rw (seqno_place_cons n (f x) (map f xs))
      (on (ltb (f x) n)
      (λ t. let l = ltb-true (f x) n t in rw (t, ne_eqb (f x) n (λ e. omega arith)) (at_next z x xs (seqno_place n (map f xs)) ∙ ih))
      (λ t. let l = ltb-false (f x) n t in
      rw t (on (eqb (f x) n) (λ u. rw u) (λ u. rw u (sym (find_above n x xs l above))))))

  -- ===== after an element is put =====

  pub find_put_same : (a : A) (xs : List A) → find (λ (y : A). eqb (f y) (f a)) (put by_f a xs) ≡ Some a
  find_put_same a [] = rw (eq-eqb (f a) (f a) refl)
  find_put_same a (x ∷ xs) =
      on (by_f a x)
      (λ t. rw (t, eq-eqb (f a) (f a) refl))
      (λ t. rw t
      (on (by_f x a)
      (λ u. let l = ltb-true (f x) (f a) u in rw (u, ne_eqb (f x) (f a) (λ e. omega arith)) (find_put_same a xs))
      (λ u. rw (u, eq-eqb (f a) (f a) refl))))

  pub find_put_other : (n : ℕ) (a : A) (xs : List A) → n ≢ f a → find (λ (y : A). eqb (f y) n) (put by_f a xs) ≡ find (λ (y : A). eqb (f y) n) xs
  find_put_other n a [] d = rw (ne_eqb (f a) n (λ e. d (sym e)))
  find_put_other n a (x ∷ xs) d =
      let away = ne_eqb (f a) n (λ e. d (sym e)) in
      on (by_f a x)
      (λ t. rw (t, away))
      (λ t. rw t
      (on (by_f x a)
      (λ u. rw u (on (eqb (f x) n) (λ v. rw v) (λ v. rw v (find_put_other n a xs d))))
      (λ u.
      let l = ltb-false (f a) (f x) t in
      let m = ltb-false (f x) (f a) u in
      rw (u, away, ne_eqb (f x) n (λ e. d (sym e ∙ omega arith))))))

  -- ===== after elements are retained =====

  pub find_retained : (n : ℕ) (p : A → Bool) (xs : List A) → rising by_f xs ≡ true → find (λ (y : A). eqb (f y) n) (filter p xs) ≡ if_passes p (find (λ (y : A). eqb (f y) n) xs)
  find_retained n p [] r = refl
  find_retained n p (x ∷ xs) r =
      let above = first_so (list_all (by_f x) xs) (rising by_f xs) r in
      let ih = find_retained n p xs (second_so (list_all (by_f x) xs) (rising by_f xs) r) in
      on (eqb (f x) n)
      (λ t.
      let e = eqb-true (f x) n t in
      on (p x)
      (λ u. rw (t, u, t))
      (λ u. rw (t, u) (find_above n x (filter p xs) (omega arith) (every_select (by_f x) p xs above))))
      (λ t. on (p x) (λ u. rw (t, u, t) ih) (λ u. rw (t, u) ih))
