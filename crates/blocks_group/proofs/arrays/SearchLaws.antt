-- Search in a list of any length: one turn of the loop; and in a rising list the answer is right (`place_right`) and no other is (`place_only`).
-- Assumes nothing.
use Rattle.std.specs.Prelude.{cond, Err, Ok, Result}
use Rattle.std.specs.List.{list_all}
use mathlib.Core.Bool.{Bool, false, true}
use mathlib.Core.List.{List, [], ◌∷◌}
use mathlib.Core.Path.{◌≡◌, ap, refl, sym}
use Prim.Native.Nat.{◌<◌, ◌≤◌, suc, suc-le-suc, zero, ℕ}
use native.Mathlib.Nat.{le_of_suc-le-suc}
use native.Mathlib.Omega.{arith}
use borrow.Author.Tests.{eq-eqb, eqb-false, eqb-true, le-ltb, lt-ltb, ltb-false, ltb-true, ne_eqb}
use lib.Dec.{eqb, ltb}
use lib.ListN.{get_or, length}
use Rattle.block_records.proofs.arrays.ArrayLaws.{all_get_d}
use Rattle.block_records.proofs.arrays.PlaceLaws.{next_place, place_cons}
use Rattle.block_records.specs.arrays.Place.{place}
use Rattle.block_records.specs.rules.Lists.{rising}
use Rattle.blocks_group.specs.arrays.Search.{IsPlace, number_below, number_is, seqno_place}
use Rattle.std.specs.Cmp.{first_so, second_so}

-- ===== the answer by the list's first number =====

pub seqno_place_cons : (n x : ℕ) (xs : List ℕ) → seqno_place n (x ∷ xs) ≡ cond (ltb x n) (next_place (seqno_place n xs)) (cond (eqb x n) (Ok 0) (Err 0))
seqno_place_cons n x xs = place_cons (number_below n) (number_is n) x xs

-- ===== the answer is right, in a rising list =====

right_next : (n x : ℕ) (xs : List ℕ) (f : Result ℕ ℕ) → x < n → IsPlace xs n f → IsPlace (x ∷ xs) n (next_place f)
right_next n x xs (Ok k) l h = (suc-le-suc h.0, h.1)
right_next n x xs (Err k) l h = (suc-le-suc h.0, below, above)
  where
    below : (j : ℕ) → j < suc k → get_or (x ∷ xs) j 0 < n
    below zero b = l
    below (suc j) b = h.1 j (le_of_suc-le-suc b)

    above : (j : ℕ) → suc k ≤ j → j < length (x ∷ xs) → n < get_or (x ∷ xs) j 0
    above zero a b = absurd (omega arith)
    above (suc j) a b = h.2 j (le_of_suc-le-suc a) (le_of_suc-le-suc b)

-- in a rising list all numbers after the first are above it
above_first : (x : ℕ) (xs : List ℕ) → rising ltb (x ∷ xs) ≡ true → (j : ℕ) → j < length xs → x < get_or xs j 0
above_first x xs r j h = ltb-true x (get_or xs j 0) (all_get_d (ltb x) xs j 0 (first_so (list_all (ltb x) xs) (rising ltb xs) r) h)

from_first : (n x : ℕ) (xs : List ℕ) → rising ltb (x ∷ xs) ≡ true → n < x → (j : ℕ) → 0 ≤ j → j < length (x ∷ xs) → n < get_or (x ∷ xs) j 0
from_first n x xs r l zero a b = l
from_first n x xs r l (suc j) a b = omega (arith, above_first x xs r j (le_of_suc-le-suc b))

pub place_right : (n : ℕ) (xs : List ℕ) → rising ltb xs ≡ true → IsPlace xs n (seqno_place n xs)
unfolding place
place_right n [] r = (omega arith, (λ j b. absurd (omega arith)), (λ j a b. absurd (omega arith)))
place_right n (x ∷ xs) r = rw (seqno_place_cons n x xs) (go (ltb x n) (eqb x n) refl refl (place_right n xs (second_so (list_all (ltb x) xs) (rising ltb xs) r)))
  where
    go : (a b : Bool) → ltb x n ≡ a → eqb x n ≡ b → IsPlace xs n (seqno_place n xs) → IsPlace (x ∷ xs) n (cond a (next_place (seqno_place n xs)) (cond b (Ok 0) (Err 0)))
    go true b u v h = right_next n x xs (seqno_place n xs) (ltb-true x n u) h
    go false true u v h = (omega arith, eqb-true x n v)
    go false false u v h =
        let l = ltb-false x n u in
        let e = eqb-false x n v in
        (omega arith, (λ j b. absurd (omega arith)), from_first n x xs r (omega arith))

pub place_only : (n : ℕ) (xs : List ℕ) (f : Result ℕ ℕ) → rising ltb xs ≡ true → IsPlace xs n f → f ≡ seqno_place n xs
unfolding place
place_only n [] (Ok k) r h = absurd (omega (arith, h.0))
place_only n [] (Err zero) r h = refl
place_only n [] (Err (suc k)) r h = absurd (omega (arith, h.0))
place_only n (x ∷ xs) (Ok zero) r h = let l : n ≤ x = omega (arith, h.1) in sym (rw (seqno_place_cons n x xs, le-ltb x n l, eq-eqb x n h.1))
place_only n (x ∷ xs) (Ok (suc k)) r h =
    let l : x < n = rw h.1 at (above_first x xs r k (le_of_suc-le-suc h.0)) in
    rw (seqno_place_cons n x xs, lt-ltb x n l)
    (ap next_place (place_only n xs (Ok k) (second_so (list_all (ltb x) xs) (rising ltb xs) r) (le_of_suc-le-suc h.0, h.1)))
place_only n (x ∷ xs) (Err zero) r h =
    let l : n < x = h.2 0 (omega arith) (omega arith) in
    let m : n ≤ x = omega arith in
    sym (rw (seqno_place_cons n x xs, le-ltb x n m, ne_eqb x n (λ e. omega arith)))
place_only n (x ∷ xs) (Err (suc k)) r h =
    rw (seqno_place_cons n x xs, lt-ltb x n (h.1 0 (omega arith)))
    (ap next_place
    (place_only n xs (Err k) (second_so (list_all (ltb x) xs) (rising ltb xs) r)
    (le_of_suc-le-suc h.0, (λ j b. h.1 (suc j) (suc-le-suc b)), (λ j a b. h.2 (suc j) (suc-le-suc a) (suc-le-suc b)))))
