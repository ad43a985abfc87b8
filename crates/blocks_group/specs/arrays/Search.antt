-- Where a number stands in a rising list, or the place where it would go in; and in plain words what that is (proofs/arrays/SearchLaws).
-- Assumes nothing.
use Rattle.std.specs.Prelude.{Bool, List, ◌≡◌, ◌<◌, ◌≤◌, ℕ, eqb, ltb, get_or, length, Err, Ok, Result}
use Rattle.block_records.specs.arrays.Place.{place}

-- a number below another
abbrev pub number_below : ℕ → ℕ → Bool
number_below n x = ltb x n

-- the number itself
abbrev pub number_is : ℕ → ℕ → Bool
number_is n x = eqb x n

-- the place of a seqno among others
abbrev pub seqno_place : ℕ → List ℕ → Result ℕ ℕ
seqno_place n xs = place (number_below n) (number_is n) xs

-- At a place: the number stands there. Vacant: all before the place are below the number, and all from it on above.
abbrev pub IsPlace : List ℕ → ℕ → Result ℕ ℕ → Type 0
IsPlace xs n (Ok k) = (k < length xs) × (get_or xs k 0 ≡ n)
IsPlace xs n (Err k) = (k ≤ length xs) × ((j : ℕ) → j < k → get_or xs j 0 < n) × ((j : ℕ) → k ≤ j → j < length xs → n < get_or xs j 0)
