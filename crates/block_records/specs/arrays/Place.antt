-- Places in lists that stand in arrays with a count: where an element stands in a rising list, or the place where it would go in.
-- Assumes nothing.
use Rattle.std.specs.Prelude.{Bool, List, [], ◌∷◌, ◌<◌, ◌≤◌, suc, ℕ, cond, Err, Ok, Result}

module _ {A : Type 0} where
  -- up to the first element that is not below the one asked for; it stands at place i
  abbrev pub place_from : (A → Bool) → (A → Bool) → ℕ → List A → (Result ℕ ℕ)
  place_from below same i [] = Err i
  place_from below same i (x ∷ xs) = cond (below x) (place_from below same (suc i) xs) (cond (same x) (Ok i) (Err i))

  -- the same from the first place on
  unfoldable pub place : (A → Bool) → (A → Bool) → List A → (Result ℕ ℕ)
  place below same xs = place_from below same 0 xs

-- a place that is found lies among n elements; one where an element would go in, among them or after the last
abbrev pub IsWithin : ℕ → Result ℕ ℕ → Type 0
IsWithin n (Ok k) = k < n
IsWithin n (Err k) = k ≤ n
