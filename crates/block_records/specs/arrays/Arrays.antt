-- What code does to a list that stands in an array, whatever the element: one put in, those flagged kept, the places after it left.
-- Assumes nothing.
use Rattle.std.specs.Prelude.{Bool, List, [], ◌++◌, ◌∷◌, ◌+◌, ◌-◌, ◌≤◌, ℕ, drop, length, take, cond}

module _ {A : Type 0} where
  -- the first `at` elements, a, and those of place `from` on
  abbrev pub spliced : ℕ → ℕ → A → List A → List A
  spliced at from a xs = take at xs ++ a ∷ drop from xs

  -- these elements, and what stood in the places after them
  abbrev pub overwritten : List A → List A → List A
  overwritten xs l = xs ++ drop (length xs) l

  -- the elements beside which a flag is set
  abbrev pub flagged : List Bool → List A → List A
  flagged [] xs = []
  flagged (k ∷ ks) [] = []
  flagged (k ∷ ks) (x ∷ xs) = cond k (x ∷ flagged ks xs) (flagged ks xs)

-- what `spliced` asks of n elements: they fit the places afterwards
pub record Splices (places at from n : ℕ) : Type 0 where
  pub order : at ≤ from
  pub within : from ≤ n
  pub room : at + 1 + (n - from) ≤ places
