-- What the rules say of lists, of any type: one put in its place, a list that rises, an array with places left. The other words are std's.
-- Assumes nothing.
use Rattle.std.specs.Prelude.{Bool, ◌&&◌, true, List, [], ◌++◌, ◌∷◌, ◌+◌, ◌-◌, ℕ, length, replicate, cond, Option, None, Some}
use Rattle.std.specs.List.{list_all}

module _ {A : Type 0} where
  -- a list that rises by the order: each element comes before all that follow it
  abbrev pub rising : (A → A → Bool) → List A → Bool
  rising lt [] = true
  rising lt (x ∷ xs) = list_all (lt x) xs && rising lt xs

  -- an element put at its place in a rising list; one at the same place is replaced
  abbrev pub put : (A → A → Bool) → A → List A → List A
  put lt a [] = a ∷ []
  put lt a (x ∷ xs) = cond (lt a x) (a ∷ x ∷ xs) (cond (lt x a) (x ∷ put lt a xs) (a ∷ xs))

  -- the last element
  abbrev pub last : List A → Option A
  last [] = None
  last (x ∷ xs) = last_of x xs
    where
      last_of : A → List A → Option A
      last_of y [] = Some y
      last_of y (z ∷ zs) = last_of z zs

  -- an array of n places: the list, then z in the places that are left
  unfoldable pub padded : ℕ → A → List A → List A
  padded n z xs = xs ++ replicate (n - length xs) z

-- the sum of a number that each element has
abbrev pub total : {A : Type 0} → (A → ℕ) → List A → ℕ
total f [] = 0
total f (x ∷ xs) = f x + total f xs
