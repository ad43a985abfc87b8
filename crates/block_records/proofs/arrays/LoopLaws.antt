-- One turn of a loop over lists: what is left at place i decides.
-- Assumes nothing.
use mathlib.Core.List.{List, [], ◌++◌, ◌∷◌, append_assoc, map}
use mathlib.Core.Path.{◌∙◌, ◌≡◌, sym}
use Prim.Native.Nat.{◌+◌, ◌-◌, ◌<◌, suc, ℕ}
use native.Mathlib.Numerals.{add-one}
use native.Mathlib.Omega.{arith}
use lib.ListN.{drop, get_or, length, length-append, length-map, replicate, set, take}
use lib.Seq.{drop-cons, set_at, take-suc}
use Rattle.block_records.specs.rules.Lists.{padded}

-- what is left from place i on: an element, and the rest
pub drop_next : {A : Type 0} (l : List A) (i : ℕ) (d : A) → i < length l → drop i l ≡ get_or l i d ∷ drop (i + 1) l
drop_next l i d h = rw add-one (drop-cons l i d h)

-- one element more
pub take_more : {A : Type 0} (l : List A) (i : ℕ) (d : A) → i < length l → take (i + 1) l ≡ take i l ++ (get_or l i d ∷ [])
take_more l i d h = rw add-one (take-suc l i d h)

-- ---- an array that is filled from the front
module _ {A : Type 0} (n : ℕ) (z : A) where
  pub padded_nil : padded n z [] ≡ replicate n z
  unfolding padded
  padded_nil = let e : n - 0 ≡ n = omega arith in rw e

  -- the first free place is written
  pub set_padded : (xs : List A) (i : ℕ) (v : A) → length xs ≡ i → i < n → set (padded n z xs) i v ≡ padded n z (xs ++ (v ∷ []))
  unfolding padded
  set_padded xs i v q h =
      let p : n - length xs ≡ suc (n - suc i) = omega arith in
      let r : n - length (xs ++ (v ∷ [])) ≡ n - suc i = simp length-append (omega arith) in
      rw (p, append_assoc, r) (set_at xs z (replicate (n - suc i) z) v i q)

-- the length of an array of structs, from what owning it tells: `search (needs, length_mapped)`
pub length_mapped : (X Y : Type 0) (f : X → Y) (l : List X) (n : ℕ) → length (map f l) ≡ n → length l ≡ n
length_mapped X Y f l n p = sym (length-map l f) ∙ p
