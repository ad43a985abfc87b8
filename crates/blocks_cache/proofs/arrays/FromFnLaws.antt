-- An array made by a call at each place: what the calls give, place by place, is the list.
-- Assumes nothing.
use Rattle.std.specs.Array.{IsFromFnResult, IsFromFnResultFrom}
use Rattle.std.specs.Fn.{Called}
use denote.Param.Members.{Mut}
use Rattle.std.proofs.Common.{◌≡◌, ℕ, zero, suc, ◌+◌, ◌<◌, ◌-◌, List, [], ◌∷◌, ◌++◌, length, get_or, replicate, sym, refl, ap, ◌∙◌, subst, arith}
use Rattle.std.proofs.lemmas.List.{ext_get_or, get_or_default, length-map}
use Rattle.std.specs.Prelude.{None, Option, Some, map, option_map, slice_get}
use Rattle.block_records.specs.rules.Lists.{padded}
use lib.ListN.{get_or-map}

module _ {F B : Type 0} (g : Mut F (ℕ × Unit {0}) B) (f : F) (t : List B)
    (says : (i : ℕ) (r : B) (q : F) → Called g f (i, tt) r q → (i < length t → (d : B) → r ≡ get_or t i d) × (q ≡ f)) where
  each_from : (ys : List B) (i n : ℕ) → IsFromFnResultFrom g f ys i n → (k : ℕ) (d : B) → k < n → i + k < length t → get_or ys (i + k) d ≡ get_or t (i + k) d
  each_from ys i zero h k d l m = absurd (omega arith)
  each_from ys i (suc n) h zero d l m =
      let e : i + 0 ≡ i = omega arith in
      let here : i < length t = omega arith in
      rw e (h.2.1 d ∙ (says i h.1 h.0 h.3).0 here d)
  each_from ys i (suc n) h (suc k) d l m =
      let e : i + suc k ≡ i + 1 + k = omega arith in
      rw e (each_from ys (i + 1) n (subst (λ (q : F). IsFromFnResultFrom g q ys (i + 1) n) (says i h.1 h.0 h.3).1 h.4) k d (omega arith) (omega arith))

  pub made_is : (ys : List B) (n : ℕ) → IsFromFnResult g f ys n → length t ≡ n → ys ≡ t
  made_is ys n h l = by ys h
    where
      none : (xs : List B) → length xs ≡ 0 → [] ≡ xs
      none [] e = refl
      none (x ∷ xs) e = absurd (omega arith)

      by : (ys : List B) → IsFromFnResult g f ys n → ys ≡ t
      by [] h = none t (l ∙ sym h.long)
      by (y ∷ ys) h = ext_get_or y (y ∷ ys) t (h.long ∙ sym l) (λ k m. let z : 0 + k ≡ k = omega arith in let e = h.long in rw z at (each_from (y ∷ ys) 0 n h.each k y (omega arith) (omega arith)))

-- each call gives v of the element at its place
pub made_maps : {F A B : Type 0} (g : Mut F (ℕ × Unit {0}) B) (f : F) (v : A → B) (xs : List A)
    (says : (i : ℕ) (r : B) (q : F) → Called g f (i, tt) r q → ((y : A) × (y ≡ get_or xs i y) × (r ≡ v y)) × (q ≡ f))
    (ys : List B) (n : ℕ) → IsFromFnResult g f ys n → length xs ≡ n → ys ≡ map v xs
made_maps {F} {A} {B} g f v xs says ys n h l = made_is g f (map v xs) made ys n h (length-map xs v ∙ l)
  where
    made : (i : ℕ) (r : B) (q : F) → Called g f (i, tt) r q → (i < length (map v xs) → (d : B) → r ≡ get_or (map v xs) i d) × (q ≡ f)
    made i r q k =
        let s = says i r q k in
        (λ m d. s.0.2 ∙ ap v s.0.1 ∙ sym (get_or-map v xs i s.0.0) ∙ get_or_default (map v xs) i (v s.0.0) d m, s.1)

-- what stands at a place of a list in places, none past its end
module _ {A B : Type 0} (v : A → B) where
  none_at : (m i : ℕ) (d : Option B) → i < m → None ≡ get_or (replicate m None) i d
  none_at zero i d h = absurd (omega arith)
  none_at (suc m) zero d h = refl
  none_at (suc m) (suc i) d h = none_at m i d (omega arith)

  some_at : (xs : List A) (m i : ℕ) (d : Option B) → i < length xs + m → option_map v (slice_get xs i) ≡ get_or (map (λ (x : A). Some (v x)) xs ++ replicate m None) i d
  some_at [] m i d h = none_at m i d (omega arith)
  some_at (x ∷ xs) m zero d h = refl
  some_at (x ∷ xs) m (suc i) d h = some_at xs m i d (omega arith)

  pub place_or_none : (n : ℕ) (xs : List A) (i : ℕ) (d : Option B) → i < n → option_map v (slice_get xs i) ≡ get_or (padded n None (map (λ (x : A). Some (v x)) xs)) i d
  unfolding padded
  place_or_none n xs i d h = rw (length-map xs (λ (x : A). Some (v x))) (some_at xs (n - length xs) i d (omega arith))
