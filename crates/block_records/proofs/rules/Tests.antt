-- Cases on a test, and what tests that hold say.
-- Assumes nothing.
use Rattle.std.specs.Prelude.{Option, None, Some}
use mathlib.Core.Bool.{Bool, ◌&&◌, ◌||◌, false, true, true≢false}
use mathlib.Core.Path.{◌≡◌, refl, sym}
use Prim.Native.Nat.{ℕ}
use native.Mathlib.Omega.{arith}

abbrev pub on : {P : Type 0} (b : Bool) → (b ≡ true → P) → (b ≡ false → P) → P
on true t f = t refl
on false t f = f refl

pub clash : {P : Type 0} {b : Bool} → b ≡ true → b ≡ false → P
clash {b = b} p q = let z : ◌≡◌ {A = ℕ} 0 1 = cc in absurd (omega arith)

pub absurd_eq {ℓ} : {X : Type ℓ} → false ≡ true → X
absurd_eq e = absurd (true≢false (sym e))

-- two tests are the same where each follows from the other
pub iff_same : (t u : Bool) → (t ≡ true → u ≡ true) → (u ≡ true → t ≡ true) → t ≡ u
iff_same true u f g = sym (f refl)
iff_same false true f g = g refl
iff_same false false f g = refl

pub or_left : (a b : Bool) → a || b ≡ false → a ≡ false
or_left true b h = h
or_left false b h = refl

pub or_right : (a b : Bool) → a || b ≡ false → b ≡ false
or_right true b h = clash {b = true} refl h
or_right false b h = h

pub and_intro : {a b : Bool} → a ≡ true → b ≡ true → a && b ≡ true
and_intro p q = rw (p, q)

pub some_not_none : {A P : Type 0} {o : Option A} {a : A} → o ≡ Some a → o ≡ None → P
some_not_none {o = o} p q = let z : ◌≡◌ {A = ℕ} 0 1 = cc in absurd (omega arith)
