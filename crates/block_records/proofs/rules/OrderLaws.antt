-- Orders: of numbers, of signed numbers, of byte strings; and of a pair of keys, one after the other.
-- Assumes nothing.
use mathlib.Core.Bool.{Bool, ◌&&◌, false, true, true≢false}
use mathlib.Core.List.{List, [], ◌∷◌}
use mathlib.Core.Path.{◌∙◌, ◌≡◌, ap, ap₂, refl, sym}
use Prim.Native.Nat.{◌≤◌, ℕ}
use native.Mathlib.Omega.{arith}
use borrow.Author.Tests.{eq-eqb, eqb-false, eqb-true, le-ltb, lt-ltb, ltb-false, ltb-true}
use lib.Dec.{eqb, ltb}
use lib.IntN.{negsuc, pos, ℤ}
use lib.Signed.{lt_z}
use Rattle.std.proofs.lemmas.Bool.Decides.{Decides-int_eq}
use Rattle.std.specs.Ordering.{int_eq}
use Rattle.block_records.proofs.rules.Tests.{clash}
use Rattle.block_records.specs.rules.BlockId.{less_hash, same_hash}
use Rattle.block_records.specs.rules.Order.{IsOrder, then_by}
use Rattle.std.proofs.lemmas.Bool.{false_from_ne_true}
use Rattle.std.specs.Cmp.{first_so, second_so}

-- ---- numbers
nat_total : (a b : ℕ) → eqb a b ≡ false → ltb a b ≡ false → ltb b a ≡ true
nat_total a b e l =
    let ne : (a ≡ b → ⊥) = eqb-false a b e in
    let le : b ≤ a = ltb-false a b l in
    lt-ltb b a (omega arith)

pub nat_order : IsOrder eqb ltb
nat_order = record {
  same_eq = λ a b e. eqb-true a b e;
  same_refl = λ a. eq-eqb a a refl;
  irrefl = λ a. le-ltb a a (omega arith);
  trans = λ a b c p q. lt-ltb a c (omega (arith, ltb-true a b p, ltb-true b c q));
  tri = nat_total;
}

-- ---- signed numbers
int_irrefl : (a : ℤ) → lt_z a a ≡ false
int_irrefl (pos a) = le-ltb a a (omega arith)
int_irrefl (negsuc a) = le-ltb a a (omega arith)

int_trans : (a b c : ℤ) → lt_z a b ≡ true → lt_z b c ≡ true → lt_z a c ≡ true
int_trans (pos a) (pos b) (pos c) p q = nat_order.trans a b c p q
int_trans (pos a) (pos b) (negsuc c) p q = q
int_trans (pos a) (negsuc b) c p q = absurd (true≢false (sym p))
int_trans (negsuc a) (pos b) (pos c) p q = refl
int_trans (negsuc a) (pos b) (negsuc c) p q = absurd (true≢false (sym q))
int_trans (negsuc a) (negsuc b) (pos c) p q = refl
int_trans (negsuc a) (negsuc b) (negsuc c) p q = nat_order.trans c b a q p

int_eq_true : (a b : ℤ) → int_eq a b ≡ true → a ≡ b
int_eq_true a b e = (Decides-int_eq a b).0 e

int_eq_false : (a b : ℤ) → int_eq a b ≡ false → a ≡ b → ⊥
int_eq_false a b e p = true≢false (sym ((Decides-int_eq a b).1 p) ∙ e)

int_eq_refl : (a : ℤ) → int_eq a a ≡ true
int_eq_refl a = rw (int_irrefl a)

int_total : (a b : ℤ) → int_eq a b ≡ false → lt_z a b ≡ false → lt_z b a ≡ true
int_total (pos a) (pos b) e l =
    let ne : (a ≡ b → ⊥) = λ p. int_eq_false (pos a) (pos b) e (ap pos p) in
    let le : b ≤ a = ltb-false a b l in
    lt-ltb b a (omega arith)
int_total (pos a) (negsuc b) e l = refl
int_total (negsuc a) (pos b) e l = absurd (true≢false l)
int_total (negsuc a) (negsuc b) e l =
    let ne : (a ≡ b → ⊥) = λ p. int_eq_false (negsuc a) (negsuc b) e (ap negsuc p) in
    let le : a ≤ b = ltb-false b a l in
    lt-ltb a b (omega arith)

pub int_order : IsOrder int_eq lt_z
int_order = record {
  same_eq = int_eq_true;
  same_refl = int_eq_refl;
  irrefl = int_irrefl;
  trans = int_trans;
  tri = int_total;
}

-- ---- a first key, and what is said of the rest where the first keys are the same
module _ {K : Type 0} (same₁ less₁ : K → K → Bool) (o : IsOrder same₁ less₁) where
  lex_trans : (a b c : K) (x y z : Bool) → (x ≡ true → y ≡ true → z ≡ true)
      → then_by (less₁ a b) (same₁ a b) x ≡ true
      → then_by (less₁ b c) (same₁ b c) y ≡ true
      → then_by (less₁ a c) (same₁ a c) z ≡ true
  lex_trans a b c x y z h p q = go (less₁ a b) (less₁ b c) refl refl
    where
      go : (t u : Bool) → less₁ a b ≡ t → less₁ b c ≡ u → then_by (less₁ a c) (same₁ a c) z ≡ true
      go true true e e' = rw (o.trans a b c e e')
      go true false e e' =
          let s : same₁ b c ≡ true = first_so (same₁ b c) y (rw e' at q) in
          rw (← o.same_eq b c s, e)
      go false true e e' =
          let s : same₁ a b ≡ true = first_so (same₁ a b) x (rw e at p) in
          rw (o.same_eq a b s, e')
      go false false e e' =
          let s : (same₁ a b && x) ≡ true = rw e at p in
          let s' : (same₁ b c && y) ≡ true = rw e' at q in
          let ab : a ≡ b = o.same_eq a b (first_so (same₁ a b) x s) in
          let bc : b ≡ c = o.same_eq b c (first_so (same₁ b c) y s') in
          rw (ab, bc, o.irrefl c, o.same_refl c, h (second_so (same₁ a b) x s) (second_so (same₁ b c) y s'))

  lex_total : (a b : K) (s x y : Bool) → (s ≡ false → x ≡ false → y ≡ true)
      → (same₁ a b && s) ≡ false
      → then_by (less₁ a b) (same₁ a b) x ≡ false
      → then_by (less₁ b a) (same₁ b a) y ≡ true
  lex_total a b s x y h p q = go (same₁ a b) (less₁ a b) refl refl
    where
      go : (t u : Bool) → same₁ a b ≡ t → less₁ a b ≡ u → then_by (less₁ b a) (same₁ b a) y ≡ true
      go t true e e' = absurd (true≢false (rw e' at q))
      go false false e e' = rw (o.tri a b e e')
      go true false e e' =
          let ab : a ≡ b = o.same_eq a b e in
          rw (ab, o.irrefl b, o.same_refl b, h (rw e at p) (rw (e', e) at q))

-- ---- one key after another: `f` first, then `g`, where the two together are the whole
module _ {A K L : Type 0} {same₁ less₁ : K → K → Bool} {same₂ less₂ : L → L → Bool} (f : A → K) (g : A → L)
    (whole : (a b : A) → f a ≡ f b → g a ≡ g b → a ≡ b) (o₁ : IsOrder same₁ less₁) (o₂ : IsOrder same₂ less₂) where
  pub then_order :
      IsOrder (λ (a b : A). same₁ (f a) (f b) && same₂ (g a) (g b)) (λ (a b : A). then_by (less₁ (f a) (f b)) (same₁ (f a) (f b)) (less₂ (g a) (g b)))
  then_order = record {
    same_eq = λ a b e. whole a b (o₁.same_eq (f a) (f b) (first_so _ _ e)) (o₂.same_eq (g a) (g b) (second_so (same₁ (f a) (f b)) _ e));
    same_refl = λ a. rw (o₁.same_refl (f a), o₂.same_refl (g a));
    irrefl = λ a. rw (o₁.irrefl (f a), o₁.same_refl (f a), o₂.irrefl (g a));
    trans = λ a b c p q. lex_trans same₁ less₁ o₁ (f a) (f b) (f c) _ _ _ (o₂.trans (g a) (g b) (g c)) p q;
    tri = λ a b p q. lex_total same₁ less₁ o₁ (f a) (f b) _ _ _ (o₂.tri (g a) (g b)) p q;
  }

-- ---- byte strings
bytes_eq : (a b : List ℕ) → same_hash a b ≡ true → a ≡ b
bytes_eq [] [] e = refl
bytes_eq [] (y ∷ ys) e = cc
bytes_eq (x ∷ xs) [] e = cc
bytes_eq (x ∷ xs) (y ∷ ys) e = ap₂ ◌∷◌ (eqb-true x y (first_so (eqb x y) (same_hash xs ys) e)) (bytes_eq xs ys (second_so (eqb x y) (same_hash xs ys) e))

bytes_refl : (a : List ℕ) → same_hash a a ≡ true
bytes_refl [] = refl
bytes_refl (x ∷ xs) = rw (eq-eqb x x refl, bytes_refl xs)

bytes_irrefl : (a : List ℕ) → less_hash a a ≡ false
bytes_irrefl [] = refl
bytes_irrefl (x ∷ xs) = rw (nat_order.irrefl x, eq-eqb x x refl, bytes_irrefl xs)

bytes_trans : (a b c : List ℕ) → less_hash a b ≡ true → less_hash b c ≡ true → less_hash a c ≡ true
bytes_trans [] [] c p q = absurd (true≢false (sym p))
bytes_trans [] (y ∷ ys) [] p q = q
bytes_trans [] (y ∷ ys) (z ∷ zs) p q = refl
bytes_trans (x ∷ xs) [] c p q = absurd (true≢false (sym p))
bytes_trans (x ∷ xs) (y ∷ ys) [] p q = absurd (true≢false (sym q))
bytes_trans (x ∷ xs) (y ∷ ys) (z ∷ zs) p q = lex_trans eqb ltb nat_order x y z _ _ _ (bytes_trans xs ys zs) p q

bytes_total : (a b : List ℕ) → same_hash a b ≡ false → less_hash a b ≡ false → less_hash b a ≡ true
bytes_total [] [] e l = absurd (true≢false e)
bytes_total [] (y ∷ ys) e l = absurd (true≢false l)
bytes_total (x ∷ xs) [] e l = refl
bytes_total (x ∷ xs) (y ∷ ys) e l = lex_total eqb ltb nat_order x y _ _ _ (bytes_total xs ys) e l

pub bytes_order : IsOrder same_hash less_hash
bytes_order = record { same_eq = bytes_eq; same_refl = bytes_refl; irrefl = bytes_irrefl; trans = bytes_trans; tri = bytes_total }

-- ---- what follows for any order: the laws to cite above
module _ {A : Type 0} {same less : A → A → Bool} (o : IsOrder same less) (a b : A) where
  pub less_not_same : less a b ≡ true → same a b ≡ false
  less_not_same l = false_from_ne_true (same a b) (λ e. clash l (rw (o.same_eq a b e) (o.irrefl b)))

  pub asym : less a b ≡ true → less b a ≡ false
  asym l = false_from_ne_true (less b a) (λ m. clash (o.trans a b a l m) (o.irrefl a))

  pub differs : (a ≡ b → ⊥) → same a b ≡ false
  differs n = false_from_ne_true (same a b) (λ e. n (o.same_eq a b e))
