-- Rising lists: what `select`, `put` and `each` do to their order, their length and what holds of their elements.
-- Assumes nothing.
use Rattle.std.proofs.lemmas.List.Folds.{list_all-map}
use Rattle.std.specs.List.{list_all}
use Rattle.std.specs.Prelude.{map, filter}
use mathlib.Core.Bool.{Bool, ◌&&◌, false, true}
use mathlib.Core.List.{List, Memᴰ, [], ◌∷◌}
use mathlib.Core.Logic.{◌⊎◌, inl, inr}
use mathlib.Core.Path.{◌≡◌, ap₂, refl}
use Prim.Native.Nat.{◌≤◌, suc, ℕ}
use native.Mathlib.Nat.{le_refl}
use native.Mathlib.Omega.{arith}
use borrow.Author.Tests.{lt-ltb, ltb-false, ltb-true}
use lib.Dec.{ltb}
use lib.ListN.{length}
use Rattle.block_records.proofs.rules.Tests.{and_intro, clash, on}
use Rattle.block_records.specs.rules.Lists.{put, rising}
use Rattle.block_records.specs.rules.Order.{IsOrder}
use Rattle.std.specs.Cmp.{first_so, second_so}

module _ {A : Type 0} where
  pub every_member : (p : A → Bool) (xs : List A) {a : A} → list_all p xs ≡ true → Memᴰ a xs → p a ≡ true
  every_member p [] h u = absurd (mathlib.Core.List.Memᴰ.not-nil u)
  every_member p (x ∷ xs) {a} h u = by (mathlib.Core.List.Memᴰ.cases_cons u) (λ (v : Memᴰ a xs). every_member p xs (second_so (p x) (list_all p xs) h) v)
    where
      by : (a ≡ x) ⊎ Memᴰ a xs → (Memᴰ a xs → p a ≡ true) → p a ≡ true
      by (inl e) ih = rw e (first_so (p x) (list_all p xs) h)
      by (inr v) ih = ih v

module _ {A : Type 0} where
  pub every_select : (p q : A → Bool) (xs : List A) → list_all p xs ≡ true → list_all p (filter q xs) ≡ true
  every_select p q [] h = refl
  every_select p q (x ∷ xs) h =
      let ih = every_select p q xs (second_so (p x) (list_all p xs) h) in
      on (q x) (λ t. rw t (and_intro (first_so (p x) (list_all p xs) h) ih)) (λ t. rw t ih)

  pub length_select : (q : A → Bool) (xs : List A) → length (filter q xs) ≤ length xs
  length_select q [] = le_refl 0
  length_select q (x ∷ xs) = let ih = length_select q xs in on (q x) (λ t. rw t (omega arith)) (λ t. rw t (omega arith))

  pub rising_select : (lt : A → A → Bool) (q : A → Bool) (xs : List A) → rising lt xs ≡ true → rising lt (filter q xs) ≡ true
  rising_select lt q [] h = refl
  rising_select lt q (x ∷ xs) h =
      let ih = rising_select lt q xs (second_so (list_all (lt x) xs) (rising lt xs) h) in
      on (q x) (λ t. rw t (and_intro (every_select (lt x) q xs (first_so (list_all (lt x) xs) (rising lt xs) h)) ih)) (λ t. rw t ih)

  pub every_put : (p : A → Bool) (lt : A → A → Bool) (a : A) (xs : List A) → p a ≡ true → list_all p xs ≡ true → list_all p (put lt a xs) ≡ true
  every_put p lt a [] ha h = and_intro ha refl
  every_put p lt a (x ∷ xs) ha h =
      let hx = first_so (p x) (list_all p xs) h in
      let hs = second_so (p x) (list_all p xs) h in
      on (lt a x) (λ t. rw t (and_intro ha h))
      (λ t. rw t (on (lt x a) (λ u. rw u (and_intro hx (every_put p lt a xs ha hs))) (λ u. rw u (and_intro ha hs))))

  pub length_put : (lt : A → A → Bool) (a : A) (xs : List A) → length (put lt a xs) ≤ suc (length xs)
  length_put lt a [] = le_refl 1
  length_put lt a (x ∷ xs) =
      let ih = length_put lt a xs in
      on (lt a x) (λ t. rw t (omega arith)) (λ t. rw t (on (lt x a) (λ u. rw u (omega arith)) (λ u. rw u (omega arith))))

  pub every_weaken : (p q : A → Bool) (xs : List A) → ((x : A) → p x ≡ true → q x ≡ true) → list_all p xs ≡ true → list_all q xs ≡ true
  every_weaken p q [] f h = refl
  every_weaken p q (x ∷ xs) f h = and_intro (f x (first_so (p x) (list_all p xs) h)) (every_weaken p q xs f (second_so (p x) (list_all p xs) h))

  -- an order that `put` can go by
  pub record Order (lt : A → A → Bool) : Type 0 where
    pub trans : (a b c : A) → lt a b ≡ true → lt b c ≡ true → lt a c ≡ true
    pub level : (a b c : A) → lt a b ≡ false → lt b a ≡ false → lt b c ≡ true → lt a c ≡ true

  module _ (lt : A → A → Bool) (o : Order lt) where
    pub rising_put : (a : A) (xs : List A) → rising lt xs ≡ true → rising lt (put lt a xs) ≡ true
    rising_put a [] h = refl
    rising_put a (x ∷ xs) h =
        let hx = first_so (list_all (lt x) xs) (rising lt xs) h in
        let hs = second_so (list_all (lt x) xs) (rising lt xs) h in
        on (lt a x)
        (λ t. rw t (and_intro (and_intro t (every_weaken (lt x) (lt a) xs (λ z l. o.trans a x z t l) hx)) h))
        (λ t. rw t
        (on (lt x a)
        (λ u. rw u (and_intro (every_put (lt x) lt a xs u hx) (rising_put a xs hs)))
        (λ u. rw u (and_intro (every_weaken (lt x) (lt a) xs (λ z l. o.level a x z t u l) hx) hs))))

    -- one that stands at the same place is replaced
    pub length_put_same : (a x : A) (xs : List A) → rising lt xs ≡ true → Memᴰ x xs → lt a x ≡ false → lt x a ≡ false → length (put lt a xs) ≤ length xs
    length_put_same a x [] h u f g = absurd (mathlib.Core.List.Memᴰ.not-nil u)
    length_put_same a x (y ∷ ys) h u f g =
        let ih : Memᴰ x ys → length (put lt a ys) ≤ length ys = λ v. length_put_same a x ys (second_so (list_all (lt y) ys) (rising lt ys) h) v f g in
        by ih (mathlib.Core.List.Memᴰ.cases_cons u)
      where
        by : (Memᴰ x ys → length (put lt a ys) ≤ length ys) → (x ≡ y) ⊎ Memᴰ x ys → length (put lt a (y ∷ ys)) ≤ length (y ∷ ys)
        by ih (inl e) =
            let f' : lt a y ≡ false = rw e at f in
            let g' : lt y a ≡ false = rw e at g in
            rw (f', g') (le_refl _)
        by ih (inr v) =
            on (lt a y)
            (λ t. clash (o.trans a y x t (every_member (lt y) ys (first_so (list_all (lt y) ys) (rising lt ys) h) v)) f)
            (λ t. rw t (on (lt y a) (λ s. let l = ih v in rw s (omega arith)) (λ s. rw s (le_refl _))))

module _ {A B : Type 0} where
  pub every_each : (f : A → B) (p : A → Bool) (q : B → Bool) (xs : List A) → ((x : A) → p x ≡ true → q (f x) ≡ true) → list_all p xs ≡ true → list_all q (map f xs) ≡ true
  every_each f p q [] h a = refl
  every_each f p q (x ∷ xs) h a = and_intro (h x (first_so (p x) (list_all p xs) a)) (every_each f p q xs h (second_so (p x) (list_all p xs) a))

  pub rising_each : (f : A → B) (lt : A → A → Bool) (lt' : B → B → Bool) (xs : List A) → ((x y : A) → lt x y ≡ true → lt' (f x) (f y) ≡ true) →
      rising lt xs ≡ true → rising lt' (map f xs) ≡ true
  rising_each f lt lt' [] h a = refl
  rising_each f lt lt' (x ∷ xs) h a =
      and_intro (every_each f (lt x) (lt' (f x)) xs (h x) (first_so (list_all (lt x) xs) (rising lt xs) a)) (rising_each f lt lt' xs h (second_so (list_all (lt x) xs) (rising lt xs) a))

  -- images rise exactly if the elements do by the order of their images
  pub rising_image : (f : A → B) (lt : B → B → Bool) (xs : List A) → rising lt (map f xs) ≡ rising (λ (x y : A). lt (f x) (f y)) xs
  rising_image f lt [] = refl
  rising_image f lt (x ∷ xs) = ap₂ ◌&&◌ (list_all-map (lt (f x)) f xs) (rising_image f lt xs)

-- ===== the orders =====

-- by a number
pub by_number : {A : Type 0} (f : A → ℕ) → Order (λ (a b : A). ltb (f a) (f b))
by_number f =
    record {
      trans = λ a b c p q. lt-ltb (f a) (f c) (omega (arith, ltb-true (f a) (f b) p, ltb-true (f b) (f c) q));
      level = λ a b c p q r. lt-ltb (f a) (f c) (omega (arith, ltb-false (f a) (f b) p, ltb-false (f b) (f a) q, ltb-true (f b) (f c) r));
    }

-- by a tested order
pub by_order : {A K : Type 0} {same less : K → K → Bool} (o : IsOrder same less) (f : A → K) → Order (λ (a b : A). less (f a) (f b))
by_order {same = same} {less = less} o f =
    record {
      trans = λ a b c p q. o.trans (f a) (f b) (f c) p q;
      level = λ a b c p q r. on (same (f a) (f b)) (λ s. rw (o.same_eq (f a) (f b) s) r) (λ s. clash (o.tri (f a) (f b) s p) q);
    }
