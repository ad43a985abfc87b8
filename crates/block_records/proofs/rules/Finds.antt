-- What `find`, `select` and `every` give.
-- Assumes nothing.
use Rattle.std.specs.List.{find, list_all}
use Rattle.std.specs.Prelude.{None, Some, map, filter}
use mathlib.Core.Bool.{Bool, false, not, true}
use mathlib.Core.List.Memᴰ
use mathlib.Core.List.{List, Memᴰ, [], ◌∷◌}
use mathlib.Core.Logic.{◌⊎◌, inl, inr}
use mathlib.Core.Path.{◌≡◌, ap, refl}
use Rattle.block_records.proofs.rules.Tests.{clash, on, some_not_none}
use Rattle.std.proofs.lemmas.Bool.{not-true}
use Rattle.std.specs.Cmp.{first_so, second_so}

module _ {A : Type 0} where
  pub find_passes : (p : A → Bool) (xs : List A) {a : A} → find p xs ≡ Some a → p a ≡ true
  find_passes p [] h = some_not_none h refl
  find_passes p (x ∷ xs) {a} h =
      on (p x)
      (λ e. let q : Some x ≡ Some a = rw e at h in let r : x ≡ a = cc in rw (← r) e)
      (λ e. find_passes p xs (rw e at h))

  pub find_member : (p : A → Bool) (xs : List A) {a : A} → find p xs ≡ Some a → Memᴰ a xs
  find_member p [] h = some_not_none h refl
  find_member p (x ∷ xs) {a} h =
      on (p x)
      (λ e. let q : Some x ≡ Some a = rw e at h in Memᴰ.head (cc))
      (λ e. Memᴰ.tail (find_member p xs (rw e at h)))

  -- none is found in a list of which all fail
  pub find_none : (p : A → Bool) (xs : List A) → list_all (λ (x : A). not (p x)) xs ≡ true → find p xs ≡ None
  find_none p [] h = refl
  find_none p (x ∷ xs) h =
      rw (not-true (p x) (first_so (not (p x)) (list_all (λ (x : A). not (p x)) xs) h)) (find_none p xs (second_so (not (p x)) (list_all (λ (x : A). not (p x)) xs) h))

  -- what does not stay is not found
  pub find_select_none : (q p : A → Bool) (xs : List A) → ((x : A) → q x ≡ true → p x ≡ false) → find q (filter p xs) ≡ None
  find_select_none q p [] h = refl
  find_select_none q p (x ∷ xs) h =
      on (p x)
      (λ e. rw e (on (q x) (λ f. clash e (h x f)) (λ f. rw f (find_select_none q p xs h))))
      (λ e. rw e (find_select_none q p xs h))

  -- what stays is found as before
  pub find_select_same : (q p : A → Bool) (xs : List A) → ((x : A) → q x ≡ true → p x ≡ true) → find q (filter p xs) ≡ find q xs
  find_select_same q p [] h = refl
  find_select_same q p (x ∷ xs) h =
      on (p x)
      (λ e. rw e (on (q x) (λ f. rw f) (λ f. rw f (find_select_same q p xs h))))
      (λ e. rw e (on (q x) (λ f. clash (h x f) e) (λ f. rw f (find_select_same q p xs h))))

  -- ===== membership =====

  pub select_member : (p : A → Bool) (xs : List A) {a : A} → Memᴰ a (filter p xs) → Memᴰ a xs × (p a ≡ true)
  select_member p [] u = absurd (Memᴰ.not-nil u)
  select_member p (x ∷ xs) {a} u =
      on (p x)
      (λ e. by e (λ (v : Memᴰ a (filter p xs)). select_member p xs v) (Memᴰ.cases_cons (rw e at u)))
      (λ e. let r = select_member p xs (rw e at u) in (Memᴰ.tail r.0, r.1))
    where
      by : p x ≡ true → (Memᴰ a (filter p xs) → Memᴰ a xs × (p a ≡ true)) → (a ≡ x) ⊎ Memᴰ a (filter p xs) → Memᴰ a (x ∷ xs) × (p a ≡ true)
      by e ih (inl s) = (Memᴰ.head s, rw s e)
      by e ih (inr v) = let r = ih v in (Memᴰ.tail r.0, r.1)

  pub member_select : (p : A → Bool) (xs : List A) {a : A} → Memᴰ a xs → p a ≡ true → Memᴰ a (filter p xs)
  member_select p [] u h = absurd (Memᴰ.not-nil u)
  member_select p (x ∷ xs) {a} u h = by (λ (v : Memᴰ a xs). member_select p xs v h) (Memᴰ.cases_cons u)
    where
      by : (Memᴰ a xs → Memᴰ a (filter p xs)) → (a ≡ x) ⊎ Memᴰ a xs → Memᴰ a (filter p (x ∷ xs))
      by ih (inl s) = let e : p x ≡ true = rw s at h in rw e (Memᴰ.head s)
      by ih (inr v) = on (p x) (λ e. rw e (Memᴰ.tail (ih v))) (λ e. rw e (ih v))

module _ {A B : Type 0} where
  pub each_member : (f : A → B) (xs : List A) {a : A} → Memᴰ a xs → Memᴰ (f a) (map f xs)
  each_member f [] u = absurd (Memᴰ.not-nil u)
  each_member f (x ∷ xs) {a} u = by (λ (v : Memᴰ a xs). each_member f xs v) (Memᴰ.cases_cons u)
    where
      by : (Memᴰ a xs → Memᴰ (f a) (map f xs)) → (a ≡ x) ⊎ Memᴰ a xs → Memᴰ (f a) (f x ∷ map f xs)
      by ih (inl s) = Memᴰ.head (ap f s)
      by ih (inr v) = Memᴰ.tail (ih v)

  pub member_each : (f : A → B) (xs : List A) {b : B} → Memᴰ b (map f xs) → (a : A) × Memᴰ a xs × (b ≡ f a)
  member_each f [] u = absurd (Memᴰ.not-nil u)
  member_each f (x ∷ xs) {b} u = by (λ (v : Memᴰ b (map f xs)). member_each f xs v) (Memᴰ.cases_cons u)
    where
      by : (Memᴰ b (map f xs) → (a : A) × Memᴰ a xs × (b ≡ f a)) → (b ≡ f x) ⊎ Memᴰ b (map f xs) → (a : A) × Memᴰ a (x ∷ xs) × (b ≡ f a)
      by ih (inl s) = (x, Memᴰ.head refl, s)
      by ih (inr v) = let r = ih v in (r.0, Memᴰ.tail r.1, r.2)
