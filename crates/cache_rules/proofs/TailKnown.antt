-- Lists without repetition, and the ids that are not known yet.
-- Assumes nothing.
use mathlib.Core.Bool.{false, true}
use mathlib.Core.List.Memᴰ
use mathlib.Core.List.{List, Memᴰ, [], ◌++◌, ◌∷◌, append_assoc, append-nil}
use mathlib.Core.Logic.{◌≢◌, ◌⊎◌, inl, inr}
use mathlib.Core.Path.{◌∙◌, ◌≡◌, ap, refl, subst, sym}
use Prim.Native.Nat.{◌≤◌, suc}
use native.Mathlib.Omega.{arith}
use lib.ListN.{length}
use Rattle.block_records.specs.declared.block_id.BlockId.{BlockId}
use Rattle.block_records.proofs.rules.BlockIdLaws.{id_order}
use Rattle.block_records.proofs.rules.Tests.{clash, on}
use Rattle.block_records.specs.rules.BlockId.{same_id}
use Rattle.cache_rules.specs.TailIdsOnce.{knows, unknown_ids}

module _ {A : Type 0} where
  abbrev pub Distinct : List A → Type 0
  Distinct [] = Unit {0}
  Distinct (x ∷ xs) = ((y : A) → Memᴰ y xs → y ≢ x) × Distinct xs

  distinct_append : (xs ys : List A) → Distinct xs → Distinct ys → ((x y : A) → Memᴰ x xs → Memᴰ y ys → y ≢ x) → Distinct (xs ++ ys)
  distinct_append [] ys h k d = k
  distinct_append (x ∷ xs) ys h k d =
      ((λ y u. by y (Memᴰ.append_cases xs u)), distinct_append xs ys h.1 k (λ z y u v. d z y (Memᴰ.tail u) v))
    where
      by : (y : A) → Memᴰ y xs ⊎ Memᴰ y ys → y ≢ x
      by y (inl u) = h.0 y u
      by y (inr v) = d x y (Memᴰ.head refl) v

  -- the list without one of its members
  without_one : (ys : List A) {x : A} → Memᴰ x ys → (zs : List A) × (length ys ≡ suc (length zs)) × ((z : A) → Memᴰ z ys → z ≢ x → Memᴰ z zs)
  without_one [] u = absurd (Memᴰ.not-nil u)
  without_one (y ∷ ys) {x} u = by (Memᴰ.cases_cons u) (λ (v : Memᴰ x ys). without_one ys v)
    where
      Less : Type 0
      Less = (zs : List A) × (length (y ∷ ys) ≡ suc (length zs)) × ((z : A) → Memᴰ z (y ∷ ys) → z ≢ x → Memᴰ z zs)

      here : x ≡ y → (z : A) → z ≢ x → (z ≡ y) ⊎ Memᴰ z ys → Memᴰ z ys
      here e z d (inl s) = absurd (d (s ∙ sym e))
      here e z d (inr v) = v

      later : (zs : List A) → ((z : A) → Memᴰ z ys → z ≢ x → Memᴰ z zs) → (z : A) → z ≢ x → (z ≡ y) ⊎ Memᴰ z ys → Memᴰ z (y ∷ zs)
      later zs f z d (inl s) = Memᴰ.head s
      later zs f z d (inr v) = Memᴰ.tail (f z v d)

      by : (x ≡ y) ⊎ Memᴰ x ys → (Memᴰ x ys → (zs : List A) × (length ys ≡ suc (length zs)) × ((z : A) → Memᴰ z ys → z ≢ x → Memᴰ z zs)) → Less
      by (inl e) ih = (ys, refl, λ z v d. here e z d (Memᴰ.cases_cons v))
      by (inr v) ih = let r = ih v in (y ∷ r.0, ap suc r.1, λ z w d. later r.0 r.2 z d (Memᴰ.cases_cons w))

  pub distinct_fits : (xs ys : List A) → Distinct xs → ((x : A) → Memᴰ x xs → Memᴰ x ys) → length xs ≤ length ys
  distinct_fits [] ys d h = omega arith
  distinct_fits (x ∷ xs) ys d h =
      let r = without_one ys (h x (Memᴰ.head refl)) in
      omega (arith, r.1, distinct_fits xs r.0 d.1 (λ z u. r.2 z (h z (Memᴰ.tail u)) (d.0 z u)))

knows_member : (ids : List BlockId) (i : BlockId) → knows ids i ≡ true → Memᴰ i ids
knows_member [] i h = clash h refl
knows_member (x ∷ ids) i h =
    on (same_id i x) (λ t. Memᴰ.head (id_order.same_eq i x t)) (λ t. Memᴰ.tail (knows_member ids i (rw t at h)))

knows_not : (ids : List BlockId) (i : BlockId) → knows ids i ≡ false → (j : BlockId) → Memᴰ j ids → j ≢ i
knows_not [] i h j u = absurd (Memᴰ.not-nil u)
knows_not (x ∷ ids) i h j u =
    on (same_id i x)
    (λ t. clash refl (rw t at h))
    (λ t. by t (Memᴰ.cases_cons u) (λ (v : Memᴰ j ids). knows_not ids i (rw t at h) j v))
  where
    by : same_id i x ≡ false → (j ≡ x) ⊎ Memᴰ j ids → (Memᴰ j ids → j ≢ i) → j ≢ i
    by t (inl e) ih q = let s : i ≡ x = sym q ∙ e in clash (subst (λ (z : BlockId). same_id i z ≡ true) s (id_order.same_refl i)) t
    by t (inr v) ih q = ih v q

-- ===== what is not known yet =====

pub unknown_from : (known ps : List BlockId) {p : BlockId} → Memᴰ p (unknown_ids known ps) → Memᴰ p ps
unknown_from known [] u = u
unknown_from known (q ∷ ps) {p} u =
    on (knows known q)
    (λ t. Memᴰ.tail (unknown_from known ps (rw t at u)))
    (λ t. by (Memᴰ.cases_cons (rw t at u)) (λ (v : Memᴰ p (unknown_ids (known ++ (q ∷ [])) ps)). unknown_from (known ++ (q ∷ [])) ps v))
  where
    by : (p ≡ q) ⊎ Memᴰ p (unknown_ids (known ++ (q ∷ [])) ps) → (Memᴰ p (unknown_ids (known ++ (q ∷ [])) ps) → Memᴰ p ps) → Memᴰ p (q ∷ ps)
    by (inl e) ih = Memᴰ.head e
    by (inr v) ih = Memᴰ.tail (ih v)

-- each id is known, or is taken up
pub unknown_all : (known ps : List BlockId) {p : BlockId} → Memᴰ p ps → Memᴰ p (known ++ unknown_ids known ps)
unknown_all known [] u = absurd (Memᴰ.not-nil u)
unknown_all known (q ∷ ps) {p} u =
    on (knows known q)
    (λ t. rw t (by_known t (Memᴰ.cases_cons u) (λ (v : Memᴰ p ps). unknown_all known ps v)))
    (λ t. rw t
    (subst (λ (l : List BlockId). Memᴰ p l) (append_assoc known (q ∷ []) (unknown_ids (known ++ (q ∷ [])) ps))
    (by_new (Memᴰ.cases_cons u) (λ (v : Memᴰ p ps). unknown_all (known ++ (q ∷ [])) ps v))))
  where
    by_known : knows known q ≡ true → (p ≡ q) ⊎ Memᴰ p ps → (Memᴰ p ps → Memᴰ p (known ++ unknown_ids known ps)) → Memᴰ p (known ++ unknown_ids known ps)
    by_known t (inl e) ih = Memᴰ.append_left (unknown_ids known ps) (subst (λ (z : BlockId). Memᴰ z known) (sym e) (knows_member known q t))
    by_known t (inr v) ih = ih v

    by_new : (p ≡ q) ⊎ Memᴰ p ps → (Memᴰ p ps → Memᴰ p ((known ++ (q ∷ [])) ++ unknown_ids (known ++ (q ∷ [])) ps)) → Memᴰ p ((known ++ (q ∷ [])) ++ unknown_ids (known ++ (q ∷ [])) ps)
    by_new (inl e) ih = Memᴰ.append_left (unknown_ids (known ++ (q ∷ [])) ps) (Memᴰ.append_right known (Memᴰ.head e))
    by_new (inr v) ih = ih v

pub unknown_distinct : (known ps : List BlockId) → Distinct known → Distinct (known ++ unknown_ids known ps)
unknown_distinct known [] h = subst Distinct (sym (append-nil known)) h
unknown_distinct known (q ∷ ps) h =
    on (knows known q)
    (λ t. rw t (unknown_distinct known ps h))
    (λ t. rw t
    (subst Distinct (append_assoc known (q ∷ []) (unknown_ids (known ++ (q ∷ [])) ps))
    (unknown_distinct (known ++ (q ∷ [])) ps
    (distinct_append known (q ∷ []) h ((λ y u. absurd (Memᴰ.not-nil u)), tt) (λ x y u v. one t x y u (Memᴰ.cases_cons v))))))
  where
    one : knows known q ≡ false → (x y : BlockId) → Memᴰ x known → (y ≡ q) ⊎ Memᴰ y [] → y ≢ x
    one t x y u (inl e) s = knows_not known q t x u (sym s ∙ e)
    one t x y u (inr v) s = absurd (Memᴰ.not-nil v)
