-- A record is tidy exactly if its count is within its places and zeros stand in unused ones.
-- Assumes nothing.
use lib.Pointwise.{pointwise}
use Rattle.std.proofs.Math.Bool.{and-true, and_assoc}
use Rattle.std.proofs.lemmas.List.{map-id}
use Rattle.std.specs.List.{list_all}
use Rattle.std.specs.Prelude.{map}
use mathlib.Core.Bool.{Bool, ◌&&◌, true}
use mathlib.Core.List.{List, Memᴰ, [], ◌++◌, ◌∷◌}
use mathlib.Core.Path.{◌∙◌, ◌≡◌, ap, ap₂, refl, sym}
use Prim.Native.Nat.{◌-◌, ◌≤◌, suc, zero, ℕ}
use native.Mathlib.Omega.{arith}
use borrow.Author.Tests.{eq-eqb, eqb-true, le-leb, leb-true}
use lib.Dec.{eqb, leb}
use lib.ListN.{drop, length, replicate, take}
use Rattle.block_records.specs.declared.entry.BlockCacheEntry.{BlockCacheEntry}
use Rattle.block_records.specs.declared.listed.Listed.{Listed}
use Rattle.block_records.specs.layout.Listed.{PrevIds, TopBlocks, listed, tidy_listed}
use Rattle.block_records.proofs.layout.EqualityLaws.{anchor_same, id_same, kind_same, nat_same, top_same}
use Rattle.block_records.proofs.rules.Tests.{and_intro, iff_same}
use Rattle.block_records.specs.layout.Entry.{entry_tidy, prev_ids_tidy, tops_tidy}
use Rattle.block_records.specs.layout.Equality.{same_entry, same_top}
use Rattle.block_records.specs.layout.Zeros.{is_zero_id, is_zero_top, zero_id, zero_top}
use Rattle.block_records.specs.rules.BlockId.{same_id}
use Rattle.block_records.specs.rules.Lists.{padded}
use Rattle.block_records.specs.rules.Order.{IsSame}

module _ {A : Type 0} where
  pub every_true : (p : A → Bool) (xs : List A) → ((x : A) → p x ≡ true) → list_all p xs ≡ true
  every_true p [] h = refl
  every_true p (x ∷ xs) h = and_intro (h x) (every_true p xs h)

  pub every_same : (p q : A → Bool) (xs : List A) → ((x : A) → Memᴰ x xs → p x ≡ q x) → list_all p xs ≡ list_all q xs
  every_same p q [] h = refl
  every_same p q (x ∷ xs) h = ap₂ ◌&&◌ (h x (Memᴰ.head refl)) (every_same p q xs (λ y u. h y (Memᴰ.tail u)))

  -- a count within its places
  pub count_take : (k : ℕ) (xs : List A) → eqb k (length (take k xs)) ≡ leb k (length xs)
  count_take k xs = iff_same (eqb k (length (take k xs))) (leb k (length xs)) to from
    where
      short : (k : ℕ) (xs : List A) → length (take k xs) ≤ length xs
      short zero xs = omega arith
      short (suc k) [] = omega arith
      short (suc k) (x ∷ xs) = let ih = short k xs in omega arith

      full : (k : ℕ) (xs : List A) → k ≤ length xs → k ≡ length (take k xs)
      full zero xs l = refl
      full (suc k) [] l = absurd (omega arith)
      full (suc k) (x ∷ xs) l = let ih = full k xs (omega arith) in omega arith

      to : eqb k (length (take k xs)) ≡ true → leb k (length xs) ≡ true
      to h = le-leb k (length xs) (omega (arith, eqb-true k (length (take k xs)) h, short k xs))

      from : leb k (length xs) ≡ true → eqb k (length (take k xs)) ≡ true
      from h = eq-eqb k (length (take k xs)) (full k xs (leb-true k (length xs) h))

  module _ (s : A → A → Bool) (z : A) where
    same_zeros : (xs : List A) → pointwise s xs (replicate (length xs) z) ≡ list_all (λ (x : A). s x z) xs
    same_zeros [] = refl
    same_zeros (x ∷ xs) = ap (λ (b : Bool). s x z && b) (same_zeros xs)

    -- an array of n places holds nothing but z
    pub same_replicate : (n : ℕ) (xs : List A) → length xs ≡ n → pointwise s xs (replicate n z) ≡ list_all (λ (x : A). s x z) xs
    same_replicate n xs e = rw (← e) (same_zeros xs)

  module _ (s : A → A → Bool) (h : A → A) (z : A) where
    appended : (k : ℕ) (xs : List A) → pointwise s xs (map h (take k xs) ++ replicate (length xs - length (map h (take k xs))) z)
        ≡ list_all (λ (x : A). s x (h x)) (take k xs) && list_all (λ (x : A). s x z) (drop k xs)
    appended zero xs = let e : length xs - 0 ≡ length xs = omega arith in rw e (same_zeros s z xs)
    appended (suc k) [] = refl
    appended (suc k) (x ∷ xs) =
        let e : suc (length xs) - suc (length (map h (take k xs))) ≡ length xs - length (map h (take k xs)) = omega arith in
        rw (e, appended k xs) (sym (and_assoc (s x (h x)) (list_all (λ (x : A). s x (h x)) (take k xs)) (list_all (λ (x : A). s x z) (drop k xs))))

    -- an array of n places is the packing of its first k, each made anew by h
    pub same_padded : (n k : ℕ) (xs : List A) → length xs ≡ n →
        pointwise s xs (padded n z (map h (take k xs))) ≡ list_all (λ (x : A). s x (h x)) (take k xs) && list_all (λ (x : A). s x z) (drop k xs)
    unfolding padded
    same_padded n k xs e = rw (← e) (appended k xs)

  pub same_padded_plain : (s : A → A → Bool) → IsSame s → (z : A) (n k : ℕ) (xs : List A) → length xs ≡ n →
      pointwise s xs (padded n z (take k xs)) ≡ list_all (λ (x : A). s x z) (drop k xs)
  same_padded_plain s d z n k xs e =
      ap (λ (l : List A). pointwise s xs (padded n z l)) (sym (map-id (take k xs))) ∙ same_padded s (λ (x : A). x) z n k xs e
      ∙ ap (λ (b : Bool). b && list_all (λ (x : A). s x z) (drop k xs)) (every_true (λ (x : A). s x x) (take k xs) d.same_refl)

  -- a list is held tidily exactly if it is the packing of what it lists
  pub tidy_listed_is : (s : A → A → Bool) → IsSame s → (z : A) (n : ℕ) (l : Listed A n) → length l.items ≡ n →
      tidy_listed n (λ (x : A). s x z) l ≡ eqb l.count (length (listed l)) && pointwise s l.items (padded n z (listed l))
  tidy_listed_is s d z n l e =
      sym (ap₂ ◌&&◌ (count_take l.count l.items ∙ ap (leb l.count) e) (same_padded_plain s d z n l.count l.items e))

-- ===== each by the length of its own array =====

pub prev_ids_tidy_is : (p : PrevIds) → length p.items ≡ 2 → tidy_listed 2 is_zero_id p ≡ prev_ids_tidy p
prev_ids_tidy_is p l = tidy_listed_is same_id id_same zero_id 2 p l

pub tops_tidy_is : (t : TopBlocks) → length t.items ≡ 8 → tidy_listed 8 is_zero_top t ≡ tops_tidy t
tops_tidy_is t l = tidy_listed_is same_top top_same zero_top 8 t l

pub entry_tidy_is : (b : BlockCacheEntry) → entry_tidy b ≡ prev_ids_tidy b.prev_ids
unfolding same_entry
entry_tidy_is b =
    rw (id_same.same_refl b.block_id, anchor_same.same_refl b.top_anchor, nat_same.same_refl b.ref_by_mc_seqno, nat_same.same_refl b.payload, kind_same.same_refl b.«data»)
    (and-true (prev_ids_tidy b.prev_ids))
