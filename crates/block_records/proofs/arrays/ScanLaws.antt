-- Loops over the first places of an array, over any element type: a search, a test of neighbours, those that pass moved together, one put in where it stands.
-- Assumes nothing.
use Rattle.std.proofs.lemmas.List.{drop-replicate}
use Rattle.std.specs.List.{list_all, find}
use Rattle.std.specs.Prelude.{is_some, filter}
use mathlib.Core.Bool.{Bool, ◌&&◌, ◌||◌, false, true}
use mathlib.Core.List.{List, [], ◌++◌, ◌∷◌, append_assoc, append-nil}
use mathlib.Core.Path.{◌∙◌, ◌≡◌, ap, refl, sym}
use Prim.Native.Nat.{◌+◌, ◌-◌, ◌<◌, ◌≤◌, ℕ}
use native.Mathlib.Nat.{le_refl}
use native.Mathlib.Numerals.{add-one}
use native.Mathlib.Omega.{arith}
use borrow.Author.Tests.{le-ltb}
use lib.Dec.{ltb}
use lib.ListN.{drop, get_or, length, length-append, replicate, set, take, take-append-drop}
use lib.Seq.{drop-append-add, drop-append-le, length-take-le, set_split, take-take}
use Rattle.block_records.proofs.arrays.ArrayLaws.{length_spliced, length_within}
use Rattle.block_records.proofs.arrays.LoopLaws.{set_padded}
use Rattle.block_records.proofs.rules.ListLaws.{Order, every_weaken, length_select}
use Rattle.block_records.proofs.rules.Tests.{and_intro, iff_same, on}
use Rattle.block_records.specs.arrays.Arrays.{overwritten, spliced}
use Rattle.block_records.specs.rules.Lists.{padded, put, rising}
use Rattle.block_records.specs.layout.Listed.{packed, pushed}
use Rattle.block_records.specs.declared.listed.Listed.{Listed}
use Rattle.std.proofs.lemmas.List.Elements.{filter_more}
use Rattle.std.specs.Cmp.{first_so, second_so}

-- ===== the first places =====

module _ {A : Type 0} where
  -- those listed are fewer than the places exactly if the count is
  pub few_listed : (size n : ℕ) (xs : List A) → length xs ≡ size → ltb (length (take n xs)) size ≡ ltb n size
  few_listed size n xs l =
      rw (length_within size n xs l) (on (ltb n size) (λ t. rw t t) (λ t. rw t (le-ltb size size (le_refl size))))

-- ===== a search for one that passes, at place i of the first `count` =====

module _ {A : Type 0} (p : A → Bool) where
  -- one element more
  pub any_snoc : (xs : List A) (a : A) → is_some (find p (xs ++ (a ∷ []))) ≡ is_some (find p xs) || p a
  any_snoc [] a = on (p a) (λ t. rw t) (λ t. rw t)
  any_snoc (x ∷ xs) a = on (p x) (λ t. rw t) (λ t. rw t (any_snoc xs a))

-- ===== a test that each element comes before the next =====

module _ {A : Type 0} (lt : A → A → Bool) where
  abbrev pub neighbours : List A → Bool
  neighbours [] = true
  neighbours (x ∷ []) = true
  neighbours (x ∷ y ∷ ys) = lt x y && neighbours (y ∷ ys)

  -- by a transitive order that is that each comes before all that follow
  pub rising_neighbours : Order lt → (xs : List A) → rising lt xs ≡ neighbours xs
  rising_neighbours o [] = refl
  rising_neighbours o (x ∷ []) = refl
  rising_neighbours o (x ∷ y ∷ ys) = rw (← rising_neighbours o (y ∷ ys)) (on (lt x y) yes (λ t. rw t))
    where
      yes : lt x y ≡ true → rising lt (x ∷ y ∷ ys) ≡ lt x y && rising lt (y ∷ ys)
      yes t =
          rw t
          (iff_same (list_all (lt x) ys && rising lt (y ∷ ys)) (rising lt (y ∷ ys)) (second_so (list_all (lt x) ys) (rising lt (y ∷ ys)))
          (λ h. and_intro (every_weaken (lt y) (lt x) ys (λ z l. o.trans x y z t l) (first_so (list_all (lt y) ys) (rising lt ys) h)) h))

-- ===== a loop that lists the elements that pass, at place i of l =====

-- one more item in the first free place
pub pushed_packed : {A : Type 0} (n : ℕ) (z : A) (xs : List A) (a : A) → length xs < n → pushed a (packed n z xs) ≡ packed n z (xs ++ (a ∷ []))
pushed_packed n z xs a h =
    let c : length xs + 1 ≡ length (xs ++ (a ∷ [])) = omega (arith, length-append xs (a ∷ [])) in
    let e = set_padded n z xs (length xs) a refl h in
    λ i. record { count = c i; items = e i }

module _ {A : Type 0} (p : A → Bool) where
  -- this one passes
  pub retain_yes : (size : ℕ) (z : A) (l : List A) (i : ℕ) (d : A) (kept : Listed A size) → kept ≡ packed size z (filter p (take i l)) → p (get_or l i d) ≡ true → i < length l → length l ≤ size →
      pushed (get_or l i d) kept ≡ packed size z (filter p (take (i + 1) l))
  retain_yes size z l i d kept c e h b =
      let q : filter p (take (i + 1) l) ≡ filter p (take i l) ++ (get_or l i d ∷ []) = rw e at (filter_more p l i d h) in
      rw (c, q) (pushed_packed size z (filter p (take i l)) (get_or l i d) (omega (arith, length_select p (take i l), length-take-le i l (omega arith))))

  -- this one does not
  pub retain_no : (size : ℕ) (z : A) (l : List A) (i : ℕ) (d : A) (kept : Listed A size) → kept ≡ packed size z (filter p (take i l)) → p (get_or l i d) ≡ false → i < length l →
      kept ≡ packed size z (filter p (take (i + 1) l))
  retain_no size z l i d kept c e h = c ∙ ap (packed size z) (sym (filter_more p l i d h ∙ rw (e, append-nil)))

-- one that is replaced where it stands
module _ {A : Type 0} (a : A) (xs : List A) (count : ℕ) (few : count ≤ length xs) (k : ℕ) (h : k < count) where
  listed : length (take count xs) ≡ count
  listed = length-take-le count xs few

  -- as many as before
  pub replaced_length : count ≡ length (spliced k (k + 1) a (take count xs))
  replaced_length = let l = listed in omega (arith, length_spliced k (k + 1) a (take count xs) (omega arith) (omega arith))

  -- the others stay
  pub set_replaces : set xs k a ≡ overwritten (spliced k (k + 1) a (take count xs)) xs
  set_replaces =
      let l = listed in
      let e : drop (k + 1) (take count xs) ++ drop count xs ≡ drop (k + 1) xs =
      sym (drop-append-le (k + 1) (take count xs) (drop count xs) (omega arith)) ∙ ap (drop (k + 1)) (take-append-drop count xs) in
      rw (← replaced_length, append_assoc, e, take-take k count xs (omega arith), add-one k) (set_split xs k a (omega arith))

-- ===== over an array with zeros after its list =====

module _ {A : Type 0} where
  -- a list that is no shorter: zeros stand after it
  pub overwritten_padded : (n : ℕ) (z : A) (xs ys : List A) → length ys ≤ length xs → overwritten xs (padded n z ys) ≡ padded n z xs
  unfolding padded
  overwritten_padded n z xs ys h =
      let k : length xs ≡ length ys + (length xs - length ys) = omega arith in
      let m : n - length ys - (length xs - length ys) ≡ n - length xs = omega arith in
      let e : drop (length xs) (ys ++ replicate (n - length ys) z) ≡ replicate (n - length xs) z =
      ap (λ (i : ℕ). drop i (ys ++ replicate (n - length ys) z)) k ∙ drop-append-add ys (replicate (n - length ys) z) (length xs - length ys)
      ∙ drop-replicate (length xs - length ys) (n - length ys) z ∙ ap (λ (i : ℕ). replicate i z) m in
      ap (λ (l : List A). xs ++ l) e

  -- put makes no list shorter
  pub put_longer : (lt : A → A → Bool) (a : A) (xs : List A) → length xs ≤ length (put lt a xs)
  put_longer lt a [] = omega arith
  put_longer lt a (x ∷ xs) =
      let ih = put_longer lt a xs in
      on (lt a x) (λ t. rw t (omega arith)) (λ t. rw t (on (lt x a) (λ u. rw u (omega arith)) (λ u. rw u (omega arith))))
