-- The rows held do not depend on the order in which previous ids are taken, nor on how often.
-- Assumes nothing.
use Rattle.std.specs.List.{list_all, find, flat_map, fold}
use Rattle.std.specs.Prelude.{Option, None, Some, cond, is_some}
use mathlib.Core.Bool.{◌||◌, false, not, true}
use mathlib.Core.List.Memᴰ
use mathlib.Core.List.{List, Memᴰ, [], ◌++◌, ◌∷◌}
use mathlib.Core.Logic.{◌⊎◌, inl, inr}
use mathlib.Core.Path.{◌∙◌, ◌≡◌, ap, refl, subst, sym}
use Prim.Native.Nat.{ℕ}
use lib.Dec.{eqb}
use Rattle.block_records.specs.declared.block_id.BlockId.{BlockId}
use Rattle.block_records.specs.declared.block_id.ShardIdent.{ShardIdent}
use Rattle.block_records.proofs.rules.BlockIdLaws.{id_level, id_order, same_shard_refl, same_shard_true, shard_level, shard_order}
use Rattle.block_records.proofs.rules.ListLaws.{by_order, rising_put}
use Rattle.block_records.proofs.rules.Tests.{and_intro, clash, on, some_not_none}
use Rattle.block_records.specs.rules.BlockId.{id_shard, key, less_id, same_shard}
use Rattle.block_records.specs.rules.Entry.{Entry}
use Rattle.block_records.specs.rules.Lists.{put, rising}
use Rattle.cache_rules.specs.Calls.{TailRow}
use Rattle.cache_rules.specs.Model.{ShardModel, block_under}
use Rattle.cache_rules.specs.TailIds.{found_gives, gives, hold, hold_over, less_option, tail_before}
use Rattle.std.specs.Cmp.{first_so, second_so}

-- ===== folds that do not look at order and number =====

module _ {A B : Type 0} (f : B → A → B) where
  pub fold_append : (b : B) (xs ys : List A) → fold f b (xs ++ ys) ≡ fold f (fold f b xs) ys
  fold_append b [] ys = refl
  fold_append b (x ∷ xs) ys = fold_append (f b x) xs ys

  module _ (comm : (b : B) (x y : A) → f (f b x) y ≡ f (f b y) x) (idem : (b : B) (x : A) → f (f b x) x ≡ f b x) where
    -- one more at the end, or at the start
    fold_last : (b : B) (xs : List A) (y : A) → f (fold f b xs) y ≡ fold f (f b y) xs
    fold_last b [] y = refl
    fold_last b (x ∷ xs) y = fold_last (f b x) xs y ∙ ap (λ (c : B). fold f c xs) (comm b x y)

    fold_swap : (b : B) (xs ys : List A) → fold f (fold f b xs) ys ≡ fold f (fold f b ys) xs
    fold_swap b xs [] = refl
    fold_swap b xs (y ∷ ys) = ap (λ (c : B). fold f c ys) (fold_last b xs y) ∙ fold_swap (f b y) xs ys

    -- one that was taken changes nothing any more
    absorbs : (b : B) (xs : List A) {y : A} → Memᴰ y xs → f (fold f b xs) y ≡ fold f b xs
    absorbs b [] u = absurd (Memᴰ.not-nil u)
    absorbs b (x ∷ xs) {y} u = by (Memᴰ.cases_cons u) (λ (v : Memᴰ y xs). absorbs (f b x) xs v)
      where
        by : (y ≡ x) ⊎ Memᴰ y xs → (Memᴰ y xs → f (fold f (f b x) xs) y ≡ fold f (f b x) xs) → f (fold f (f b x) xs) y ≡ fold f (f b x) xs
        by (inl e) ih = rw e (fold_last (f b x) xs x ∙ ap (λ (c : B). fold f c xs) (idem b x))
        by (inr v) ih = ih v

    absorbs_all : (b : B) (xs ys : List A) → ((y : A) → Memᴰ y ys → Memᴰ y xs) → fold f (fold f b xs) ys ≡ fold f b xs
    absorbs_all b xs [] h = refl
    absorbs_all b xs (y ∷ ys) h =
        ap (λ (c : B). fold f c ys) (absorbs b xs (h y (Memᴰ.head refl))) ∙ absorbs_all b xs ys (λ z u. h z (Memᴰ.tail u))

    pub fold_members : (b : B) (xs ys : List A) → ((y : A) → Memᴰ y ys → Memᴰ y xs) → ((x : A) → Memᴰ x xs → Memᴰ x ys) → fold f b xs ≡ fold f b ys
    fold_members b xs ys h k = sym (absorbs_all b xs ys h) ∙ fold_swap b xs ys ∙ absorbs_all b ys xs k

-- ===== what is held for one shard =====

abbrev pub at_shard : ShardIdent → List TailRow → Option TailRow
at_shard s rows = find (λ (h : TailRow). same_shard h.shard s) rows

-- the better of a new row and what is held
abbrev better : TailRow → Option TailRow → Option TailRow
better t None = Some t
better t (Some h) = cond (not (is_some h.id) || less_option t.id h.id) (Some t) (Some h)

abbrev better_at : ShardIdent → Option TailRow → TailRow → Option TailRow
better_at s x t = cond (same_shard t.shard s) (better t x) x

put_at : (s : ShardIdent) (t : TailRow) (rows : List TailRow) → at_shard s (put tail_before t rows) ≡ cond (same_shard t.shard s) (Some t) (at_shard s rows)
put_at s t [] = refl
put_at s t (x ∷ rows) =
    on (tail_before t x)
    (λ a. rw a refl)
    (λ a. rw a
    (on (tail_before x t)
    (λ b. rw b
    (on (same_shard x.shard s)
    (λ c. rw c (on (same_shard t.shard s)
    (λ d. clash b (rw (same_shard_true x.shard s c, same_shard_true t.shard s d) (shard_order.irrefl s)))
    (λ d. rw d)))
    (λ c. rw c (put_at s t rows))))
    (λ b. let e : x.shard ≡ t.shard = sym (shard_level t.shard x.shard a b) in
    rw b (on (same_shard t.shard s) (λ d. rw d) (λ d. let c : same_shard x.shard s ≡ false = rw e d in rw (d, c))))))

row_held_at : (s : ShardIdent) (t : TailRow) (rows : List TailRow) (o : Option TailRow) → at_shard t.shard rows ≡ o → at_shard s (hold_over t o rows) ≡ better_at s (at_shard s rows) t
row_held_at s t rows None h =
    put_at s t rows
    ∙ on (same_shard t.shard s)
    (λ d. let e : at_shard s rows ≡ None = subst (λ (z : ShardIdent). at_shard z rows ≡ None) (same_shard_true t.shard s d) h in rw (d, e))
    (λ d. rw d)
row_held_at s t rows (Some x) h =
    on (not (is_some x.id) || less_option t.id x.id)
    (λ c. on (same_shard t.shard s)
    (λ d. let e : at_shard s rows ≡ Some x = subst (λ (z : ShardIdent). at_shard z rows ≡ Some x) (same_shard_true t.shard s d) h in rw c (put_at s t rows ∙ rw (d, e, better, c)))
    (λ d. rw c (put_at s t rows ∙ rw d)))
    (λ c. on (same_shard t.shard s)
    (λ d. let e : at_shard s rows ≡ Some x = subst (λ (z : ShardIdent). at_shard z rows ≡ Some x) (same_shard_true t.shard s d) h in rw (c, d, e, better, c))
    (λ d. rw (c, d)))

hold_at : (s : ShardIdent) (rows : List TailRow) (t : TailRow) → at_shard s (hold rows t) ≡ better_at s (at_shard s rows) t
hold_at s rows t = row_held_at s t rows (at_shard t.shard rows) refl

fold_at : (s : ShardIdent) (ts rows : List TailRow) → at_shard s (fold hold rows ts) ≡ fold (better_at s) (at_shard s rows) ts
fold_at s [] rows = refl
fold_at s (t ∷ ts) rows = fold_at s ts (hold rows t) ∙ ap (λ (x : Option TailRow). fold (better_at s) x ts) (hold_at s rows t)

abbrev tail_shard : TailRow → ShardIdent
tail_shard t = t.shard

held_rising : (t : TailRow) (rows : List TailRow) (o : Option TailRow) → rising tail_before rows ≡ true → rising tail_before (hold_over t o rows) ≡ true
held_rising t rows None h = rising_put tail_before (by_order shard_order tail_shard) t rows h
held_rising t rows (Some x) h =
    on (not (is_some x.id) || less_option t.id x.id) (λ c. rw c (rising_put tail_before (by_order shard_order tail_shard) t rows h)) (λ c. rw c h)

pub fold_rising : (ts rows : List TailRow) → rising tail_before rows ≡ true → rising tail_before (fold hold rows ts) ≡ true
fold_rising [] rows h = h
fold_rising (t ∷ ts) rows h = fold_rising ts (hold rows t) (held_rising t rows (at_shard t.shard rows) h)

-- ===== two rising lists that hold the same are one =====

none_later : (x : TailRow) (xs : List TailRow) → list_all (tail_before x) xs ≡ true → at_shard x.shard xs ≡ None
none_later x [] h = refl
none_later x (y ∷ xs) h =
    on (same_shard y.shard x.shard)
    (λ t. clash (first_so (tail_before x y) (list_all (tail_before x) xs) h) (rw (same_shard_true y.shard x.shard t) (shard_order.irrefl x.shard)))
    (λ t. rw t (none_later x xs (second_so (tail_before x y) (list_all (tail_before x) xs) h)))

-- what comes before the first is not there
none_before : (x y : TailRow) (ys : List TailRow) → tail_before x y ≡ true → list_all (tail_before y) ys ≡ true → at_shard x.shard (y ∷ ys) ≡ None
none_before x y ys l h = none_later x (y ∷ ys) (and_intro l (weaken ys h))
  where
    weaken : (zs : List TailRow) → list_all (tail_before y) zs ≡ true → list_all (tail_before x) zs ≡ true
    weaken [] k = refl
    weaken (z ∷ zs) k =
        and_intro ((by_order shard_order tail_shard).trans x y z l (first_so (tail_before y z) (list_all (tail_before y) zs) k)) (weaken zs (second_so (tail_before y z) (list_all (tail_before y) zs) k))

first_at : (x : TailRow) (xs : List TailRow) → at_shard x.shard (x ∷ xs) ≡ Some x
first_at x xs = rw (same_shard_refl x.shard)

tail_at : (s : ShardIdent) (x : TailRow) (xs ys : List TailRow) → list_all (tail_before x) xs ≡ true → list_all (tail_before x) ys ≡ true → at_shard s (x ∷ xs) ≡ at_shard s (x ∷ ys) → at_shard s xs ≡ at_shard s ys
tail_at s x xs ys h k e =
    on (same_shard x.shard s)
    (λ t. let q = same_shard_true x.shard s t in
    subst (λ (z : ShardIdent). at_shard z xs ≡ None) q (none_later x xs h) ∙ sym (subst (λ (z : ShardIdent). at_shard z ys ≡ None) q (none_later x ys k)))
    (λ t. rw t at e)

pub same_rows : (xs ys : List TailRow) → rising tail_before xs ≡ true → rising tail_before ys ≡ true → ((s : ShardIdent) → at_shard s xs ≡ at_shard s ys) → xs ≡ ys
same_rows [] [] h k e = refl
same_rows [] (y ∷ ys) h k e = some_not_none (first_at y ys) (sym (e y.shard))
same_rows (x ∷ xs) [] h k e = some_not_none (first_at x xs) (e x.shard)
same_rows (x ∷ xs) (y ∷ ys) h k e =
    let hx = first_so (list_all (tail_before x) xs) (rising tail_before xs) h in
    let ky = first_so (list_all (tail_before y) ys) (rising tail_before ys) k in
    on (tail_before x y)
    (λ a. some_not_none (first_at x xs) (e x.shard ∙ none_before x y ys a ky))
    (λ a. on (tail_before y x)
    (λ b. some_not_none (first_at y ys) (sym (e y.shard) ∙ none_before y x xs b hx))
    (λ b.
    let q : x.shard ≡ y.shard = shard_level x.shard y.shard a b in
    let f : Some x ≡ Some y = sym (first_at x xs) ∙ e x.shard ∙ subst (λ (z : ShardIdent). at_shard z (y ∷ ys) ≡ Some y) (sym q) (first_at y ys) in
    let g : x ≡ y = cc in
    let ky' : list_all (tail_before x) ys ≡ true = subst (λ (z : TailRow). list_all (tail_before z) ys ≡ true) (sym g) ky in
    let r : xs ≡ ys =
    same_rows xs ys (second_so (list_all (tail_before x) xs) (rising tail_before xs) h) (second_so (list_all (tail_before y) ys) (rising tail_before ys) k)
    (λ s. tail_at s x xs ys hx ky' (e s ∙ subst (λ (z : TailRow). at_shard s (y ∷ ys) ≡ at_shard s (z ∷ ys)) (sym g) refl)) in
    cc))

-- ===== previous ids' rows, in any order and number =====

abbrev row : BlockId → List BlockId → TailRow
row i ps = record { shard = id_shard i; id = Some i; previous = ps }

two : (i j : BlockId) (p q : List BlockId) → (i ≡ j → p ≡ q) → better (row j q) (Some (row i p)) ≡ better (row i p) (Some (row j q))
two i j p q same =
    on (less_id j i)
    (λ a. on (less_id i j) (λ b. clash (id_order.trans i j i b a) (id_order.irrefl i)) (λ b. rw (a, b)))
    (λ a. on (less_id i j)
    (λ b. rw (a, b))
    (λ b. let e : i ≡ j = id_level i j b a in let r : p ≡ q = same e in rw (a, b) (cc)))

module _ (i j : BlockId) (p q : List BlockId) (same : i ≡ j → p ≡ q) (h : TailRow) where
  three : (o : Option BlockId) → h.id ≡ o → better (row j q) (better (row i p) (Some h)) ≡ better (row i p) (better (row j q) (Some h))
  three None e = rw e (two i j p q same)
  three (Some a) e =
      on (less_id i a)
      (λ u. on (less_id j a)
      (λ v. rw (e, u, v) (two i j p q same))
      (λ v. on (less_id j i) (λ w. clash (id_order.trans j i a w u) v) (λ w. rw (e, u, v, w, u))))
      (λ u. on (less_id j a)
      (λ v. on (less_id i j) (λ w. clash (id_order.trans i j a w v) u) (λ w. rw (e, u, v, w)))
      (λ v. rw (e, u, v, u)))

pub row_comm : (s : ShardIdent) (x : Option TailRow) (i j : BlockId) (p q : List BlockId) → (i ≡ j → p ≡ q) →
    better_at s (better_at s x (row i p)) (row j q) ≡ better_at s (better_at s x (row j q)) (row i p)
row_comm s x i j p q same =
    on (same_shard (id_shard i) s)
    (λ a. on (same_shard (id_shard j) s) (λ b. rw (a, b) (by x)) (λ b. rw (a, b)))
    (λ a. on (same_shard (id_shard j) s) (λ b. rw (a, b)) (λ b. rw (a, b)))
  where
    by : (x : Option TailRow) → better (row j q) (better (row i p) x) ≡ better (row i p) (better (row j q) x)
    by None = two i j p q same
    by (Some h) = three i j p q same h h.id refl

row_idem : (s : ShardIdent) (x : Option TailRow) (i : BlockId) (p : List BlockId) → better_at s (better_at s x (row i p)) (row i p) ≡ better_at s x (row i p)
row_idem s x i p = on (same_shard (id_shard i) s) (λ a. rw a (by x)) (λ a. rw a)
  where
    at : (h : TailRow) (o : Option BlockId) → h.id ≡ o → better (row i p) (better (row i p) (Some h)) ≡ better (row i p) (Some h)
    at h None e = rw (e, id_order.irrefl i)
    at h (Some a) e = on (less_id i a) (λ u. rw (e, u, id_order.irrefl i)) (λ u. rw (e, u, u))

    by : (x : Option TailRow) → better (row i p) (better (row i p) x) ≡ better (row i p) x
    by None = rw (id_order.irrefl i)
    by (Some h) = at h h.id refl

-- what an id that was queued as a previous id gives: nothing, or one row under its own name
module _ (gs : List ShardModel) (m : ℕ) where
  found_shape : (i : BlockId) (o : Option Entry) → (found_gives m false i o ≡ []) ⊎ ((p : List BlockId) × (found_gives m false i o ≡ row i p ∷ []))
  found_shape i None = inl refl
  found_shape i (Some e) = on (eqb e.reference m) (λ t. inr (e.previous, rw t)) (λ t. inl (rw t))

  shape : (i : BlockId) → (gives gs m false i ≡ []) ⊎ ((p : List BlockId) × (gives gs m false i ≡ row i p ∷ []))
  shape i = on (eqb i.seqno 0) (λ t. inl (rw t)) (λ t. rw t (found_shape i (block_under gs (key i))))

  abbrev takes : ShardIdent → Option TailRow → BlockId → Option TailRow
  takes s x i = fold (better_at s) x (gives gs m false i)

  takes_comm : (s : ShardIdent) (x : Option TailRow) (i j : BlockId) → takes s (takes s x i) j ≡ takes s (takes s x j) i
  takes_comm s x i j = by (shape i) (shape j)
    where
      by : (gives gs m false i ≡ []) ⊎ ((p : List BlockId) × (gives gs m false i ≡ row i p ∷ [])) → (gives gs m false j ≡ []) ⊎ ((q : List BlockId) × (gives gs m false j ≡ row j q ∷ [])) →
          takes s (takes s x i) j ≡ takes s (takes s x j) i
      by (inl a) b = rw a
      by (inr a) (inl b) = rw b
      by (inr a) (inr b) =
          let same : i ≡ j → a.0 ≡ b.0 =
          λ e. let g : row i a.0 ∷ [] ≡ row j b.0 ∷ [] = sym a.1 ∙ ap (gives gs m false) e ∙ b.1 in rows_prevs g in
          rw (a.1, b.1) (row_comm s x i j a.0 b.0 same)
        where
          heads : List TailRow → List BlockId
          heads [] = []
          heads (t ∷ ts) = t.previous

          rows_prevs : {p q : List BlockId} → row i p ∷ [] ≡ row j q ∷ [] → p ≡ q
          rows_prevs g = ap heads g

  takes_idem : (s : ShardIdent) (x : Option TailRow) (i : BlockId) → takes s (takes s x i) i ≡ takes s x i
  takes_idem s x i = by (shape i)
    where
      by : (gives gs m false i ≡ []) ⊎ ((p : List BlockId) × (gives gs m false i ≡ row i p ∷ [])) → takes s (takes s x i) i ≡ takes s x i
      by (inl a) = rw a
      by (inr a) = rw a.1 (row_idem s x i a.0)

  flat_map_takes : (s : ShardIdent) (is : List BlockId) (x : Option TailRow) → fold (better_at s) x (flat_map (gives gs m false) is) ≡ fold (takes s) x is
  flat_map_takes s [] x = refl
  flat_map_takes s (i ∷ is) x = fold_append (better_at s) x (gives gs m false i) (flat_map (gives gs m false) is) ∙ flat_map_takes s is (takes s x i)

  -- the same ids, in any order and number
  pub same_ids_same_rows : (rows : List TailRow) (xs ys : List BlockId) → rising tail_before rows ≡ true → ((i : BlockId) → Memᴰ i ys → Memᴰ i xs) → ((i : BlockId) → Memᴰ i xs → Memᴰ i ys) →
      fold hold rows (flat_map (gives gs m false) xs) ≡ fold hold rows (flat_map (gives gs m false) ys)
  same_ids_same_rows rows xs ys r h k =
      same_rows (fold hold rows (flat_map (gives gs m false) xs)) (fold hold rows (flat_map (gives gs m false) ys)) (fold_rising (flat_map (gives gs m false) xs) rows r) (fold_rising (flat_map (gives gs m false) ys) rows r)
      (λ s. fold_at s (flat_map (gives gs m false) xs) rows ∙ flat_map_takes s xs (at_shard s rows) ∙ fold_members (takes s) (takes_comm s) (takes_idem s) (at_shard s rows) xs ys h k
      ∙ sym (flat_map_takes s ys (at_shard s rows)) ∙ sym (fold_at s (flat_map (gives gs m false) ys) rows))
