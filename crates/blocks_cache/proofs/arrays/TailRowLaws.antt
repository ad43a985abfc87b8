-- Tail rows and the ids that wait, in their arrays: what the steps of the code make of them.
-- Assumes nothing.
use Rattle.cache_rules.specs.TailIds.{less_option}
use Rattle.block_records.proofs.rules.BlockIdLaws.{id_cmp, id_lt, shard_eq_is, shard_lt_is, shard_ordering}
use Rattle.std.specs.Option.{option_partial_cmp}
use Rattle.std.specs.Ordering.{is_eq, is_lt, is_some_and}
use Rattle.std.specs.Prelude.{Option, None, Some, is_some, map, cond, Err, Ok, Result}
use Rattle.std.proofs.Common.{◌≡◌, ℕ, zero, suc, ◌+◌, ◌<◌, ◌≤◌, Bool, true, false, not, ◌||◌, eqb, ltb, leb, List, [], ◌∷◌, ◌++◌, length, get_or, take, sym, refl, ap, ◌∙◌, ap₂, arith, length-take-le, subst, append_assoc, append-nil, length-append, ltb-false, eq-eqb, le-leb}
use borrow.Author.Tests.{lt-leb}
use lib.Seq.{take_all, take-nil}
use Rattle.std.proofs.lemmas.List.{drop_all, get_or_default}
use lib.ListN.{drop, length-drop}
use Rattle.block_records.proofs.arrays.LoopLaws.{drop_next}
use Rattle.block_records.proofs.layout.EntryLaws.{view_pack_prev_ids}
use Rattle.block_records.specs.declared.block_id.ShardIdent.{ShardIdent}
use Rattle.block_records.proofs.arrays.ListedLaws.{any_finds}
use Rattle.std.specs.List.{list_any}
use Rattle.block_records.specs.arrays.Place.{place}
use Rattle.block_records.specs.layout.Listed.{packed}
use Rattle.block_records.proofs.rules.Tests.{absurd_eq}
use Rattle.block_records.specs.declared.block_id.BlockId.{BlockId}
use Rattle.block_records.specs.layout.Listed.{PrevIds}
use Rattle.blocks_cache.specs.declared.tail_ids.TailIdsRow.{TailIdsRow}
use Rattle.block_records.proofs.arrays.ArrayLaws.{length_take_few, length_within, two_places, within_few}
use Rattle.block_records.proofs.arrays.PlaceLaws.{at_within, put_inserts, vacant_within}
use Rattle.block_records.proofs.arrays.ScanLaws.{any_snoc}
use Rattle.block_records.proofs.rules.BlockIdLaws.{id_order, shard_order}
use Rattle.block_records.proofs.rules.OrderLaws.{asym}
use Rattle.block_records.proofs.rules.Tests.{clash, on, or_left, or_right}
use Rattle.block_records.specs.arrays.Arrays.{spliced}
use Rattle.block_records.specs.layout.Entry.{pack_prev_ids}
use Rattle.block_records.specs.layout.Zeros.{zero_id, zero_prev_ids}
use Rattle.block_records.specs.rules.BlockId.{listed_prev_ids, same_id, same_shard}
use Rattle.block_records.specs.rules.Lists.{put}
use Rattle.blocks_cache.specs.arrays.TailIds.{TailRows, fresh_ids, has_number, hold_row, listed_tails, put_row, replaces_last, replaces_row, row_at, row_before, row_below, row_held_at, row_place, set_row, with_rows, zero_tail}
use Rattle.blocks_cache.specs.arrays.TailQueue.{fingerprint}
use Rattle.cache_rules.specs.TailIdsOnce.{knows, unknown_ids}
use Rattle.std.proofs.lemmas.Bool.{not-true, not-false}

-- the first where the test holds, else the second
pub picked : {A : Type 0} (b : Bool) (x y : A) → b ≡ true → x ≡ cond b x y
picked b x y t = rw t

pub passed : {A : Type 0} (b : Bool) (x y : A) → b ≡ false → y ≡ cond b x y
passed b x y t = rw t

-- ===== a row held =====

pub row_once : (r x : TailIdsRow) → row_before x r ≡ true → row_before r x ≡ false
row_once r x t = asym shard_order x.shard r.shard t

pub row_level : (r x : TailIdsRow) → row_before x r ≡ false → row_at r.shard x ≡ not (row_before r x)
row_level r x t =
    on (same_shard x.shard r.shard)
    (λ u. let e = shard_order.same_eq x.shard r.shard u in rw (u, e, shard_order.irrefl r.shard))
    (λ u. rw (u, shard_order.tri x.shard r.shard u t))

length_inserted : {A : Type 0} (a : A) (xs : List A) (k : ℕ) → k ≤ length xs → length (spliced k k a xs) ≡ length xs + 1
length_inserted a xs k h = omega (arith, length-append (take k xs) (a ∷ drop k xs), length-take-le k xs h, length-drop k xs)

-- a search that compares the shards
pub row_searched : (s : ShardIdent) (rs : List TailIdsRow) →
    place (λ (r : TailIdsRow). is_lt (shard_ordering r.shard s)) (λ (r : TailIdsRow). is_eq (shard_ordering r.shard s)) rs ≡ place (row_below s) (row_at s) rs
row_searched s rs = λ i. place (λ (r : TailIdsRow). shard_lt_is r.shard s i) (λ (r : TailIdsRow). shard_eq_is r.shard s i) rs

module _ (t : TailRows) (r : TailIdsRow) (k : ℕ) where
  few : length t.items ≡ 17 → length (listed_tails t) ≤ 17
  few long = rw (length_within 17 t.count t.items long) (within_few 17 t.count)

  module _ (e : row_place r.shard t ≡ Ok k) where
    at_listed : k < length (listed_tails t)
    at_listed = at_within (row_below r.shard) (row_at r.shard) (listed_tails t) k e

    -- the place of a row that is listed
    row_listed : length t.items ≡ 17 → k < 17
    row_listed long = omega (arith, at_listed, few long)

    -- d is any row
    module _ (long : length t.items ≡ 17) (d : TailIdsRow) where
      held_test : (b : Bool) → replaces_last r.id (get_or t.items k d).id ≡ b → replaces_row r (get_or t.items k zero_tail) ≡ b
      held_test b h = ap (replaces_row r) (get_or_default t.items k zero_tail d (omega (arith, row_listed long, long))) ∙ h

      held_placed : row_held_at r (Ok k) t ≡ hold_row r t
      unfolding hold_row
      held_placed = ap (λ (p : Result ℕ ℕ). row_held_at r p t) (sym e)

      pub hold_replaces : replaces_last r.id (get_or t.items k d).id ≡ true → set_row k r t ≡ hold_row r t
      hold_replaces h = picked (replaces_row r (get_or t.items k zero_tail)) (set_row k r t) t (held_test true h) ∙ held_placed

      pub hold_keeps : replaces_last r.id (get_or t.items k d).id ≡ false → t ≡ hold_row r t
      hold_keeps h = passed (replaces_row r (get_or t.items k zero_tail)) (set_row k r t) t (held_test false h) ∙ held_placed

  module _ (e : row_place r.shard t ≡ Err k) where
    vacant_listed : k ≤ length (listed_tails t)
    vacant_listed = vacant_within (row_below r.shard) (row_at r.shard) (listed_tails t) k e

    vacant_placed : put_row r t ≡ hold_row r t
    unfolding hold_row
    vacant_placed = ap (λ (p : Result ℕ ℕ). row_held_at r p t) (sym e)

    longer : length (put row_before r (listed_tails t)) ≡ length (listed_tails t) + 1
    longer =
        let p = put_inserts row_before r (row_at r.shard) (row_once r) (row_level r) (listed_tails t) k e in
        rw p (length_inserted r (listed_tails t) k vacant_listed)

    -- where fewer are listed than there are places
    pub hold_inserts : length (listed_tails t) < 17 → (z : TailIdsRow) (x : TailRows) → z ≡ zero_tail → x ≡ packed 17 z (spliced k k r (listed_tails t)) → x ≡ hold_row r t
    hold_inserts h z x ez q =
        let p = put_inserts row_before r (row_at r.shard) (row_once r) (row_level r) (listed_tails t) k e in
        let l = longer in
        let s : with_rows (put row_before r (listed_tails t)) ≡ put_row r t = picked (leb (length (put row_before r (listed_tails t))) 17) (with_rows (put row_before r (listed_tails t))) t (le-leb _ _ (omega arith)) in
        q ∙ ap₂ (λ (y : TailIdsRow) (rs : List TailIdsRow). packed 17 y rs) ez (sym p) ∙ s ∙ vacant_placed

    pub hold_full : 17 ≤ length (listed_tails t) → t ≡ hold_row r t
    hold_full h =
        let l = longer in
        passed (leb (length (put row_before r (listed_tails t))) 17) (with_rows (put row_before r (listed_tails t))) t (lt-leb _ _ (omega arith)) ∙ vacant_placed

pub ruleset held_rows = (hold_replaces, hold_keeps, hold_full)

-- what the language's `<` answers of two ids that may be absent
pub option_lt : (a b : Option BlockId) → is_some_and is_lt (option_partial_cmp id_cmp a b) ≡ less_option a b
option_lt None None = refl
option_lt None (Some b) = refl
option_lt (Some a) None = refl
option_lt (Some a) (Some b) = id_lt a b

-- beside an id that is held the order decides
pub replaces_held : (a h : Option BlockId) → is_some h ≡ true → less_option a h ≡ replaces_last a h
replaces_held a None e = absurd_eq e
replaces_held a (Some i) e = refl

-- ===== the ids that wait =====

-- an id is among one list or the other
pub among_two : (known fresh : List BlockId) (i : BlockId) → list_any (same_id i) known || list_any (same_id i) fresh ≡ knows (known ++ fresh) i
among_two [] fresh i = any_finds (same_id i) fresh
among_two (x ∷ known) fresh i = on (same_id i x) (λ t. rw t) (λ t. rw t (among_two known fresh i))

-- what the loop over previous ids has found among them, before place i
pub record FreshSoFar (known xs : List BlockId) (i : ℕ) (fresh : PrevIds) : Type 0 where
  pub is_packed : fresh ≡ pack_prev_ids (listed_prev_ids fresh)
  pub few : fresh.count ≤ i
  pub number : fresh.count ≡ length (listed_prev_ids fresh)
  pub short : length xs ≤ 2
  pub rest : unknown_ids known xs ≡ listed_prev_ids fresh ++ unknown_ids (known ++ listed_prev_ids fresh) (drop i xs)

module _ (known xs : List BlockId) where
  pub fresh_start : length xs ≤ 2 → (z : PrevIds) → z ≡ zero_prev_ids → FreshSoFar known xs 0 z
  unfolding zero_prev_ids
  fresh_start h z e = subst (FreshSoFar known xs 0) (sym e) (record { is_packed = refl; few = omega arith; number = refl; short = h; rest = rw append-nil })

module _ {known xs : List BlockId} {i : ℕ} {fresh : PrevIds} (v : FreshSoFar known xs i fresh) where
  abbrev so_far : List BlockId
  so_far = listed_prev_ids fresh

  -- by the test of the id here; d is any id
  module _ (h : i < length xs) (d : BlockId) (l : List BlockId) (el : l ≡ listed_prev_ids fresh) (test : Bool) (tells : test ≡ not (knows (known ++ l) (get_or xs i d))) where
    abbrev here : BlockId
    here = get_or xs i d

    abbrev with_here : List BlockId
    with_here = so_far ++ (here ∷ [])

    tells_so_far : test ≡ not (knows (known ++ so_far) here)
    tells_so_far = tells ∙ ap (λ (ys : List BlockId). not (knows (known ++ ys) here)) el

    pub fresh_passed : test ≡ false → FreshSoFar known xs (i + 1) fresh
    fresh_passed e =
        let t = not-false (knows (known ++ so_far) here) (sym tells_so_far ∙ e) in
        let f = v.few in
        let r : unknown_ids (known ++ so_far) (drop i xs) ≡ unknown_ids (known ++ so_far) (drop (i + 1) xs) = rw (drop_next xs i d h, t) in
        record { is_packed = v.is_packed; few = omega arith; number = v.number; short = v.short; rest = v.rest ∙ ap (λ (ys : List BlockId). so_far ++ ys) r }

    found_fresh : knows (known ++ so_far) here ≡ false → FreshSoFar known xs (i + 1) (pack_prev_ids with_here)
    found_fresh t =
        let f = v.few in
        let n = v.number in
        let l = length-append so_far (here ∷ []) in
        let p : listed_prev_ids (pack_prev_ids with_here) ≡ with_here = view_pack_prev_ids with_here in
        let r : unknown_ids (known ++ so_far) (drop i xs) ≡ here ∷ unknown_ids ((known ++ so_far) ++ (here ∷ [])) (drop (i + 1) xs) = rw (drop_next xs i d h, t) in
        record {
          is_packed = ap pack_prev_ids (sym p);
          few = omega arith;
          number = ap length (sym p);
          short = v.short;
          rest =
              v.rest ∙ ap (λ (ys : List BlockId). so_far ++ ys) r
              ∙ ap (λ (ks : List BlockId). so_far ++ (here ∷ unknown_ids ks (drop (i + 1) xs))) (append_assoc known so_far (here ∷ []))
              ∙ sym (append_assoc so_far (here ∷ []) (unknown_ids (known ++ with_here) (drop (i + 1) xs)))
              ∙ ap (λ (ks : List BlockId). ks ++ unknown_ids (known ++ ks) (drop (i + 1) xs)) (sym p);
        }

    pub fresh_taken : test ≡ true → (z : BlockId) → z ≡ zero_id → (r : PrevIds) →
        r ≡ packed 2 z (spliced fresh.count fresh.count (get_or xs i d) (listed_prev_ids fresh)) → FreshSoFar known xs (i + 1) r
    fresh_taken t z ez r e =
        let n = v.number in
        let s : spliced fresh.count fresh.count here so_far ≡ with_here =
        ap₂ (λ (a b : List BlockId). a ++ (here ∷ b)) (take_all fresh.count so_far (omega arith)) (drop_all fresh.count so_far (omega arith)) in
        subst (FreshSoFar known xs (i + 1)) (sym (e ∙ ap₂ (λ (y : BlockId) (ys : List BlockId). packed 2 y ys) ez s)) (found_fresh (not-true (knows (known ++ so_far) here) (sym tells_so_far ∙ t)))

  module _ (h : length xs ≤ i) where
    all_found : listed_prev_ids fresh ≡ unknown_ids known xs
    all_found = sym (v.rest ∙ rw (drop_all i xs h, append-nil))

    found_number : fresh.count ≡ length (unknown_ids known xs)
    found_number = v.number ∙ ap length all_found

    pub fresh_fits : length known + fresh.count ≤ 256 → fresh ≡ pack_prev_ids (fresh_ids known xs)
    unfolding fresh_ids
    fresh_fits m =
        let n = found_number in
        v.is_packed ∙ ap pack_prev_ids (all_found ∙ picked (leb (length known + length (unknown_ids known xs)) 256) (unknown_ids known xs) [] (le-leb _ _ (omega arith)))

    pub fresh_none : 256 < length known + fresh.count → (z : PrevIds) → z ≡ zero_prev_ids → z ≡ pack_prev_ids (fresh_ids known xs)
    unfolding fresh_ids zero_prev_ids
    fresh_none m z q =
        let n = found_number in
        q ∙ ap pack_prev_ids (passed (leb (length known + length (unknown_ids known xs)) 256) (unknown_ids known xs) [] (lt-leb _ _ (omega arith)))

pub ruleset fresh_ends = (fresh_fits, fresh_none)

-- ===== fingerprints =====

-- an id whose fingerprint is not there is not known
no_fingerprint : (i : BlockId) (ids : List BlockId) → has_number (map fingerprint ids) (fingerprint i) ≡ false → knows ids i ≡ false
no_fingerprint i [] h = refl
no_fingerprint i (x ∷ ids) h =
    on (eqb (fingerprint x) (fingerprint i))
    (λ t. clash {b = true} refl (rw t at h))
    (λ t. on (same_id i x)
    (λ u. clash (eq-eqb (fingerprint x) (fingerprint i) (ap fingerprint (sym (id_order.same_eq i x u)))) t)
    (λ u. rw u (no_fingerprint i ids (rw t at h))))

-- neither is known, and they are two: both are new
new_ids : (known : List BlockId) (p q : BlockId) (n : ℕ) → knows known p ≡ false → knows known q ≡ false → same_id q p ≡ false → unknown_ids known (take n (p ∷ q ∷ [])) ≡ take n (p ∷ q ∷ [])
new_ids known p q zero f g s = refl
new_ids known p q (suc zero) f g s = rw f
new_ids known p q (suc (suc n)) f g s =
    let second : knows (known ++ (p ∷ [])) q ≡ false = any_snoc (same_id q) known p ∙ rw (g, s) in
    rw (take-nil n, f, second)

module _ (known : List BlockId) (prints : List ℕ) (of_ids : prints ≡ map fingerprint known) (prev : PrevIds) (two : length prev.items ≡ 2) (d e : BlockId)
    (first second : ℕ) (is_first : first ≡ fingerprint (get_or prev.items 0 d)) (is_second : second ≡ fingerprint (get_or prev.items 1 e))
    (has_first has_second : Bool) (tells_first : has_first ≡ has_number prints first) (tells_second : has_second ≡ has_number prints second) where
  abbrev p : BlockId
  p = get_or prev.items 0 d

  abbrev q : BlockId
  q = get_or prev.items 1 e

  unknown_by : (i : BlockId) (n : ℕ) (b : Bool) → n ≡ fingerprint i → b ≡ has_number prints n → b ≡ false → knows known i ≡ false
  unknown_by i n b en eb f = no_fingerprint i known (ap₂ (λ (k : ℕ) (ps : List ℕ). has_number ps k) (sym en) (sym of_ids) ∙ sym eb ∙ f)

  pub all_new : ((has_first || has_second) || eqb first second) || ltb 254 (length known) ≡ false → (r : PrevIds) → r ≡ pack_prev_ids (listed_prev_ids prev) →
      r ≡ pack_prev_ids (fresh_ids known (listed_prev_ids prev))
  unfolding fresh_ids
  all_new h r er =
      let h₁ = or_left ((has_first || has_second) || eqb first second) (ltb 254 (length known)) h in
      let h₂ = or_left (has_first || has_second) (eqb first second) h₁ in
      let few : length known ≤ 254 = ltb-false 254 (length known) (or_right ((has_first || has_second) || eqb first second) (ltb 254 (length known)) h) in
      let other : same_id q p ≡ false =
      on (same_id q p)
      (λ t. clash (eq-eqb first second (is_first ∙ sym (is_second ∙ ap fingerprint (id_order.same_eq q p t)))) (or_right (has_first || has_second) (eqb first second) h₁))
      (λ t. t) in
      let ps : listed_prev_ids prev ≡ take prev.count (p ∷ q ∷ []) = ap (take prev.count) (two_places prev.items d e two) in
      let new : unknown_ids known (listed_prev_ids prev) ≡ listed_prev_ids prev =
      ap (unknown_ids known) ps
      ∙ new_ids known p q prev.count (unknown_by p first has_first is_first tells_first (or_left has_first has_second h₂))
      (unknown_by q second has_second is_second tells_second (or_right has_first has_second h₂)) other
      ∙ sym ps in
      let n : length (listed_prev_ids prev) ≤ 2 = omega (arith, two, length_take_few prev.count prev.items) in
      let t = le-leb (length known + length (unknown_ids known (listed_prev_ids prev))) 256 (omega (arith, n, few, ap length new)) in
      er ∙ ap pack_prev_ids (sym new ∙ picked (leb (length known + length (unknown_ids known (listed_prev_ids prev))) 256) (unknown_ids known (listed_prev_ids prev)) [] t)
