-- On a packed group, what pop, peek, collect and remove next collated ask is what the rules say of the model; and that the ids which go with the
-- removed masters are those by the highest, resp. the lowest, of their seqnos.
-- Assumes nothing.
use Rattle.std.specs.List.{find, fold, list_any, reduce}
use Rattle.std.specs.Prelude.{Option, option_map, None, Some, map, is_some, filter}
use mathlib.Core.Bool.{Bool, ◌&&◌, not, true}
use mathlib.Core.List.{List, [], ◌∷◌}
use mathlib.Core.Path.{◌∙◌, ◌≡◌, ap, refl, sym}
use Prim.Native.Nat.{max, min, ℕ}
use native.Mathlib.Omega.{arith}
use borrow.Author.Tests.{le-leb, le-ltb, leb-false, leb-true, lt-leb, lt-ltb, ltb-false, ltb-true}
use lib.Dec.{leb, ltb}
use Rattle.block_records.specs.declared.block_id.BlockIdShort.{BlockIdShort}
use Rattle.block_records.proofs.arrays.ArrayLaws.{each_select}
use Rattle.block_records.proofs.arrays.ListedLaws.{any_finds}
use Rattle.block_records.proofs.rules.Tests.{on}
use Rattle.block_records.specs.rules.Entry.{Entry, is_applied, kind_applied, kind_received}
use Rattle.blocks_group.specs.declared.group.Group.{Group}
use Rattle.block_records.specs.layout.Listed.{listed}
use Rattle.blocks_group.proofs.arrays.GroupLaws.{collected_packed, without_collated_above_packed}
use Rattle.blocks_group.proofs.arrays.LookupLaws.{find_each}
use Rattle.blocks_group.proofs.layout.BlockLaws.{packed_kind, packed_seqno}
use Rattle.blocks_group.proofs.layout.GroupLaws.{listed_packed}
use Rattle.blocks_group.proofs.rules.GroupLaws.{entry_seqno}
use Rattle.blocks_group.specs.arrays.Queries.{any_applied_above, held_applied_above, held_applied_from, below_group_boundary, block_collated_above, collect_group, collected_by, first_applied_block, highest_below_boundary, highest_seqno, lowest_collated_above, lowest_seqno, remove_collated_above, seqnos_of}
use Rattle.blocks_group.specs.layout.Block.{BlockLaws, BlockParts, block_seqno, pack_block}
use Rattle.blocks_group.specs.layout.Group.{pack_group}
use Rattle.blocks_group.specs.rules.Group.{GroupModel, below_boundary, collated_above, collected, with_entries, without_collated_above}

-- the model's reading: applied, at or above f; applied, above n
abbrev pub entry_applied_from : ℕ → Entry → Bool
entry_applied_from f e = leb f e.id.seqno && is_applied e

abbrev pub entry_applied_above : ℕ → Entry → Bool
entry_applied_above n e = ltb n e.id.seqno && is_applied e

present_map : {A B : Type 0} (f : A → B) (o : Option A) → is_some (option_map f o) ≡ is_some o
present_map f None = refl
present_map f (Some a) = refl

select_all : {A : Type 0} (xs : List A) → filter (λ (x : A). true) xs ≡ xs
select_all [] = refl
select_all {A} (x ∷ xs) = ap (λ (r : List A). x ∷ r) (select_all xs)

-- without a boundary nothing goes
collected_none : (m : GroupModel) → m.boundary ≡ None → collected m ≡ m
collected_none m e =
    ap (λ (o : Option BlockIdShort). with_entries (filter (λ (e : Entry). not (below_boundary o e)) m.entries) m) e ∙ ap (λ (es : List Entry). with_entries es m) (select_all m.entries)

module _ {B : Type 0} (k : BlockParts B) (h : BlockLaws k) where
  -- ===== applied blocks =====

  pub first_applied_packed : (f : ℕ) (m : GroupModel) → first_applied_block k f (pack_group k m) ≡ option_map (pack_block k) (find (entry_applied_from f) m.entries)
  first_applied_packed f m =
      ap (find (held_applied_from k f)) (listed_packed k m)
      ∙ find_each (pack_block k) (entry_applied_from f) (held_applied_from k f) (λ e. λ i. leb f (packed_seqno k h e i) && kind_applied (packed_kind k h e i)) m.entries

  pub applied_above_packed : (n : ℕ) (m : GroupModel) → any_applied_above k n (pack_group k m) ≡ is_some (find (entry_applied_above n) m.entries)
  applied_above_packed n m =
      ap (list_any (held_applied_above k n)) (listed_packed k m) ∙ any_finds (held_applied_above k n) (map (pack_block k) m.entries)
      ∙ ap is_some (find_each (pack_block k) (entry_applied_above n) (held_applied_above k n) (λ e. λ i. ltb n (packed_seqno k h e i) && kind_applied (packed_kind k h e i)) m.entries)
      ∙ present_map (pack_block k) (find (entry_applied_above n) m.entries)

  -- ===== the highest and the lowest seqno =====

  seqnos_map : (es : List Entry) → map (block_seqno k) (map (pack_block k) es) ≡ map entry_seqno es
  seqnos_map [] = refl
  seqnos_map (e ∷ es) = λ i. packed_seqno k h e i ∷ seqnos_map es i

  module _ (p : Entry → Bool) (q : B → Bool) (same : (e : Entry) → q (pack_block k e) ≡ p e) (m : GroupModel) where
    seqnos_packed : seqnos_of k q (pack_group k m) ≡ map entry_seqno (filter p m.entries)
    seqnos_packed =
        ap (λ (bs : List B). map (block_seqno k) (filter q bs)) (listed_packed k m) ∙ ap (map (block_seqno k)) (each_select (pack_block k) p q same m.entries)
        ∙ seqnos_map (filter p m.entries)

  -- without a boundary no block is below it
  pub none_below : (g : Group B) → highest_seqno (seqnos_of k (below_group_boundary k None) g) ≡ None
  none_below g = ap (λ (bs : List B). highest_seqno (map (block_seqno k) bs)) (none_passes (listed g.entries))
    where
      none_passes : (bs : List B) → filter (below_group_boundary k None) bs ≡ []
      none_passes [] = refl
      none_passes (b ∷ bs) = none_passes bs

  below_same : (o : Option BlockIdShort) (e : Entry) → below_group_boundary k o (pack_block k e) ≡ below_boundary o e
  below_same None e = refl
  below_same (Some key) e = ap (λ (s : ℕ). ltb s key.seqno) (packed_seqno k h e)

  pub highest_below_boundary_packed : (m : GroupModel) → highest_below_boundary k (pack_group k m) ≡ highest_seqno (map entry_seqno (filter (below_boundary m.boundary) m.entries))
  highest_below_boundary_packed m = ap highest_seqno (seqnos_packed (below_boundary m.boundary) (below_group_boundary k m.boundary) (below_same m.boundary) m)

  pub lowest_collated_above_packed : (n : ℕ) (m : GroupModel) → lowest_collated_above k n (pack_group k m) ≡ lowest_seqno (map entry_seqno (filter (collated_above n) m.entries))
  lowest_collated_above_packed n m =
      ap lowest_seqno (seqnos_packed (collated_above n) (block_collated_above k n) (λ e. λ i. ltb n (packed_seqno k h e i) && not (kind_received (packed_kind k h e i))) m)

  -- ===== collect, remove next collated =====

  module _ (m : GroupModel) where
    collect_by : (o : Option BlockIdShort) → m.boundary ≡ o → collected_by k o (pack_group k m) ≡ pack_group k (collected m)
    collect_by None e = ap (pack_group k) (sym (collected_none m e))
    collect_by (Some key) e = collected_packed k h m key e

    pub collect_group_packed : collect_group k (pack_group k m) ≡ pack_group k (collected m)
    collect_group_packed = collect_by m.boundary refl

    pub remove_collated_above_packed : (n : ℕ) → remove_collated_above k n (pack_group k m) ≡ pack_group k (without_collated_above n m)
    remove_collated_above_packed n = without_collated_above_packed k h m n

-- ===== ids that go with the removed masters =====

-- what stays by a number, if there is one
abbrev pub kept_by : {I : Type 0} → (ℕ → I → Bool) → Option ℕ → List I → List I
kept_by stays None ids = ids
kept_by stays (Some n) ids = filter (stays n) ids

module _ {I : Type 0} where
  select_twice : (p q r : I → Bool) → ((i : I) → q i && p i ≡ r i) → (ids : List I) → filter p (filter q ids) ≡ filter r ids
  select_twice p q r h [] = refl
  select_twice p q r h (i ∷ ids) =
      rw (← h i)
      (on (q i)
      (λ t. on (p i) (λ u. rw (t, u) (ap (λ (r : List I). i ∷ r) (select_twice p q r h ids))) (λ u. rw (t, u) (select_twice p q r h ids)))
      (λ t. rw t (select_twice p q r h ids)))

  -- each number in turn keeps some: those that stay are those that stay by the choice of the numbers
  module _ {E : Type 0} (stays : ℕ → I → Bool) (choice : ℕ → ℕ → ℕ) (both : (k n : ℕ) (i : I) → stays k i && stays n i ≡ stays (choice k n) i) (f : E → ℕ) where
    kept_from : (n : ℕ) (es : List E) (ids : List I) →
        fold (λ (is : List I) (e : E). filter (stays (f e)) is) (filter (stays n) ids) es ≡ filter (stays (fold choice n (map f es))) ids
    kept_from n [] ids = refl
    kept_from n (e ∷ es) ids =
        ap (λ (is : List I). fold (λ (is : List I) (e : E). filter (stays (f e)) is) is es) (select_twice (stays (f e)) (stays n) (stays (choice n (f e))) (both n (f e)) ids)
        ∙ kept_from (choice n (f e)) es ids

    kept_fold : (es : List E) (ids : List I) → fold (λ (is : List I) (e : E). filter (stays (f e)) is) ids es ≡ kept_by stays (reduce choice (map f es)) ids
    kept_fold [] ids = refl
    kept_fold (e ∷ es) ids = kept_from (f e) es ids

  module _ {E : Type 0} (f : E → ℕ) (g : I → ℕ) where
    -- ids dropped below each element are those dropped below the highest
    pub below_go : (es : List E) (ids : List I) →
        fold (λ (is : List I) (e : E). filter (λ (i : I). leb (f e) (g i)) is) ids es ≡ kept_by (λ (n : ℕ) (i : I). leb n (g i)) (highest_seqno (map f es)) ids
    below_go es ids = kept_fold (λ (n : ℕ) (i : I). leb n (g i)) max both f es ids
      where
        both : (k n : ℕ) (i : I) → leb k (g i) && leb n (g i) ≡ leb (max k n) (g i)
        both k n i =
            on (leb k (g i))
            (λ t. rw t (on (leb n (g i)) (λ u. rw u (sym (le-leb (max k n) (g i) (omega (arith, leb-true k (g i) t, leb-true n (g i) u))))) (λ u. rw u (sym (lt-leb (max k n) (g i) (omega (arith, leb-false n (g i) u)))))))
            (λ t. rw t (sym (lt-leb (max k n) (g i) (omega (arith, leb-false k (g i) t)))))

    -- ids dropped from each element on are those dropped from the lowest on
    pub from_go : (es : List E) (ids : List I) →
        fold (λ (is : List I) (e : E). filter (λ (i : I). ltb (g i) (f e)) is) ids es ≡ kept_by (λ (n : ℕ) (i : I). ltb (g i) n) (lowest_seqno (map f es)) ids
    from_go es ids = kept_fold (λ (n : ℕ) (i : I). ltb (g i) n) min both f es ids
      where
        both : (k n : ℕ) (i : I) → ltb (g i) k && ltb (g i) n ≡ ltb (g i) (min k n)
        both k n i =
            on (ltb (g i) k)
            (λ t. rw t (on (ltb (g i) n) (λ u. rw u (sym (lt-ltb (g i) (min k n) (omega (arith, ltb-true (g i) k t, ltb-true (g i) n u))))) (λ u. rw u (sym (le-ltb (g i) (min k n) (omega (arith, ltb-false (g i) n u)))))))
            (λ t. rw t (sym (le-ltb (g i) (min k n) (omega (arith, ltb-false (g i) k t)))))
