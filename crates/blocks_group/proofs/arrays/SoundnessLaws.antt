-- Question 1 of a group, as it is defined and as the code asks it part by part, is the same; a sound group is the packing of its view.
-- Assumes nothing.
use Rattle.std.proofs.Math.Bool.{and-false, and_comm}
use Rattle.std.proofs.lemmas.List.Folds.{list_all-map}
use Rattle.std.specs.List.{list_all}
use Rattle.std.specs.Option.{option_eq}
use Rattle.std.specs.Prelude.{map, is_some, Option, None, Some}
use mathlib.Core.Bool.{Bool, ◌&&◌, false, not, true}
use mathlib.Core.List.{List, [], ◌∷◌}
use mathlib.Core.Path.{◌∙◌, ◌≡◌, ap, ap₂, refl, sym}
use Prim.Native.Nat.{ℕ}
use native.Mathlib.Omega.{arith}
use borrow.Author.Tests.{eqb-true, le-leb}
use lib.Dec.{eqb, leb}
use lib.ListN.{drop, length}
use Rattle.block_records.specs.declared.block_id.ShardIdent.{ShardIdent}
use Rattle.blocks_group.specs.declared.group.Group.{Group}
use Rattle.block_records.proofs.arrays.ArrayLaws.{length_take_few}
use Rattle.block_records.proofs.layout.QuestionLaws.{held_fits_is}
use Rattle.block_records.proofs.layout.TidyLaws.{every_same, same_replicate}
use Rattle.block_records.proofs.rules.ListLaws.{rising_image}
use Rattle.block_records.proofs.rules.Tests.{absurd_eq, on}
use Rattle.block_records.specs.layout.Entry.{entry_tidy, tops_tidy}
use Rattle.block_records.specs.layout.Listed.{listed, tidy_listed}
use Rattle.block_records.specs.rules.Lists.{padded, rising}
use Rattle.block_records.specs.rules.Questions.{entry_fits}
use Rattle.blocks_group.proofs.layout.BlockLaws.{zero_same}
use Rattle.blocks_group.proofs.layout.GroupLaws.{group_same}
use Rattle.blocks_group.proofs.layout.TidyLaws.{block_tidy, group_tidy_is}
use Rattle.blocks_group.specs.arrays.Soundness.{sound_block, sound_group_by_parts}
use Rattle.blocks_group.specs.layout.Block.{BlockLaws, BlockParts, block_shard, is_zero_block, same_block, view_block, zero_block}
use Rattle.blocks_group.specs.layout.Group.{held_empty_group, group_tidy, is_empty_group, pack_group, same_boundary, same_group, same_mark, sound_group, view_group}
use Rattle.blocks_group.specs.rules.Group.{entry_before}
use Rattle.blocks_group.specs.rules.Soundness.{boundary_in, fits_in, sound_group_model}
use Rattle.std.proofs.lemmas.List.{length-map}
use Rattle.std.specs.Cmp.{first_so}

-- the order in which the definition and the code ask: count, tidy blocks, zeros | order, fit, boundary
in_parts : (c t z r f b : Bool) → (c && (t && z)) && (true && (r && (f && b))) ≡ (c && z) && ((t && f) && (r && b))
in_parts false t z r f b = refl
in_parts true false z r f b = sym (and-false z)
in_parts true true true r f b = and_swap r f b
  where
    and_swap : (r f b : Bool) → r && (f && b) ≡ f && (r && b)
    and_swap true f b = refl
    and_swap false f b = sym (and-false f)
in_parts true true false r f b = refl

module _ {A : Type 0} where
  every_both : (p q : A → Bool) (xs : List A) → list_all p xs && list_all q xs ≡ list_all (λ (x : A). p x && q x) xs
  every_both p q [] = refl
  every_both p q (x ∷ xs) = swap (p x) (list_all p xs) (q x) (list_all q xs) ∙ ap (λ (b : Bool). (p x && q x) && b) (every_both p q xs)
    where
      swap : (a b c d : Bool) → (a && b) && (c && d) ≡ (a && c) && (b && d)
      swap false b c d = refl
      swap true b true d = refl
      swap true true false d = refl
      swap true false false d = refl

-- what `is_none` answers is the test of equality with nothing
pub is_none_same : {A : Type 0} (same : A → A → Bool) (o : Option A) (r : Bool) → is_some o ≡ not r → r ≡ option_eq same o None
is_none_same same None true h = refl
is_none_same same None false h = absurd_eq h
is_none_same same (Some a) true h = absurd_eq (sym h)
is_none_same same (Some a) false h = refl

module _ {B : Type 0} (k : BlockParts B) (h : BlockLaws k) where
  -- of a tidy block the code asks what is asked of the entry that it stands for
  pub block_asked : (p : ShardIdent → Bool) (b : B) → block_tidy k b && fits_in p (view_block k b) ≡ sound_block k p b
  block_asked p b =
      on (entry_tidy (k.entry b))
      (λ t. on (tops_tidy (k.tops b))
      (λ u. rw (t, u) (and_comm (p (block_shard k b)) (entry_fits (view_block k b)) ∙ ap (λ (f : Bool). f && p (block_shard k b)) (sym (held_fits_is (k.entry b) (k.tops b) t u))))
      (λ u. rw (t, u)))
      (λ t. rw t)

  pub sound_group_parts : (p : ShardIdent → Bool) (g : Group B) → length g.entries.items ≡ 16 → sound_group k p g ≡ sound_group_by_parts k p g
  sound_group_parts p g long =
      let n = g.entries.count in
      let l = listed g.entries in
      let es = map (view_block k) l in
      let z = list_all (is_zero_block k) (drop n g.entries.items) in
      let few : leb (length es) 16 ≡ true = le-leb (length es) 16 (omega (arith, length-map l (view_block k), length_take_few n g.entries.items)) in
      let e : list_all (block_tidy k) l && list_all (fits_in p) es ≡ list_all (sound_block k p) l =
      ap (λ (b : Bool). list_all (block_tidy k) l && b) (list_all-map (fits_in p) (view_block k) l)
      ∙ every_both (block_tidy k) (λ (b : B). fits_in p (view_block k b)) l
      ∙ every_same (λ (b : B). block_tidy k b && fits_in p (view_block k b)) (sound_block k p) l (λ b u. block_asked p b) in
      ap (λ (t : Bool). t && sound_group_model p (view_group k g)) (group_tidy_is k h g long)
      ∙ ap (λ (m : Bool). (leb n 16 && (list_all (block_tidy k) l && z)) && (m && (rising entry_before es && (list_all (fits_in p) es && boundary_in p g.boundary)))) few
      ∙ in_parts (leb n 16) (list_all (block_tidy k) l) z (rising entry_before es) (list_all (fits_in p) es) (boundary_in p g.boundary)
      ∙ ap₂ (λ (a r : Bool). (leb n 16 && z) && (a && (r && boundary_in p g.boundary))) e (rising_image (view_block k) entry_before l)

  -- ===== a sound group is the packing of its view =====

  pub sound_group_packed : (p : ShardIdent → Bool) (g : Group B) → sound_group k p g ≡ true → g ≡ pack_group k (view_group k g)
  sound_group_packed p g s = (group_same k h).same_eq g (pack_group k (view_group k g)) (first_so (group_tidy k g) (sound_group_model p (view_group k g)) s)

  -- ===== an empty group =====

  -- of no block the zeros are asked of every place
  none_listed : (c : ℕ) (bs : List B) → eqb c 0 && list_all (is_zero_block k) bs ≡ eqb c 0 && (leb c 16 && list_all (is_zero_block k) (drop c bs))
  none_listed c bs = on (eqb c 0) (λ t. rw (eqb-true c 0 t)) (λ t. rw t)

  pub is_empty_parts : (g : Group B) → length g.entries.items ≡ 16 →
      is_empty_group k g ≡ same_mark g.mark None && (same_boundary g.boundary None && (eqb g.entries.count 0 && tidy_listed 16 (is_zero_block k) g.entries))
  unfolding same_group held_empty_group padded
  is_empty_parts g l =
      ap (λ (z : Bool). same_mark g.mark None && (same_boundary g.boundary None && z))
      (ap (λ (z : Bool). eqb g.entries.count 0 && z) (same_replicate (same_block k) (zero_block k) 16 g.entries.items l
      ∙ every_same (λ (b : B). same_block k b (zero_block k)) (is_zero_block k) g.entries.items (λ b u. zero_same k h b))
      ∙ none_listed g.entries.count g.entries.items)
