-- A group is tidy exactly if its count is within its places, its blocks are tidy, and zeros stand in unused places.
-- Assumes nothing.
use Rattle.std.specs.List.{list_all}
use Rattle.std.specs.Prelude.{map}
use mathlib.Core.Bool.{Bool, ◌&&◌}
use mathlib.Core.List.{List, map-map}
use mathlib.Core.Path.{◌∙◌, ◌≡◌, ap, ap₂}
use lib.Dec.{eqb, leb}
use lib.ListN.{drop, length}
use lib.Pointwise.{pointwise}
use Rattle.blocks_group.specs.declared.group.Group.{Group}
use Rattle.block_records.proofs.layout.TidyLaws.{count_take, every_same, same_padded}
use Rattle.block_records.specs.layout.Entry.{entry_tidy, tops_tidy}
use Rattle.block_records.specs.layout.Listed.{listed}
use Rattle.block_records.specs.rules.Lists.{padded}
use Rattle.blocks_group.proofs.layout.BlockLaws.{tidy_same, zero_same}
use Rattle.blocks_group.proofs.layout.GroupLaws.{boundary_same, mark_same}
use Rattle.blocks_group.specs.layout.Block.{BlockLaws, BlockParts, is_zero_block, pack_block, same_block, view_block, zero_block}
use Rattle.blocks_group.specs.layout.Group.{group_tidy, same_group}
use Rattle.std.proofs.lemmas.List.{length-map}

-- a block is the packing of what it stands for
abbrev pub block_tidy : {B : Type 0} → BlockParts B → B → Bool
block_tidy k b = entry_tidy (k.entry b) && tops_tidy (k.tops b)

module _ {B : Type 0} (k : BlockParts B) (h : BlockLaws k) where
  abbrev anew : B → B
  anew b = pack_block k (view_block k b)

  pub group_tidy_is : (g : Group B) → length g.entries.items ≡ 16 →
      group_tidy k g ≡ leb g.entries.count 16 && (list_all (block_tidy k) (listed g.entries) && list_all (is_zero_block k) (drop g.entries.count g.entries.items))
  unfolding same_group
  group_tidy_is g z =
      let n = g.entries.count in
      let xs = g.entries.items in
      let l = listed g.entries in
      let es = map (view_block k) l in
      let a : eqb n (length (map (pack_block k) es)) ≡ leb n 16 =
      ap (eqb n) (length-map es (pack_block k) ∙ length-map l (view_block k)) ∙ count_take n xs ∙ ap (leb n) z in
      let p = ap (λ (r : List B). pointwise (same_block k) xs (padded 16 (zero_block k) r)) (map-map (pack_block k) (view_block k) l) ∙ same_padded (same_block k) anew (zero_block k) 16 n xs z in
      let t = every_same (λ (b : B). same_block k b (anew b)) (block_tidy k) l (λ b u. tidy_same k h b) in
      let q = every_same (λ (b : B). same_block k b (zero_block k)) (is_zero_block k) (drop n xs) (λ b u. zero_same k h b) in
      rw (mark_same.same_refl g.mark, boundary_same.same_refl g.boundary) (ap₂ ◌&&◌ a (p ∙ ap₂ ◌&&◌ t q))
