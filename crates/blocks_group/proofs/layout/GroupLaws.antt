-- Packing a group and viewing it again gives the group; the tests of equality decide it.
-- Assumes nothing.
use Rattle.std.specs.Prelude.{map, eqb}
use mathlib.Core.List.{List, [], ◌∷◌, map-map}
use mathlib.Core.Path.{◌∙◌, ◌≡◌, ap, ap₂, refl}
use Rattle.blocks_group.specs.declared.group.Group.{Group}
use Rattle.block_records.proofs.layout.EqualityLaws.{both_same, key_same, list_same, nat_same, option_same, pair_same}
use Rattle.block_records.specs.layout.Listed.{listed}
use Rattle.block_records.specs.rules.BlockId.{same_key}
use Rattle.block_records.specs.rules.Entry.{Entry}
use Rattle.block_records.specs.rules.Order.{IsSame}
use Rattle.blocks_group.proofs.layout.BlockLaws.{Kept, block_same, kept_master, kept_shard}
use Rattle.blocks_group.proofs.rules.GroupLaws.{NoTops}
use Rattle.blocks_group.specs.layout.Block.{BlockLaws, BlockParts, master_parts, pack_block, shard_parts, view_block, zero_block}
use Rattle.blocks_group.specs.layout.Group.{pack_group, same_boundary, same_group, same_mark, view_group}
use Rattle.blocks_group.specs.rules.Group.{GroupModel}
use Rattle.block_records.proofs.layout.EntryLaws.{take_padded}

pub mark_same : IsSame same_mark
mark_same = option_same eqb nat_same

pub boundary_same : IsSame same_boundary
boundary_same = option_same same_key key_same

-- every entry of a list is kept
abbrev pub AllKept : {B : Type 0} → BlockParts B → List Entry → Type 0
AllKept k [] = Unit {0}
AllKept k (e ∷ es) = Kept k e × AllKept k es

pub all_kept_masters : (es : List Entry) → AllKept master_parts es
all_kept_masters [] = tt
all_kept_masters (e ∷ es) = (kept_master e, all_kept_masters es)

pub all_kept_shards : (es : List Entry) → NoTops es → AllKept shard_parts es
all_kept_shards [] h = tt
all_kept_shards (e ∷ es) h = (kept_shard e h.0, all_kept_shards es h.1)

module _ {B : Type 0} (k : BlockParts B) where
  -- what is listed in a packed group
  pub listed_packed : (m : GroupModel) → listed (pack_group k m).entries ≡ map (pack_block k) m.entries
  listed_packed m = take_padded 16 (zero_block k) (map (pack_block k) m.entries)

  viewed : (es : List Entry) → AllKept k es → map (λ (e : Entry). view_block k (pack_block k e)) es ≡ es
  viewed [] h = refl
  viewed (e ∷ es) h = ap₂ ◌∷◌ h.0 (viewed es h.1)

  pub view_pack_group : (g : GroupModel) → AllKept k g.entries → view_group k (pack_group k g) ≡ g
  view_pack_group g h =
      let e : map (view_block k) (listed (pack_group k g).entries) ≡ g.entries =
      ap (map (view_block k)) (listed_packed g) ∙ map-map (view_block k) (pack_block k) g.entries ∙ viewed g.entries h in
      λ i. record { entries = e i; mark = g.mark; boundary = g.boundary }

  pub group_same : BlockLaws k → IsSame (same_group k)
  unfolding same_group
  group_same h =
      both_same (λ (g : Group B). g.mark) (λ (g : Group B). (g.boundary, (g.entries.count, g.entries.items)))
      (λ a b p q. λ i. record { mark = p i; boundary = (q i).0; entries = record { count = (q i).1.0; items = (q i).1.1 } })
      mark_same (pair_same boundary_same (pair_same nat_same (list_same (block_same k h))))
