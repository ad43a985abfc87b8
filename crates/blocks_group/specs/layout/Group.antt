-- RULES.md, How it is held: a group in 16 places and a count, zeros after the count.
-- Assumes nothing.
use lib.Pointwise.{pointwise}
use Rattle.std.specs.Option.{option_eq}
use Rattle.std.specs.Prelude.{Bool, ◌&&◌, List, [], ℕ, eqb, Option, None, map}
use Rattle.block_records.specs.declared.block_id.BlockIdShort.{BlockIdShort}
use Rattle.block_records.specs.declared.block_id.ShardIdent.{ShardIdent}
use Rattle.block_records.specs.declared.entry.BlockCacheEntry.{BlockCacheEntry}
use Rattle.block_records.specs.declared.entry.MasterBlock.{MasterBlock}
use Rattle.blocks_group.specs.declared.group.Group.{Group}
use Rattle.blocks_group.specs.declared.mark.CheckedMark.{CheckedMark}
use Rattle.block_records.specs.layout.Listed.{listed, packed}
use Rattle.block_records.specs.rules.BlockId.{is_masterchain, same_key}
use Rattle.block_records.specs.rules.Limits.{entries_limit}
use Rattle.blocks_group.specs.layout.Block.{BlockParts, master_parts, pack_block, same_block, view_block, zero_block}
use Rattle.blocks_group.specs.rules.Group.{GroupModel, given_mark, refreshed_mark}
use Rattle.blocks_group.specs.rules.Soundness.{sound_group_model}

-- the blocks of a shard
abbrev pub ShardBlocks : Type 0
ShardBlocks = Group BlockCacheEntry

-- the master blocks
abbrev pub MasterGroup : Type 0
MasterGroup = Group MasterBlock

-- the mark's rule of a mark as it is held: what `given_mark` gives, and the mark that is left
abbrev pub check_mark : ℕ → Option ℕ → CheckedMark
check_mark n m = record { given = given_mark n m; mark = refreshed_mark n m }

-- both absent, or one number
abbrev pub same_mark : Option ℕ → Option ℕ → Bool
same_mark a b = option_eq eqb a b

-- both absent, or one key
abbrev pub same_boundary : Option BlockIdShort → Option BlockIdShort → Bool
same_boundary a b = option_eq same_key a b

module _ {B : Type 0} (k : BlockParts B) where
  -- the same with these blocks
  abbrev pub with_blocks : List B → Group B → Group B
  with_blocks bs g = record { mark = g.mark; boundary = g.boundary; entries = packed entries_limit (zero_block k) bs }

  -- the blocks first, zeros after them; a shard's leave top items out
  abbrev pub pack_group : GroupModel → Group B
  pack_group g = record { mark = g.mark; boundary = g.boundary; entries = packed entries_limit (zero_block k) (map (pack_block k) g.entries) }

  -- what a group stands for: its listed blocks
  abbrev pub view_group : Group B → GroupModel
  view_group g = record { entries = map (view_block k) (listed g.entries); mark = g.mark; boundary = g.boundary }

  -- a group with no block, mark or boundary
  unfoldable pub held_empty_group : Group B
  held_empty_group = record { mark = None; boundary = None; entries = packed entries_limit (zero_block k) [] }

  -- the same mark, boundary and count, and the same block in every place
  unfoldable pub same_group : Group B → Group B → Bool
  same_group a b =
      same_mark a.mark b.mark && (same_boundary a.boundary b.boundary
      && (eqb a.entries.count b.entries.count && pointwise (same_block k) a.entries.items b.entries.items))

  -- no mark, no boundary, no block, and zeros in every place
  abbrev pub is_empty_group : Group B → Bool
  is_empty_group g = same_group g held_empty_group

  -- tidy: a group is the packing of what it stands for
  abbrev pub group_tidy : Group B → Bool
  group_tidy g = same_group g (pack_group (view_group g))

  -- question 1 of a group as it is held
  abbrev pub sound_group : (ShardIdent → Bool) → Group B → Bool
  sound_group p g = group_tidy g && sound_group_model p (view_group g)

-- question 1 of the masters' group
abbrev pub sound_master_group : MasterGroup → Bool
sound_master_group g = sound_group master_parts is_masterchain g
