-- RULES.md, Soundness: of one group, part by part, as the code asks it of the places; proofs/arrays/SoundnessLaws says that it is the same.
-- Assumes nothing.
use Rattle.std.specs.List.{list_all}
use Rattle.std.specs.Prelude.{Bool, ◌&&◌}
use Rattle.block_records.specs.declared.block_id.ShardIdent.{ShardIdent}
use Rattle.blocks_group.specs.declared.group.Group.{Group}
use Rattle.block_records.specs.layout.Listed.{listed, tidy_listed}
use Rattle.block_records.specs.rules.Limits.{entries_limit}
use Rattle.block_records.specs.rules.Lists.{rising}
use Rattle.blocks_group.specs.layout.Block.{BlockParts, block_before, block_fits, block_shard, is_zero_block}
use Rattle.blocks_group.specs.rules.Soundness.{boundary_in}

module _ {B : Type 0} (k : BlockParts B) where
  -- a listed block: tidy, passing questions 2 to 4, of a shard that the group is for
  abbrev pub sound_block : (ShardIdent → Bool) → B → Bool
  sound_block p b = block_fits k b && p (block_shard k b)

  -- The count within the places, and zeros from it on; each listed block sound; seqnos rise; the boundary of the group.
  abbrev pub sound_group_by_parts : (ShardIdent → Bool) → Group B → Bool
  sound_group_by_parts p g =
      tidy_listed entries_limit (is_zero_block k) g.entries && (list_all (sound_block p) (listed g.entries)
      && (rising (block_before k) (listed g.entries) && boundary_in p g.boundary))
