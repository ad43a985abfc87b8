-- RULES.md, Soundness: of one group.
-- Assumes nothing.
use Rattle.std.specs.List.{list_all}
use Rattle.std.specs.Prelude.{Bool, ◌&&◌, true, leb, length, Option, None, Some}
use Rattle.block_records.specs.declared.block_id.BlockIdShort.{BlockIdShort}
use Rattle.block_records.specs.declared.block_id.ShardIdent.{ShardIdent}
use Rattle.block_records.specs.rules.BlockId.{id_shard, key_shard, same_shard}
use Rattle.block_records.specs.rules.Entry.{Entry}
use Rattle.block_records.specs.rules.Limits.{entries_limit}
use Rattle.block_records.specs.rules.Lists.{rising}
use Rattle.block_records.specs.rules.Questions.{entry_fits}
use Rattle.blocks_group.specs.rules.Group.{GroupModel, entry_before}

-- no boundary, or one of a shard that the group is for
abbrev pub boundary_in : (ShardIdent → Bool) → Option BlockIdShort → Bool
boundary_in p None = true
boundary_in p (Some k) = p (key_shard k)

-- the entry is of a shard that the group is for, and passes questions 2 to 4
abbrev pub fits_in : (ShardIdent → Bool) → Entry → Bool
fits_in p e = p (id_shard e.id) && entry_fits e

-- No more entries than the limit, rising by seqno, each of a shard that the group is for and fitting; the boundary of such a shard too.
abbrev pub sound_group_model : (ShardIdent → Bool) → GroupModel → Bool
sound_group_model p g =
    leb (length g.entries) entries_limit && (rising entry_before g.entries && (list_all (fits_in p) g.entries && boundary_in p g.boundary))

-- what a shard's group is for: that shard alone
abbrev pub of_shard : ShardIdent → ShardIdent → Bool
of_shard s t = same_shard t s
