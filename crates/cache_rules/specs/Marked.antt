-- Received entries and marks: what keeps a received store from question 7 on every cache that calls make.
-- Assumes nothing.
use Rattle.std.specs.List.{list_all}
use Rattle.std.specs.Prelude.{Bool, ◌&&◌, ◌||◌, not, ℕ, Option}
use Rattle.block_records.specs.rules.Entry.{Entry, is_received}
use Rattle.blocks_group.specs.rules.Group.{GroupModel}
use Rattle.cache_rules.specs.Model.{Model, ShardModel}
use Rattle.cache_rules.specs.Refusals.{mark_reaches}

-- an entry that is Received lies at or below the mark
abbrev pub entry_marked : Option ℕ → Entry → Bool
entry_marked mark e = not (is_received e) || mark_reaches e.id.seqno mark

-- every Received entry of a group lies at or below the group's mark
abbrev pub group_marked : GroupModel → Bool
group_marked g = list_all (entry_marked g.mark) g.entries

-- the same of a shard's group
abbrev pub shard_marked : ShardModel → Bool
shard_marked g = group_marked g.group

-- so in the master group and in every shard group
abbrev pub received_marked : Model → Bool
received_marked m = group_marked m.masters && list_all shard_marked m.shards
