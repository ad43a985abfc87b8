-- What the code does to the places of shard groups, for every input, sound or not. It goes by what is listed. On packed groups this is the rule of
-- the model, packed (proofs/arrays/ShardsLaws).
-- Assumes nothing.
use Rattle.blocks_group.specs.arrays.Group.{found_at}
use Rattle.std.specs.Prelude.{Bool, List, ℕ, Option, Result}
use Rattle.block_records.specs.declared.block_id.ShardIdent.{ShardIdent}
use Rattle.blocks_cache.specs.declared.cache.ShardGroup.{ShardGroup}
use Rattle.block_records.specs.arrays.Place.{place}
use Rattle.block_records.specs.layout.Listed.{listed, put_listed}
use Rattle.block_records.specs.rules.BlockId.{less_shard, same_shard}
use Rattle.block_records.specs.rules.Limits.{shards_limit}
use Rattle.blocks_cache.specs.layout.Cache.{Shards, shard_group_before, zero_shard_group}

-- the shard of a group
abbrev pub shard_ident : ShardGroup → ShardIdent
shard_ident g = g.shard

-- a lower shard
abbrev pub ident_below : ShardIdent → ShardIdent → Bool
ident_below s x = less_shard x s

-- the shard itself
abbrev pub ident_at : ShardIdent → ShardIdent → Bool
ident_at s x = same_shard x s

-- a group of a lower shard
abbrev pub shard_below : ShardIdent → ShardGroup → Bool
shard_below s g = ident_below s (shard_ident g)

-- the group of the shard
abbrev pub shard_at : ShardIdent → ShardGroup → Bool
shard_at s g = ident_at s (shard_ident g)

-- where a shard's group stands among those listed, or the place where it would go in
abbrev pub shard_place : ShardIdent → List ShardGroup → Result ℕ ℕ
shard_place s gs = place (shard_below s) (shard_at s) gs

-- the group of the shard, if it has one
abbrev pub listed_shard : ShardIdent → Shards → Option ShardGroup
listed_shard s gs = found_at zero_shard_group (listed gs) (shard_place s (listed gs))

-- the group put in by shard; one of the same shard is replaced; nothing changes where they would be more than 8
abbrev pub put_shard : ShardGroup → Shards → Shards
put_shard g gs = put_listed shards_limit zero_shard_group shard_group_before g gs
