-- A cache as it is held, with one of its parts replaced; and what a change of it answers and leaves.
-- Assumes nothing.
use Rattle.blocks_group.specs.layout.Group.{MasterGroup}
use Rattle.std.specs.Prelude.{List}
use Rattle.blocks_cache.specs.declared.cache.Cache.{Cache}
use Rattle.blocks_cache.specs.declared.cache.ShardGroup.{ShardGroup}
use Rattle.blocks_cache.specs.declared.master_data.MasterData.{MasterData}

-- this master group
abbrev pub with_master_group : MasterGroup → Cache → Cache
with_master_group g c =
    record { zerostate_mc_seqno = c.zerostate_mc_seqno; masters = g; «data» = c.«data»; shards = c.shards }

-- this master data
abbrev pub with_master_data : MasterData → Cache → Cache
with_master_data d c =
    record { zerostate_mc_seqno = c.zerostate_mc_seqno; masters = c.masters; «data» = d; shards = c.shards }

-- these places of shard groups, as many listed as before
abbrev pub with_shard_groups : List ShardGroup → Cache → Cache
with_shard_groups gs c =
    record { zerostate_mc_seqno = c.zerostate_mc_seqno; masters = c.masters; «data» = c.«data»; shards = record { count = c.shards.count; items = gs } }

-- what a change of a cache answers, and the cache that it leaves
pub record CacheStep (A : Type 0) : Type 0 where
  pub answer : A
  pub cache : Cache
