-- RULES.md, Boundary and collection and Removal of collated blocks: what the code does to a cache as it is held, for every cache, sound or not, and
-- what its answer says. On a packed cache this is the rule, packed (proofs/arrays/CollectionLaws).
-- Assumes nothing.
use Rattle.block_records.specs.layout.Listed.{listed}
use Rattle.blocks_group.specs.arrays.Group.{set_boundary}
use Rattle.blocks_group.specs.arrays.Queries.{collect_group, highest_below_boundary, lowest_collated_above, remove_collated_above}
use Rattle.blocks_group.specs.layout.Block.{master_parts, shard_parts}
use Rattle.std.specs.Prelude.{ℕ, List, ◌++◌, drop, map, slice_index_or, slice_set, Option, None, Some, cond, Err, Ok, Result, ⊤}
use Rattle.block_records.specs.declared.block_id.BlockIdShort.{BlockIdShort}
use Rattle.block_records.specs.declared.block_id.ShardIdent.{ShardIdent}
use Rattle.blocks_cache.specs.declared.cache.Cache.{Cache}
use Rattle.blocks_cache.specs.declared.cache.ShardGroup.{ShardGroup}
use Rattle.block_records.specs.declared.questions.Refusal.{Refusal}
use Rattle.blocks_cache.specs.declared.master_data.MasterData.{MasterData}
use Rattle.block_records.specs.rules.BlockId.{is_masterchain, key_shard}
use Rattle.blocks_cache.specs.layout.Parts.{with_master_data, with_master_group, with_shard_groups}
use Rattle.blocks_cache.specs.arrays.MasterData.{drop_ids_below, drop_ids_from}
use Rattle.blocks_cache.specs.arrays.Shards.{shard_place}
use Rattle.blocks_cache.specs.layout.Cache.{Shards, zero_shard_group}
use Rattle.blocks_group.specs.layout.Group.{ShardBlocks}
use Rattle.cache_rules.specs.Calls.{Answer, done, refused}

-- ===== what an answer says =====

-- done, or the refusal
abbrev pub change_says : Result ⊤ Refusal → Answer
change_says (Ok x) = done
change_says (Err r) = refused r

-- ===== a change of the group of one shard =====

-- the group at a place, of the shard that stands there
abbrev pub with_group_at : ℕ → ShardBlocks → List ShardGroup → List ShardGroup
with_group_at k g gs = slice_set gs k (record { shard = (slice_index_or gs k zero_shard_group).shard; group = g })

-- a change of the group at a place; none where the place is vacant
abbrev pub on_place : (ShardBlocks → ShardBlocks) → Result ℕ ℕ → List ShardGroup → List ShardGroup
on_place f (Ok k) gs = with_group_at k (f (slice_index_or gs k zero_shard_group).group) gs
on_place f (Err k) gs = gs

-- a change of the shard's group, if it has one
abbrev pub on_shard_group : ShardIdent → (ShardBlocks → ShardBlocks) → Cache → Cache
on_shard_group s f c = with_shard_groups (on_place f (shard_place s (listed c.shards)) c.shards.items) c

-- ===== set boundary =====

-- a key becomes the boundary of its shard's group, if there is such a group
unfoldable pub held_bound_one : Cache → BlockIdShort → Cache
held_bound_one c k =
    cond (is_masterchain (key_shard k)) (with_master_group (set_boundary k c.masters) c) (on_shard_group (key_shard k) (set_boundary k) c)

-- ===== collect =====

-- by the highest collected master: the ids below it are dropped
abbrev pub drop_collected : Option ℕ → MasterData → MasterData
drop_collected None d = d
drop_collected (Some n) d = drop_ids_below n d

-- a shard's group after its collection
abbrev pub collect_shard_group : ShardGroup → ShardGroup
collect_shard_group g = record { shard = g.shard; group = collect_group shard_parts g.group }

-- every listed group after its collection, the places after them as they were
abbrev pub collect_shards : Shards → Shards
collect_shards s = record { count = s.count; items = map collect_shard_group (listed s) ++ drop s.count s.items }

-- every listed group is collected, and ids are dropped by the masters collected; the range stays
unfoldable pub held_collect : Cache → Cache
held_collect c =
    record {
      zerostate_mc_seqno = c.zerostate_mc_seqno;
      masters = collect_group master_parts c.masters;
      «data» = drop_collected (highest_below_boundary master_parts c.masters) c.«data»;
      shards = collect_shards c.shards;
    }

-- ===== remove next collated =====

-- by the lowest removed master: the ids from its seqno on are dropped
abbrev pub drop_removed : Option ℕ → MasterData → MasterData
drop_removed None d = d
drop_removed (Some n) d = drop_ids_from n d

-- the masters above a seqno that are not Received are removed, and ids are dropped by them; the range stays
abbrev pub held_remove_masters : ℕ → Cache → Cache
held_remove_masters n c =
    with_master_data (drop_removed (lowest_collated_above master_parts n c.masters) c.«data») (with_master_group (remove_collated_above master_parts n c.masters) c)

-- of a key's group, if there is one, the entries above the key's seqno that are not Received are removed
unfoldable pub held_remove_one : Cache → BlockIdShort → Cache
held_remove_one c k =
    cond (is_masterchain (key_shard k)) (held_remove_masters k.seqno c) (on_shard_group (key_shard k) (remove_collated_above shard_parts k.seqno) c)
