-- RULES.md, How it is held: the shard block that is cached under a shard and seqno, in the arrays, for every cache, sound or not. On a packed cache
-- it is the one that the rules look up, packed (proofs/arrays/LookupLaws).
-- Assumes nothing.
use Rattle.std.specs.List.{position}
use Rattle.std.specs.Option.{option_eq}
use Rattle.std.specs.Prelude.{ℕ, Bool, List, get_or, replicate, ◌==◌, slice_index_or, Option, None, Some, map}
use Rattle.block_records.specs.declared.block_id.BlockId.{BlockId}
use Rattle.block_records.specs.declared.block_id.ShardIdent.{ShardIdent}
use Rattle.block_records.specs.declared.entry.BlockCacheEntry.{BlockCacheEntry}
use Rattle.blocks_cache.specs.declared.cache.Cache.{Cache}
use Rattle.blocks_cache.specs.declared.cache.ShardGroup.{ShardGroup}
use Rattle.blocks_cache.specs.declared.lookup.BlockIndex.{BlockIndex}
use Rattle.blocks_cache.specs.declared.lookup.GroupSeqnos.{GroupSeqnos}
use Rattle.block_records.specs.layout.Listed.{listed}
use Rattle.block_records.specs.layout.Zeros.{zero_entry}
use Rattle.block_records.specs.rules.BlockId.{id_shard}
use Rattle.block_records.specs.rules.Limits.{entries_limit}
use Rattle.block_records.specs.rules.Lists.{padded}
use Rattle.blocks_cache.specs.arrays.Shards.{ident_at, shard_ident}
use Rattle.blocks_cache.specs.layout.Cache.{Shards, zero_shard_group}
use Rattle.blocks_group.specs.layout.Block.{block_seqno, shard_parts}
use Rattle.blocks_group.specs.layout.Group.{ShardBlocks}

-- ===== the seqnos of a group's entries =====

-- the seqno of an entry that is cached
abbrev pub seqno_here : BlockCacheEntry → Option ℕ
seqno_here b = Some (block_seqno shard_parts b)

-- of the listed entries; none in the places after them
abbrev pub group_seqnos : ShardBlocks → GroupSeqnos
group_seqnos g = record { entries = padded entries_limit None (map seqno_here (listed g.entries)); mark = g.mark }

-- of no group
unfoldable pub no_seqnos : GroupSeqnos
no_seqnos = record { entries = replicate entries_limit None; mark = None }

-- of a shard's group
abbrev pub shard_seqnos : ShardGroup → GroupSeqnos
shard_seqnos g = group_seqnos g.group

-- the shards of the groups and the seqnos of their blocks
abbrev pub index_of : Shards → BlockIndex
index_of s = record { idents = map shard_ident s.items; seqnos = map shard_seqnos s.items }

-- ===== by the shards and seqnos that were gathered =====

-- the seqno of an entry that is still cached
abbrev pub cached_at : ℕ → Option ℕ → Bool
cached_at n x = option_eq ◌==◌ x (Some n)

-- the first place of a shard among those of the groups
abbrev pub first_ident_place : ShardIdent → List ShardIdent → Option ℕ
first_ident_place s idents = position (ident_at s) idents

-- the first place of an entry of a seqno that is still cached
abbrev pub first_seqno_place : ℕ → GroupSeqnos → Option ℕ
first_seqno_place n g = position (cached_at n) g.entries

-- in the group at place k
abbrev pub place_in : ℕ → Option ℕ → Option (ℕ × ℕ)
place_in k (Some j) = Some (k, j)
place_in k None = None

-- by where the id's shard stands
abbrev pub place_of : BlockId → List GroupSeqnos → Option ℕ → Option (ℕ × ℕ)
place_of i seqnos (Some k) = place_in k (first_seqno_place i.seqno (slice_index_or seqnos k no_seqnos))
place_of i seqnos None = None

-- the place of the block under an id's key; the hashes are not looked at
unfoldable pub block_place : BlockId → List ShardIdent → List GroupSeqnos → Option (ℕ × ℕ)
block_place i idents seqnos = place_of i seqnos (first_ident_place (id_shard i) idents)

-- the block of a place
abbrev pub placed_block : Option (ℕ × ℕ) → List ShardGroup → Option BlockCacheEntry
placed_block (Some (k, j)) gs = Some (slice_index_or (get_or gs k zero_shard_group).group.entries.items j zero_entry)
placed_block None gs = None

-- among the groups of a cache
unfoldable pub cached_block : BlockId → Cache → Option BlockCacheEntry
cached_block i c = placed_block (block_place i (map shard_ident c.shards.items) (map shard_seqnos c.shards.items)) c.shards.items
