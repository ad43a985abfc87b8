-- RULES.md, Extraction: what it does to the arrays, for every input: the groups are looked up by their entries' seqnos, and moved together once at
-- the end. On a sound cache that is the rule, packed (proofs/arrays/ExtractionRun).
-- Assumes nothing.
use Rattle.std.specs.Prelude.{ℕ, List, [], ◌∷◌, Option, is_some, map, filter}
use Rattle.block_records.specs.declared.block_id.BlockId.{BlockId}
use Rattle.block_records.specs.declared.entry.MasterBlock.{MasterBlock}
use Rattle.block_records.specs.declared.top_block.TopBlock.{TopBlock}
use Rattle.block_records.specs.layout.Listed.{TopBlocks, packed}
use Rattle.blocks_group.specs.layout.Group.{ShardBlocks}
use Rattle.blocks_cache.specs.declared.cache.Cache.{Cache}
use Rattle.blocks_cache.specs.declared.cache.ShardGroup.{ShardGroup}
use Rattle.blocks_cache.specs.declared.extraction.Extraction.{Extraction}
use Rattle.blocks_cache.specs.declared.lookup.GroupSeqnos.{GroupSeqnos}
use Rattle.block_records.specs.arrays.Arrays.{flagged}
use Rattle.block_records.specs.layout.Entry.{pack_entry, view_entry}
use Rattle.block_records.specs.layout.Zeros.{zero_entry}
use Rattle.block_records.specs.rules.BlockId.{listed_tops}
use Rattle.block_records.specs.rules.Entry.{Entry}
use Rattle.block_records.specs.rules.Limits.{entries_limit, shards_limit, slice_places}
use Rattle.blocks_cache.specs.layout.Cache.{pack_shard, view, zero_shard_group}
use Rattle.cache_rules.specs.Extraction.{Walk, extraction_of, starts, top_id}

-- ===== the waiting list =====

-- M whole, as the rules have it
abbrev pub view_master : MasterBlock → Entry
view_master b = view_entry b.entry (listed_tops b.tops)

-- the listed top items from which extraction starts
abbrev pub held_starting_items : ℕ → TopBlocks → List TopBlock
held_starting_items zerostate t = filter (starts zerostate) (listed_tops t)

-- their ids
abbrev pub held_starting_ids : ℕ → TopBlocks → List BlockId
held_starting_ids zerostate t = map top_id (held_starting_items zerostate t)

-- ===== what is left, and what joined =====

-- the entries that are still cached
abbrev pub still_cached : {A : Type 0} → List (Option ℕ) → List A → List A
still_cached ks xs = flagged (map is_some ks) xs

-- a group with the entries that are left moved together, zeros after them, and the mark of the gathered seqnos
abbrev pub compact_group : ShardBlocks → GroupSeqnos → ShardBlocks
compact_group g s = record { mark = s.mark; boundary = g.boundary; entries = packed entries_limit zero_entry (still_cached s.entries g.entries.items) }

-- the same of a shard's group
abbrev pub compact_shard : ShardGroup → GroupSeqnos → ShardGroup
compact_shard g s = record { shard = g.shard; group = compact_group g.group s }

-- the same of each group with its seqnos
abbrev pub compact_shards : List ShardGroup → List GroupSeqnos → List ShardGroup
compact_shards [] ss = []
compact_shards (g ∷ gs) [] = []
compact_shards (g ∷ gs) (s ∷ ss) = compact_shard g s ∷ compact_shards gs ss

-- the walk from a master block of a cache
abbrev pub held_walk : MasterBlock → Cache → Walk
held_walk b c = extraction_of (view_master b) (view c)

-- what a walk leaves, packed: groups and joined blocks first, zeros after them, and the number of the ids taken
unfoldable pub pack_extraction : Walk → Extraction
pack_extraction w =
    record {
      shards = packed shards_limit zero_shard_group (map pack_shard w.shards);
      blocks = packed slice_places zero_entry (map pack_entry w.joined);
      taken = w.taken;
    }
