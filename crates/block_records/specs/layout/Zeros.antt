-- Zeros, as they stand in unused places: numbers 0, flags false, the first of each list of cases (kind Collated, status Collated), what is
-- optional absent; and the tests for them.
-- Assumes nothing.
use Rattle.std.specs.Prelude.{Bool, false, List, ℕ, pos, replicate, None, Option, []}
use Rattle.block_records.specs.declared.block_id.BlockId.{BlockId}
use Rattle.block_records.specs.declared.block_id.BlockIdShort.{BlockIdShort}
use Rattle.block_records.specs.declared.block_id.ShardIdent.{ShardIdent}
use Rattle.block_records.specs.declared.entry.BlockCacheEntry.{BlockCacheEntry}
use Rattle.block_records.specs.declared.entry.BlockCacheEntryData.{BlockCacheEntryData}
use Rattle.block_records.specs.declared.entry.BlockCacheEntryData.TheVariants.{Collated as collated}
use Rattle.block_records.specs.declared.entry.CandidateStatus.TheVariants.{Collated}
use Rattle.block_records.specs.declared.entry.MasterBlock.{MasterBlock}
use Rattle.block_records.specs.declared.top_block.TopBlock.{TopBlock}
use Rattle.block_records.specs.layout.Listed.{Keys, PrevIds, TopBlocks, packed}
use Rattle.block_records.specs.layout.Equality.{same_anchor, same_entry, same_kind, same_prev_ids, same_top, same_tops}
use Rattle.block_records.specs.rules.BlockId.{same_hash, same_id, same_shard}
use Rattle.block_records.specs.rules.Limits.{keys_limit, prev_ids_limit, tops_limit}

-- workchain 0, prefix 0
unfoldable pub zero_shard : ShardIdent
zero_shard = record { workchain = pos 0; prefix = 0 }

-- the zero shard, seqno 0
unfoldable pub zero_key : BlockIdShort
zero_key = record { shard = zero_shard; seqno = 0 }

-- 32 bytes 0
unfoldable pub zero_hash : List ℕ
zero_hash = replicate 32 0

-- the zero shard, seqno 0, zero hashes
unfoldable pub zero_id : BlockId
zero_id = record { shard = zero_shard; seqno = 0; root_hash = zero_hash; file_hash = zero_hash }

-- no previous id, zeros in both places
unfoldable pub zero_prev_ids : PrevIds
zero_prev_ids = packed prev_ids_limit zero_id []

-- no key, zeros in all 9 places
unfoldable pub zero_keys : Keys
zero_keys = packed keys_limit zero_key []

-- reference 0, the zero id, not updated
unfoldable pub zero_top : TopBlock
zero_top = record { ref_by_mc_seqno = 0; block_id = zero_id; updated = false }

-- no top item, zeros in all 8 places
unfoldable pub zero_tops : TopBlocks
zero_tops = packed tops_limit zero_top []

-- Collated, status Collated, all else false or 0
abbrev pub zero_kind : BlockCacheEntryData
zero_kind = collated Collated false 0 0 0

-- the zero id, no previous ids, no top anchor, reference and payload 0, the zero kind
unfoldable pub zero_entry : BlockCacheEntry
zero_entry =
    record {
      block_id = zero_id;
      prev_ids = zero_prev_ids;
      top_anchor = None;
      ref_by_mc_seqno = 0;
      payload = 0;
      «data» = zero_kind;
    }

-- the zero entry, no top items
unfoldable pub zero_master : MasterBlock
zero_master = record { entry = zero_entry; tops = zero_tops }

-- ===== the tests: a record is the zero of its type =====

-- of a shard
abbrev pub is_zero_shard : ShardIdent → Bool
is_zero_shard s = same_shard s zero_shard

-- of a hash
abbrev pub is_zero_hash : List ℕ → Bool
is_zero_hash h = same_hash h zero_hash

-- of an id
abbrev pub is_zero_id : BlockId → Bool
is_zero_id i = same_id i zero_id

-- of previous ids
abbrev pub is_zero_prev_ids : PrevIds → Bool
is_zero_prev_ids p = same_prev_ids p zero_prev_ids

-- of a top item
abbrev pub is_zero_top : TopBlock → Bool
is_zero_top t = same_top t zero_top

-- of top items
abbrev pub is_zero_tops : TopBlocks → Bool
is_zero_tops t = same_tops t zero_tops

-- of an anchor: it is absent
abbrev pub is_zero_anchor : (Option ℕ) → Bool
is_zero_anchor a = same_anchor a None

-- of a kind
abbrev pub is_zero_kind : BlockCacheEntryData → Bool
is_zero_kind k = same_kind k zero_kind

-- of an entry
abbrev pub is_zero_entry : BlockCacheEntry → Bool
is_zero_entry e = same_entry e zero_entry
