-- How an entry is held: previous ids and top items in arrays with a count, zeros beyond it; a master's top items beside its entry.
-- Assumes nothing.
use Rattle.std.specs.Prelude.{Bool, List, []}
use Rattle.block_records.specs.declared.block_id.BlockId.{BlockId}
use Rattle.block_records.specs.declared.entry.BlockCacheEntry.{BlockCacheEntry}
use Rattle.block_records.specs.declared.entry.BlockCacheEntryData.{BlockCacheEntryData}
use Rattle.block_records.specs.declared.entry.MasterBlock.{MasterBlock}
use Rattle.block_records.specs.declared.top_block.TopBlock.{TopBlock}
use Rattle.block_records.specs.layout.Listed.{PrevIds, TopBlocks, packed}
use Rattle.block_records.specs.layout.Equality.{same_entry, same_prev_ids, same_tops}
use Rattle.block_records.specs.layout.Zeros.{zero_id, zero_top}
use Rattle.block_records.specs.rules.BlockId.{listed_prev_ids, listed_tops}
use Rattle.block_records.specs.rules.Entry.{Entry, kind_applied, kind_received}
use Rattle.block_records.specs.rules.Limits.{prev_ids_limit, tops_limit}

-- ===== pack: the list first, zeros after it =====

-- of previous ids
abbrev pub pack_prev_ids : List BlockId → PrevIds
pack_prev_ids xs = packed prev_ids_limit zero_id xs

-- of top items
abbrev pub pack_tops : List TopBlock → TopBlocks
pack_tops xs = packed tops_limit zero_top xs

-- what is listed, and zeros after it, whatever the caller left there
abbrev pub stored_prev_ids : PrevIds → PrevIds
stored_prev_ids p = pack_prev_ids (listed_prev_ids p)

-- the same of top items
abbrev pub stored_tops : TopBlocks → TopBlocks
stored_tops t = pack_tops (listed_tops t)

-- an entry as it is held, without its top items
abbrev pub pack_entry : Entry → BlockCacheEntry
pack_entry e =
    record {
      block_id = e.id;
      prev_ids = pack_prev_ids e.previous;
      top_anchor = e.anchor;
      ref_by_mc_seqno = e.reference;
      payload = e.payload;
      «data» = e.kind;
    }

-- its top items as they are held
abbrev pub entry_tops : Entry → TopBlocks
entry_tops e = pack_tops e.tops

-- both, as a master block
abbrev pub pack_master : Entry → MasterBlock
pack_master e = record { entry = pack_entry e; tops = entry_tops e }

-- ===== view: the first places of an array, as many as the count says =====

-- what an entry stands for, with these top items
abbrev pub view_entry : BlockCacheEntry → List TopBlock → Entry
view_entry b ts =
    record {
      id = b.block_id;
      previous = listed_prev_ids b.prev_ids;
      tops = ts;
      anchor = b.top_anchor;
      reference = b.ref_by_mc_seqno;
      payload = b.payload;
      kind = b.«data»;
    }

-- the same with no top items, as of a shard block
abbrev pub view_shard_entry : BlockCacheEntry → Entry
view_shard_entry b = view_entry b []

-- ===== an entry with another kind =====

-- all but the kind stays
abbrev pub with_data : BlockCacheEntryData → BlockCacheEntry → BlockCacheEntry
with_data k b =
    record {
      block_id = b.block_id;
      prev_ids = b.prev_ids;
      top_anchor = b.top_anchor;
      ref_by_mc_seqno = b.ref_by_mc_seqno;
      payload = b.payload;
      «data» = k;
    }

-- ===== what is asked of an entry's kind =====

-- it is Received
abbrev pub held_received : BlockCacheEntry → Bool
held_received b = kind_received b.«data»

-- it is applied
abbrev pub held_applied : BlockCacheEntry → Bool
held_applied b = kind_applied b.«data»

-- ===== tidy: a record is the packing of what it stands for =====

-- of previous ids
abbrev pub prev_ids_tidy : PrevIds → Bool
prev_ids_tidy p = same_prev_ids p (pack_prev_ids (listed_prev_ids p))

-- of top items
abbrev pub tops_tidy : TopBlocks → Bool
tops_tidy t = same_tops t (pack_tops (listed_tops t))

-- of an entry: its previous ids are tidy
abbrev pub entry_tidy : BlockCacheEntry → Bool
entry_tidy b = same_entry b (pack_entry (view_shard_entry b))
