-- RULES.md, Case table: the ids and calls that the table and the edges speak of.
-- Assumes nothing.
use Rattle.std.specs.Prelude.{true, List, [], ℕ, negsuc, pos, ℤ, replicate, None}
use Rattle.block_records.specs.declared.block_id.BlockId.{BlockId}
use Rattle.block_records.specs.declared.block_id.BlockIdShort.{BlockIdShort}
use Rattle.block_records.specs.declared.entry.BlockCacheEntry.{BlockCacheEntry}
use Rattle.block_records.specs.declared.store_records.BlockCandidate.{BlockCandidate}
use Rattle.block_records.specs.layout.Listed.{Keys, packed}
use Rattle.block_records.specs.layout.Listed.{PrevIds}
use Rattle.block_records.specs.declared.top_block.TopBlock.{TopBlock}
use Rattle.block_records.specs.layout.Listed.{TopBlocks}
use Rattle.block_records.specs.layout.Entry.{pack_prev_ids, pack_tops}
use Rattle.block_records.specs.layout.Zeros.{zero_key, zero_entry}
use Rattle.cache_rules.specs.Calls.{Call, Request, pop, store_collated, store_received, sync}

-- ===== ids and calls of the table =====

-- 32 bytes n
unfoldable pub hash : ℕ → List ℕ
hash n = replicate 32 n

-- a block id of workchain w, prefix p, seqno n; its root hash is bytes h, its file hash bytes 1
unfoldable pub block : ℤ → ℕ → ℕ → ℕ → BlockId
block w p n h = record { shard = record { workchain = w; prefix = p }; seqno = n; root_hash = hash h; file_hash = hash 1 }

-- the master of seqno n
unfoldable pub mc : ℕ → BlockId
mc n = block (negsuc 0) 0x8000_0000_0000_0000 n 1

-- the same with another root hash
unfoldable pub mc' : ℕ → BlockId
mc' n = block (negsuc 0) 0x8000_0000_0000_0000 n 2

-- the block of seqno n in workchain 0, whose prefix is the top bit alone
unfoldable pub sc : ℕ → BlockId
sc n = block (pos 0) 0x8000_0000_0000_0000 n 1

-- a candidate with no top anchor, processed-to anchor 0 and payload 0
unfoldable pub candidate : BlockId → ℕ → PrevIds → TopBlocks → BlockCandidate
candidate i reference previous tops =
    record {
      block_id = i;
      ref_by_mc_seqno = reference;
      prev_ids = previous;
      top_blocks = tops;
      top_anchor = None;
      processed_to_anchor = 0;
      payload = 0;
    }

-- a request with nothing lent
unfoldable pub ask_call : Request → Call
ask_call r = record { request = r; lent = [] }

-- collate a block with this reference, these previous ids and top items
unfoldable pub cand : BlockId → ℕ → List BlockId → List TopBlock → Call
cand i reference previous tops = ask_call (store_collated (candidate i reference (pack_prev_ids previous) (pack_tops tops)))

-- collate a block of reference 5 with no previous id and no top item
unfoldable pub coll : BlockId → Call
coll i = cand i 5 [] []

-- receive a block that is its own reference, with these top items
unfoldable pub recv : BlockId → List TopBlock → Call
recv i tops =
    ask_call
    (store_received
    (record { block_id = i; ref_block_id = i; prev_ids = pack_prev_ids []; top_blocks = pack_tops tops; top_anchor = None; payload = 0 }))

-- an updated top item
unfoldable pub top : ℕ → BlockId → TopBlock
top reference i = record { ref_by_mc_seqno = reference; block_id = i; updated = true }

-- 128 places of zeros
unfoldable pub slice : List BlockCacheEntry
slice = replicate 128 zero_entry

-- pop from f, with those places lent
unfoldable pub pop_call : ℕ → Call
pop_call f = record { request = pop f; lent = slice }

-- sync extraction, with those places lent
unfoldable pub sync_call : BlockId → Call
sync_call i = record { request = sync i; lent = slice }

-- a list of keys, zeros in the places that are left
unfoldable pub keys : List BlockIdShort → Keys
keys ks = packed 9 zero_key ks
