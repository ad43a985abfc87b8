-- RULES.md, Store records and Entries: the entry whole, with its previous ids and top items as lists, for master and shard blocks alike.
-- Assumes nothing.
use Rattle.std.specs.Prelude.{Bool, false, true, List, [], ℕ, eqb, cond, None, Option}
use Rattle.block_records.specs.declared.block_id.BlockId.{BlockId}
use Rattle.block_records.specs.declared.entry.BlockCacheEntryData.{BlockCacheEntryData}
use Rattle.block_records.specs.declared.entry.BlockCacheEntryData.TheVariants.{Collated as collated, Received as received}
use Rattle.block_records.specs.declared.entry.CandidateStatus.{CandidateStatus}
use Rattle.block_records.specs.declared.entry.CandidateStatus.TheVariants.{Collated, Synced, Validated, ValidationSkipped}
use Rattle.block_records.specs.declared.store_records.BlockCandidate.{BlockCandidate}
use Rattle.block_records.specs.declared.store_records.ReceivedBlock.{ReceivedBlock}
use Rattle.block_records.specs.declared.top_block.TopBlock.{TopBlock}
use Rattle.block_records.specs.rules.BlockId.{id_shard, is_masterchain, listed_prev_ids, listed_tops}

-- a cached block, with all that is known of it
pub record Entry : Type 0 where
  pub id : BlockId
  pub previous : List BlockId
  pub tops : List TopBlock
  pub anchor : (Option ℕ)
  pub reference : ℕ
  pub payload : ℕ
  pub kind : BlockCacheEntryData

-- the same with this kind
abbrev pub with_kind : BlockCacheEntryData → Entry → Entry
with_kind k e =
    record { id = e.id; previous = e.previous; tops = e.tops; anchor = e.anchor; reference = e.reference; payload = e.payload; kind = k }

-- ===== the number of a case: its place in the list, from 0 =====

-- of a kind
abbrev pub kind_number : BlockCacheEntryData → ℕ
kind_number (collated st after handle weight processed) = 0
kind_number (received after more) = 1

-- of a status
abbrev pub status_number : CandidateStatus → ℕ
status_number Collated = 0
status_number Validated = 1
status_number ValidationSkipped = 2
status_number Synced = 3

-- the same status
abbrev pub same_status : CandidateStatus → CandidateStatus → Bool
same_status a b = eqb (status_number a) (status_number b)

-- ===== fresh entries =====

-- what a candidate becomes: status Collated, not received, no signatures, its own processed-to anchor
abbrev pub fresh_collated : BlockCandidate → Entry
fresh_collated c =
    record {
      id = c.block_id;
      previous = listed_prev_ids c.prev_ids;
      tops = listed_tops c.top_blocks;
      anchor = c.top_anchor;
      reference = c.ref_by_mc_seqno;
      payload = c.payload;
      kind = collated Collated false 0 0 c.processed_to_anchor;
    }

-- the previous ids that are stored of a received block: none if its reference has the zerostate's seqno, else those listed
abbrev pub received_previous : ℕ → ReceivedBlock → List BlockId
received_previous zerostate r = cond (eqb r.ref_block_id.seqno zerostate) [] (listed_prev_ids r.prev_ids)

-- the top anchor that is stored of a received block: absent unless it is a master
abbrev pub received_anchor : ReceivedBlock → (Option ℕ)
received_anchor r = cond (is_masterchain (id_shard r.block_id)) r.top_anchor None

-- what a received block becomes: not collated, no additional anchor
abbrev pub fresh_received : ℕ → ReceivedBlock → Entry
fresh_received zerostate r =
    record {
      id = r.block_id;
      previous = received_previous zerostate r;
      tops = listed_tops r.top_blocks;
      anchor = received_anchor r;
      reference = r.ref_block_id.seqno;
      payload = r.payload;
      kind = received false None;
    }

-- the kind is Received
abbrev pub kind_received : BlockCacheEntryData → Bool
kind_received (collated st after handle weight processed) = false
kind_received (received after more) = true

-- Received; or Collated, and received after that
abbrev pub kind_applied : BlockCacheEntryData → Bool
kind_applied (collated st after handle weight processed) = after
kind_applied (received after more) = true

-- the entry is Received
abbrev pub is_received : Entry → Bool
is_received e = kind_received e.kind

-- the entry is applied
abbrev pub is_applied : Entry → Bool
is_applied e = kind_applied e.kind
