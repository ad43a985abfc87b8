-- RULES.md, Groups, Collated store and Received store: the rules of one group, over a list of entries.
-- Assumes nothing.
use Rattle.std.specs.List.{find}
use Rattle.std.specs.Prelude.{Bool, ◌&&◌, false, not, true, List, [], ℕ, eqb, leb, ltb, Option, None, Some, cond, filter}
use Rattle.block_records.specs.declared.block_id.BlockIdShort.{BlockIdShort}
use Rattle.block_records.specs.declared.entry.BlockCacheEntryData.{BlockCacheEntryData}
use Rattle.block_records.specs.declared.entry.BlockCacheEntryData.TheVariants.{Collated as collated, Received as received}
use Rattle.block_records.specs.declared.entry.CandidateStatus.TheVariants.{Synced}
use Rattle.block_records.specs.declared.store_records.BlockCandidate.{BlockCandidate}
use Rattle.block_records.specs.declared.store_records.ReceivedBlock.{ReceivedBlock}
use Rattle.block_records.specs.rules.BlockId.{id_shard, is_masterchain, same_id}
use Rattle.block_records.specs.rules.Entry.{Entry, fresh_collated, fresh_received, is_received, with_kind}
use Rattle.block_records.specs.rules.Lists.{put}

-- a group: its entries by seqno, the mark up to which it is synced, the key below which it is collected
pub record GroupModel : Type 0 where
  pub entries : List Entry
  pub mark : Option ℕ
  pub boundary : Option BlockIdShort

-- no entry, mark or boundary
abbrev pub empty_group : GroupModel
empty_group = record { entries = []; mark = None; boundary = None }

-- the same with these entries
abbrev pub with_entries : List Entry → GroupModel → GroupModel
with_entries es g = record { entries = es; mark = g.mark; boundary = g.boundary }

-- the same with this mark
abbrev pub with_mark : Option ℕ → GroupModel → GroupModel
with_mark m g = record { entries = g.entries; mark = m; boundary = g.boundary }

-- the same with this boundary
abbrev pub with_boundary : BlockIdShort → GroupModel → GroupModel
with_boundary k g = record { entries = g.entries; mark = g.mark; boundary = Some k }

-- the mark's rule gives the mark if it is n or higher, else none
abbrev pub given_mark : ℕ → Option ℕ → Option ℕ
given_mark n None = None
given_mark n (Some k) = cond (leb n k) (Some k) None

-- the mark that the rule leaves: as it was if n or higher, else n
abbrev pub refreshed_mark : ℕ → Option ℕ → Option ℕ
refreshed_mark n None = Some n
refreshed_mark n (Some k) = cond (leb n k) (Some k) (Some n)

-- the group's mark refreshed by a seqno
abbrev pub refresh : ℕ → GroupModel → GroupModel
refresh n g = with_mark (refreshed_mark n g.mark) g

-- ===== the entry at a seqno =====

-- entries stand by seqno
abbrev pub entry_before : Entry → Entry → Bool
entry_before a b = ltb a.id.seqno b.id.seqno

-- the entry is of the seqno
abbrev pub has_seqno : ℕ → Entry → Bool
has_seqno n e = eqb e.id.seqno n

-- the first entry of the seqno
abbrev pub at_seqno : ℕ → List Entry → Option Entry
at_seqno n es = find (has_seqno n) es

-- all entries but those of the seqno
abbrev pub without : ℕ → List Entry → List Entry
without n es = filter (λ (e : Entry). not (has_seqno n e)) es

-- ===== the two stores =====

-- What a store makes of the entry at its seqno: an entry that is put there, if any; whether it is now both collated and received; whether its id
-- differs.
pub record Stored : Type 0 where
  pub change : Option Entry
  pub both : Bool
  pub mismatch : Bool

-- the entry put in its place, if there is one
abbrev pub changed_entries : Option Entry → List Entry → List Entry
changed_entries None es = es
changed_entries (Some e) es = put entry_before e es

-- the kind of a received block once it is collated too: flagged as such, and for a shard block with the candidate's processed-to anchor beside it; a
-- Collated kind stays
abbrev pub collated_kind : BlockCandidate → BlockCacheEntryData → BlockCacheEntryData
collated_kind c (collated st after handle weight processed) = collated st after handle weight processed
collated_kind c (received after more) = received true (cond (is_masterchain (id_shard c.block_id)) more (Some c.processed_to_anchor))

-- The collated store, by the entry at the candidate's seqno: none, a fresh one; of the same id, `collated_kind` of it, both; of another id, no
-- change, mismatch. Question 7 lets it come to a Received entry only.
abbrev pub store_collated_at : BlockCandidate → Option Entry → Stored
store_collated_at c None = record { change = Some (fresh_collated c); both = false; mismatch = false }
store_collated_at c (Some e) =
    cond (same_id e.id c.block_id)
    (record { change = Some (with_kind (collated_kind c e.kind) e); both = true; mismatch = false })
    (record { change = None; both = false; mismatch = true })

-- the kind of a collated block once it is received too: flagged as such and of status Synced; a Received kind stays
abbrev pub received_kind : BlockCacheEntryData → BlockCacheEntryData
received_kind (collated st after handle weight processed) = collated Synced true handle weight processed
received_kind (received after more) = received after more

-- The received store of a block that is not synced, by the entry at its seqno: none, a fresh one; of the same id, `received_kind` of it, both; of
-- another id, a fresh one in its place, mismatch. Question 7 lets it come to a Collated entry only.
abbrev pub store_received_at : ℕ → ReceivedBlock → Option Entry → Stored
store_received_at zerostate r None = record { change = Some (fresh_received zerostate r); both = false; mismatch = false }
store_received_at zerostate r (Some e) =
    cond (same_id e.id r.block_id)
    (record { change = Some (with_kind (received_kind e.kind) e); both = true; mismatch = false })
    (record { change = Some (fresh_received zerostate r); both = false; mismatch = true })

-- 7: no entry stands there, or one that passes the test; a collated store passes Received ones, a received store the others
abbrev pub vacant_or : (Entry → Bool) → Option Entry → Bool
vacant_or p None = true
vacant_or p (Some e) = p e

-- ===== collect and remove next collated, in one group =====

-- the entry is below the boundary; none is without one
abbrev pub below_boundary : Option BlockIdShort → Entry → Bool
below_boundary None e = false
below_boundary (Some k) e = ltb e.id.seqno k.seqno

-- the group without its entries below its boundary
abbrev pub collected : GroupModel → GroupModel
collected g = with_entries (filter (λ (e : Entry). not (below_boundary g.boundary e)) g.entries) g

-- the entry is above a seqno and not Received
abbrev pub collated_above : ℕ → Entry → Bool
collated_above n e = ltb n e.id.seqno && not (is_received e)

-- the group without those entries
abbrev pub without_collated_above : ℕ → GroupModel → GroupModel
without_collated_above n g = with_entries (filter (λ (e : Entry). not (collated_above n e)) g.entries) g
