-- RULES.md, from Collated store to Answers: what a request does that is not refused; one call, and a list of calls.
-- Assumes nothing.
use Rattle.block_records.specs.declared.range.AppliedRange.{AppliedRange}
use Rattle.block_records.specs.declared.questions.Refusal.{Refusal}
use Rattle.block_records.specs.declared.questions.Refusal.TheVariants.{NoMaster, NothingApplied}
use Rattle.std.specs.List.{fold}
use Rattle.std.specs.Prelude.{Bool, ◌&&◌, ◌||◌, not, List, [], ◌++◌, ◌∷◌, ℕ, leb, drop, length, Option, None, Some, map, cond, filter}
use Rattle.block_records.specs.declared.block_id.BlockId.{BlockId}
use Rattle.block_records.specs.declared.block_id.BlockIdShort.{BlockIdShort}
use Rattle.block_records.specs.declared.block_id.ShardIdent.{ShardIdent}
use Rattle.block_records.specs.declared.entry.BlockCacheEntry.{BlockCacheEntry}
use Rattle.block_records.specs.declared.entry.BlockCacheEntryData.{BlockCacheEntryData}
use Rattle.block_records.specs.declared.entry.BlockCacheEntryData.TheVariants.{Collated as collated, Received as received}
use Rattle.block_records.specs.declared.entry.CandidateStatus.{CandidateStatus}
use Rattle.block_records.specs.declared.entry.CandidateStatus.TheVariants.{Synced, Validated, ValidationSkipped}
use Rattle.block_records.specs.declared.store_records.BlockCandidate.{BlockCandidate}
use Rattle.block_records.specs.declared.store_records.ReceivedBlock.{ReceivedBlock}
use Rattle.block_records.specs.layout.Entry.{pack_entry}
use Rattle.block_records.specs.rules.BlockId.{id_shard, is_masterchain, key_shard, listed_keys}
use Rattle.block_records.specs.rules.Entry.{Entry, is_applied, same_status, with_kind}
use Rattle.block_records.specs.rules.Lists.{last, put}
use Rattle.block_records.specs.rules.Questions.{first_no}
use Rattle.blocks_group.specs.rules.Group.{GroupModel, Stored, at_seqno, below_boundary, changed_entries, collated_above, collected, entry_before, refresh, store_collated_at, store_received_at, with_boundary, with_entries, without, without_collated_above}
use Rattle.cache_rules.specs.Calls.{Answer, Call, Effect, Extract, Outcome, Request, Validation, already_extracted, collect, complete, done, extracted, no_change, nothing, peek, peeked, pop, popped, read_tail_ids, refused, remove_next_collated, set_boundary, skipped, store_collated, store_received, store_validation, stored, sync, synced, tail_ids, validated}
use Rattle.cache_rules.specs.Extraction.{Walk, extraction_of, starting_items, view_tops}
use Rattle.cache_rules.specs.Model.{Model, ShardModel, entry_for, first_applied, group_for, id_before, ids_below, ids_from, is_last, moved_end, moved_start, on_shard, with_group, with_ids_and_range, with_masters, with_shards}
use Rattle.cache_rules.specs.Refusals.{is_synced, questions}
use Rattle.cache_rules.specs.TailIds.{tails_of}

-- a request that hands out no blocks
abbrev pub plain : Answer → Model → Effect
plain a m = record { model = m; answer = a; blocks = [] }

-- ===== the two stores =====

-- a store's two flags, with the last of the ids and the range of the model that it leaves
abbrev pub store_answer : Stored → Model → Effect
store_answer s m = plain (stored s.both s.mismatch (last m.ids) m.range) m

-- the entry put into the shard's group, which is made where there was none; without a change the model as it was
abbrev pub store_change : ShardIdent → Option Entry → Model → Model
store_change s None m = m
store_change s (Some e) m = let g = group_for s m in with_group s (with_entries (put entry_before e g.entries) g) m

-- master data after a collated store: past a master that is no mismatch the range is moved on, and its id goes in
abbrev pub collated_data : BlockId → Bool → Model → Model
collated_data i mismatch m =
    cond (is_masterchain (id_shard i) && not mismatch) (with_ids_and_range (put id_before i m.ids) (moved_start i.seqno m.range) m) m

-- the collated store, by what it makes of the entry at the candidate's seqno
abbrev pub collated_stored : BlockCandidate → Stored → Model → Effect
collated_stored c s m = store_answer s (collated_data c.block_id s.mismatch (store_change (id_shard c.block_id) s.change m))

-- the collated store of a candidate
abbrev pub do_store_collated : BlockCandidate → Model → Effect
do_store_collated c m = collated_stored c (store_collated_at c (entry_for c.block_id m)) m

-- the change put into the block's group, and the group's mark refreshed by the block's seqno
abbrev pub store_and_refresh : BlockId → Option Entry → Model → Model
store_and_refresh i change m =
    let g = group_for (id_shard i) m in with_group (id_shard i) (refresh i.seqno (with_entries (changed_entries change g.entries) g)) m

-- master data after a received store: a master's seqno becomes the range's end; a mismatch drops ids, from a master's own seqno on or from a shard
-- block's reference on
abbrev pub received_data : ReceivedBlock → Bool → Model → Model
received_data r mismatch m =
    with_ids_and_range
    (cond mismatch (ids_below (cond (is_masterchain (id_shard r.block_id)) r.block_id.seqno r.ref_block_id.seqno) m.ids) m.ids)
    (cond (is_masterchain (id_shard r.block_id)) (moved_end r.block_id.seqno m.range) m.range) m

-- the received store of a block that is not synced, by what it makes of the entry at the block's seqno
abbrev pub received_stored : ReceivedBlock → Stored → Model → Effect
received_stored r s m = store_answer s (received_data r s.mismatch (store_and_refresh r.block_id s.change m))

-- the received store: the model stays as it was where the group's mark reaches the block's seqno
abbrev pub do_store_received : ReceivedBlock → Model → Effect
do_store_received r m =
    cond (is_synced r.block_id m) (plain synced m) (received_stored r (store_received_at m.zerostate r (entry_for r.block_id m)) m)

-- ===== validation =====

-- the status that a validation brings
abbrev pub result_status : Validation → CandidateStatus
result_status (complete handle weight) = Validated
result_status skipped = ValidationSkipped

-- the signature handle that it brings, 0 if skipped
abbrev pub result_handle : Validation → ℕ
result_handle (complete handle weight) = handle
result_handle skipped = 0

-- the total weight that it brings, 0 if skipped
abbrev pub result_weight : Validation → ℕ
result_weight (complete handle weight) = weight
result_weight skipped = 0

-- the kind that a validation makes of a kind; none of a Received one, of status Synced, and of the status that it brings
abbrev pub validated_kind : Validation → BlockCacheEntryData → Option BlockCacheEntryData
validated_kind v (received after more) = None
validated_kind v (collated st after handle weight processed) =
    cond (same_status st Synced || same_status st (result_status v)) None
    (Some (collated (result_status v) after (result_handle v) (result_weight v) processed))

-- the master with its new kind, and the status as the answer; or no change
abbrev pub validate_kind : Validation → Entry → Option BlockCacheEntryData → Model → Effect
validate_kind v e None m = plain no_change m
validate_kind v e (Some k) m =
    plain (validated (result_status v)) (with_masters (with_entries (put entry_before (with_kind k e) m.masters.entries) m.masters) m)

-- validation of the master at the seqno; no change where there is none
abbrev pub validate_entry : Validation → Option Entry → Model → Effect
validate_entry v None m = plain no_change m
validate_entry v (Some e) m = validate_kind v e (validated_kind v e.kind) m

-- ===== pop and sync extraction =====

-- what is answered of an extraction: M and the walk's two numbers
abbrev pub extract_of : Entry → Walk → Extract
extract_of M w = record { block = M; joined = length w.joined; taken = w.taken }

-- the model with these masters, this range, the walk's shard groups, and the ids from M's seqno on
abbrev pub extracted_model : Entry → Walk → GroupModel → Option AppliedRange → Model → Model
extracted_model M w masters range m =
    record { zerostate = m.zerostate; masters = masters; ids = ids_from M.id.seqno m.ids; range = range; shards = w.shards }

-- the master group without the entry of M's seqno
abbrev pub masters_without : Entry → Model → GroupModel
masters_without M m = with_entries (without M.id.seqno m.masters.entries) m.masters

-- pop of the master found: it leaves, and the range goes on after it; 11 where none was found
abbrev pub pop_entry : Option Entry → Model → Effect
pop_entry None m = plain (refused NothingApplied) m
pop_entry (Some M) m =
    let w = extraction_of M m in
    record {
      model = extracted_model M w (masters_without M m) (moved_start M.id.seqno m.range) m;
      answer = popped (extract_of M w) (is_last M.id.seqno m);
      blocks = w.joined;
    }

-- sync extraction of the master found: it leaves and refreshes the mark; only if it was applied does the range go on after it
abbrev pub sync_entry : Option Entry → Model → Effect
sync_entry None m = plain already_extracted m
sync_entry (Some M) m =
    let w = extraction_of M m in
    record {
      model =
          extracted_model M w (refresh M.id.seqno (masters_without M m)) (cond (is_applied M) (moved_start M.id.seqno m.range) m.range) m;
      answer = extracted (extract_of M w);
      blocks = w.joined;
    }

-- ===== peek and tail ids =====

-- peek at the master found: its row and the view of its starting items
abbrev pub peek_entry : Option Entry → Model → Effect
peek_entry None m = plain nothing m
peek_entry (Some M) m =
    plain
    (peeked (record { id = M.id; reference = M.reference; payload = M.payload }) (view_tops M.id.seqno m.shards (starting_items m.zerostate M))) m

-- the tail ids of the master found; 12 where none was found
abbrev pub tail_ids_entry : Option Entry → Model → Effect
tail_ids_entry None m = plain (refused NoMaster) m
tail_ids_entry (Some M) m = plain (tail_ids (tails_of m.shards M)) m

-- ===== set boundary, collect, remove next collated =====

-- a key becomes the boundary of its shard's group, if there is such a group
abbrev pub bound_one : Model → BlockIdShort → Model
bound_one m k =
    cond (is_masterchain (key_shard k)) (with_masters (with_boundary k m.masters) m)
    (with_shards (on_shard (key_shard k) (with_boundary k) m.shards) m)

-- a collected master takes the ids below it along
abbrev pub collect_ids : List BlockId → Entry → List BlockId
collect_ids ids e = ids_from e.id.seqno ids

-- a shard's group after its collection
abbrev pub collect_shard : ShardModel → ShardModel
collect_shard g = record { shard = g.shard; group = collected g.group }

-- every group is collected, and the collected masters take ids along; range and marks stay
abbrev pub do_collect : Model → Model
do_collect m =
    record {
      zerostate = m.zerostate;
      masters = collected m.masters;
      ids = fold collect_ids m.ids (filter (below_boundary m.masters.boundary) m.masters.entries);
      range = m.range;
      shards = map collect_shard m.shards;
    }

-- a removed master takes its own seqno's id and all higher ones along
abbrev pub remove_ids : List BlockId → Entry → List BlockId
remove_ids ids e = ids_below e.id.seqno ids

-- a key's group, if there is one, loses the collated entries above the key's seqno; masters take ids along; range and marks stay
abbrev pub remove_one : Model → BlockIdShort → Model
remove_one m k =
    cond (is_masterchain (key_shard k))
    (record {
      zerostate = m.zerostate;
      masters = without_collated_above k.seqno m.masters;
      ids = fold remove_ids m.ids (filter (collated_above k.seqno) m.masters.entries);
      range = m.range;
      shards = m.shards;
    })
    (with_shards (on_shard (key_shard k) (without_collated_above k.seqno) m.shards) m)

-- ===== every request =====

-- what each request does
unfoldable pub effect : Model → Request → Effect
effect m (store_collated c) = do_store_collated c m
effect m (store_received r) = do_store_received r m
effect m (store_validation i v) = validate_entry v (at_seqno i.seqno m.masters.entries) m
effect m (pop f) = pop_entry (first_applied f m) m
effect m (sync i) = sync_entry (at_seqno i.seqno m.masters.entries) m
effect m (peek f) = peek_entry (first_applied f m) m
effect m (read_tail_ids k) =
    cond (leb k.seqno m.zerostate) (plain (tail_ids []) m) (tail_ids_entry (at_seqno k.seqno m.masters.entries) m)
effect m (set_boundary ks) = plain done (fold bound_one m (listed_keys ks))
effect m collect = plain done (do_collect m)
effect m (remove_next_collated ks) = plain done (fold remove_one m (listed_keys ks))

-- the blocks, then the slice from the place after them on
abbrev pub at_front : List BlockCacheEntry → List BlockCacheEntry → List BlockCacheEntry
at_front blocks slice = blocks ++ drop (length blocks) slice

-- an effect's model and answer, with its blocks packed at the front of the lent slice
abbrev pub outcome_of : Effect → List BlockCacheEntry → Outcome
outcome_of e lent = record { model = e.model; answer = e.answer; slice = at_front (map pack_entry e.blocks) lent }

-- a refusal: the model and the slice are as they were; else the request has its effect
abbrev pub answered : Option Refusal → Model → Call → Outcome
answered None m call = outcome_of (effect m call.request) call.lent
answered (Some r) m call = record { model = m; answer = refused r; slice = call.lent }

-- one call: its questions, and what follows from them
unfoldable pub step : Model → Call → Outcome
step m call = answered (first_no (questions m call)) m call

-- the outcome of each call of a list, each given the model that the last one left
unfoldable pub run : Model → List Call → List Outcome
run m [] = []
run m (call ∷ calls) = step m call ∷ run (step m call).model calls

-- the model that a list of calls leaves
unfoldable pub after : Model → List Call → Model
after m [] = m
after m (call ∷ calls) = after (step m call).model calls
