-- RULES.md, Soundness and Questions: when a model is sound, and each request's questions, one after the other.
-- Assumes nothing.
use Rattle.block_records.specs.declared.range.AppliedRange.{AppliedRange}
use Rattle.block_records.specs.declared.questions.Refusal.TheVariants.{AlreadyStored, BeforeZerostate, ForeignReference, NoIdRoom, NoMaster, NoRoom, NothingApplied, SeqnoLimit, SliceTooShort, Unsound}
use Rattle.std.specs.List.{list_all, find}
use Rattle.std.specs.Prelude.{Bool, ◌&&◌, ◌||◌, false, not, true, List, [], ◌++◌, ◌∷◌, ℕ, eqb, leb, ltb, length, Option, None, Some, is_some}
use Rattle.block_records.specs.declared.block_id.BlockId.{BlockId}
use Rattle.block_records.specs.declared.store_records.BlockCandidate.{BlockCandidate}
use Rattle.block_records.specs.declared.store_records.ReceivedBlock.{ReceivedBlock}
use Rattle.block_records.specs.rules.BlockId.{id_shard, is_masterchain, same_id}
use Rattle.block_records.specs.rules.Entry.{Entry, is_received}
use Rattle.block_records.specs.rules.Limits.{entries_limit, ids_limit, shards_limit, slice_places}
use Rattle.block_records.specs.rules.Lists.{rising}
use Rattle.block_records.specs.rules.Questions.{Question, ask, candidate_questions, id_fits, key_fits, keys_questions, received_questions, seqno_fits}
use Rattle.blocks_group.specs.rules.Group.{at_seqno, given_mark, vacant_or}
use Rattle.blocks_group.specs.rules.Soundness.{of_shard, sound_group_model}
use Rattle.cache_rules.specs.Calls.{Call, Request, collect, peek, pop, read_tail_ids, remove_next_collated, set_boundary, store_collated, store_received, store_validation, sync}
use Rattle.cache_rules.specs.Model.{Model, ShardModel, entry_for, find_shard, first_applied, group_for, id_before, shard_before}

-- a shard's group is sound: its shard is not of the masterchain, and the group is sound for that shard
abbrev pub sound_shard_model : ShardModel → Bool
sound_shard_model g = not (is_masterchain g.shard) && sound_group_model (of_shard g.shard) g.group

-- there is a mark, and it is n or higher
abbrev pub mark_reaches : ℕ → Option ℕ → Bool
mark_reaches n None = false
mark_reaches n (Some k) = leb n k

-- a range's start does not pass its end, nor its end the master mark, which is there; no range is sound too
abbrev pub sound_range : Option ℕ → Option AppliedRange → Bool
sound_range mark None = true
sound_range mark (Some r) = leb r.start r.end && mark_reaches r.end mark

-- the id is of the masterchain
abbrev pub id_masterchain : BlockId → Bool
id_masterchain i = is_masterchain (id_shard i)

-- 1: range, master group, last collated ids and shard groups are sound; ids and groups are no more than their limits and rise. That unused places are
-- zeros is asked of the arrays.
unfoldable pub sound_model : Model → Bool
sound_model m =
    sound_range m.masters.mark m.range && (sound_group_model is_masterchain m.masters && (leb (length m.ids) ids_limit
    && (rising id_before m.ids && (list_all id_masterchain m.ids && (leb (length m.shards) shards_limit
    && (rising shard_before m.shards && list_all sound_shard_model m.shards))))))

-- 5: a received block's `ref_block_id` does not lie below the zerostate
abbrev pub not_before_zerostate : ReceivedBlock → Model → Bool
not_before_zerostate r m = leb m.zerostate r.ref_block_id.seqno

-- 6: a received master names itself in `ref_block_id`, which the Rust asserts in debug builds; other blocks pass
abbrev pub own_reference : ReceivedBlock → Bool
own_reference r = not (is_masterchain (id_shard r.block_id)) || same_id r.block_id r.ref_block_id

-- the mark of the block's group reaches its seqno
abbrev pub is_synced : BlockId → Model → Bool
is_synced i m = is_some (given_mark i.seqno (group_for (id_shard i) m).mark)

-- 7 is `vacant_or` of the group's rules, asked of the entry at the block's seqno.

-- 8: the block's seqno has an entry already; or its group is not full, and is there or may still be made
abbrev pub has_room : BlockId → Model → Bool
has_room i m =
    is_some (entry_for i m) || (ltb (length (group_for (id_shard i) m).entries) entries_limit
    && (is_masterchain (id_shard i) || (is_some (find_shard (id_shard i) m.shards) || ltb (length m.shards) shards_limit)))

-- A collated store inserts where its place is vacant, and updates where a block of its own id stands there.
abbrev pub inserts_or_updates : BlockCandidate → Option Entry → Bool
inserts_or_updates c None = true
inserts_or_updates c (Some e) = same_id e.id c.block_id

-- one of the ids has the seqno
abbrev pub has_id_at : ℕ → List BlockId → Bool
has_id_at n ids = is_some (find (λ (j : BlockId). eqb j.seqno n) ids)

-- 9: the id of a master that a collated store takes in replaces one of its seqno, or the ids are not full; other candidates pass
abbrev pub has_id_room : BlockCandidate → Model → Bool
has_id_room c m =
    not (is_masterchain (id_shard c.block_id) && inserts_or_updates c (entry_for c.block_id m))
    || (has_id_at c.block_id.seqno m.ids || ltb (length m.ids) ids_limit)

-- ===== the table =====

-- 10: the lent slice has places for all shard blocks of a full cache
abbrev pub slice_questions : ℕ → List Question
slice_questions places = ask SliceTooShort (leb slice_places places) ∷ []

-- the questions of a request after the first, in their order; `places` are those of the lent slice
unfoldable pub further : Model → ℕ → Request → List Question
further m places (store_collated c) =
    candidate_questions c
    ++ (ask AlreadyStored (vacant_or is_received (entry_for c.block_id m)) ∷ ask NoRoom (has_room c.block_id m) ∷ ask NoIdRoom (has_id_room c m) ∷ [])
further m places (store_received r) =
    received_questions r
    ++ (ask BeforeZerostate (not_before_zerostate r m) ∷ ask ForeignReference (own_reference r)
    ∷ ask AlreadyStored (is_synced r.block_id m || vacant_or (λ (e : Entry). not (is_received e)) (entry_for r.block_id m))
    ∷ ask NoRoom (is_synced r.block_id m || has_room r.block_id m) ∷ [])
further m places (store_validation i v) = ask SeqnoLimit (id_fits i) ∷ []
-- 11: pop finds a master
further m places (pop f) = ask SeqnoLimit (seqno_fits f) ∷ slice_questions places ++ (ask NothingApplied (is_some (first_applied f m)) ∷ [])
further m places (sync i) = ask SeqnoLimit (id_fits i) ∷ slice_questions places
further m places (peek f) = ask SeqnoLimit (seqno_fits f) ∷ []
-- 12: the zerostate is not passed, or there is a master at the seqno
further m places (read_tail_ids k) =
    ask SeqnoLimit (key_fits k) ∷ ask NoMaster (leb k.seqno m.zerostate || is_some (at_seqno k.seqno m.masters.entries)) ∷ []
further m places (set_boundary ks) = keys_questions ks
further m places collect = []
further m places (remove_next_collated ks) = keys_questions ks

-- all questions of a call; the first is soundness
abbrev pub questions : Model → Call → List Question
questions m call = ask Unsound (sound_model m) ∷ further m (length call.lent) call.request
