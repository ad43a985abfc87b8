-- RULES.md, Limits and Questions: the seqno limit, full groups and last collated ids, counts past their capacity, and each refusal.
-- Assumes nothing.
use Rattle.block_records.specs.declared.range.AppliedRange.{AppliedRange}
use Rattle.block_records.specs.declared.questions.Refusal.TheVariants.{AlreadyStored, BeforeZerostate, ForeignReference, NoIdRoom, NoMaster, NoRoom, NothingApplied, SeqnoLimit, SliceTooShort, TooMany, WrongLink}
use Rattle.std.specs.List.{flat_map}
use Rattle.std.specs.Prelude.{false, true, List, [], ◌++◌, ◌∷◌, ◌≡◌, refl, ◌-◌, suc, zero, ℕ, pos, drop, replicate, Option, None, Some, map}
use Rattle.block_records.specs.declared.block_id.BlockId.{BlockId}
use Rattle.block_records.specs.declared.entry.BlockCacheEntry.{BlockCacheEntry}
use Rattle.block_records.specs.declared.entry.CandidateStatus.TheVariants.{Validated}
use Rattle.block_records.specs.layout.Listed.{Keys}
use Rattle.block_records.specs.layout.Listed.{PrevIds}
use Rattle.block_records.specs.layout.Listed.{TopBlocks}
use Rattle.block_records.specs.layout.Entry.{pack_prev_ids, pack_tops}
use Rattle.block_records.specs.layout.Zeros.{zero_entry, zero_id, zero_top}
use Rattle.block_records.specs.rules.BlockId.{key, less_id, less_shard}
use Rattle.block_records.specs.rules.Entry.{Entry}
use Rattle.block_records.specs.rules.Lists.{padded}
use Rattle.blocks_group.specs.rules.Group.{with_mark}
use Rattle.cache_rules.specs.Calls.{Answer, Call, Outcome, collect, complete, pop, read_tail_ids, refused, remove_next_collated, set_boundary, store_collated, store_received, store_validation, stored, sync, tail_ids, validated}
use Rattle.cache_rules.specs.CaseCalls.{ask_call, block, cand, candidate, coll, hash, keys, mc, mc', pop_call, recv, sc, slice, sync_call, top}
use Rattle.cache_rules.specs.Effects.{after, effect, run, step}
use Rattle.cache_rules.specs.Model.{Model, empty_model}
use Rattle.cache_rules.specs.Refusals.{further, sound_model}

-- the answer of an outcome
pub outcome_answer : Outcome → Answer
outcome_answer o = o.answer

-- the answers to calls on an empty cache
pub answers : ℕ → List Call → List Answer
answers zerostate calls = map outcome_answer (run (empty_model zerostate) calls)

-- a store's answer with neither flag and no range
pub nn_answer : Option BlockId → Answer
nn_answer i = stored false false i None

-- ===== seqnos =====

-- the highest seqno that question 2 lets pass, and the one after it
pub seqno_edge : answers 0 (coll (mc 4_294_967_294) ∷ coll (mc 4_294_967_295) ∷ []) ≡ nn_answer (Some (mc 4_294_967_294)) ∷ refused SeqnoLimit ∷ []
unfolding step less_shard less_id run sound_model effect further padded zero_id zero_top hash block mc candidate ask_call cand coll outcome_answer answers nn_answer
seqno_edge = refl

-- ===== full groups =====

-- k numbers from n on
pub from_to : ℕ → ℕ → List ℕ
from_to zero n = []
from_to (suc k) n = n ∷ from_to k (suc n)

-- the last two, or as many as there are
pub last_two : List Answer → List Answer
last_two [] = []
last_two (a ∷ []) = a ∷ []
last_two (a ∷ b ∷ []) = a ∷ b ∷ []
last_two (a ∷ b ∷ c ∷ rest) = last_two (b ∷ c ∷ rest)

-- collate the master of seqno n
pub coll_at : ℕ → Call
coll_at n = coll (mc n)

-- of 17 masters the last but one still goes in, and question 8 refuses the last
pub group_edge : last_two (answers 0 (map coll_at (from_to 17 1))) ≡ nn_answer (Some (mc 16)) ∷ refused NoRoom ∷ []
unfolding step less_shard less_id run sound_model effect further padded zero_id zero_top hash block mc candidate ask_call cand coll coll_at from_to last_two outcome_answer answers nn_answer
group_edge = refl

-- a block of seqno 1 in the shard of workchain 0 and prefix n
pub shard_block : ℕ → BlockId
shard_block n = block (pos 0) n 1 1

-- collate that block
pub coll_shard : ℕ → Call
coll_shard n = coll (shard_block n)

-- of 9 shards the last but one still gets a group, and question 8 refuses the last
pub shard_edge : last_two (answers 0 (map coll_shard (from_to 9 1))) ≡ nn_answer None ∷ refused NoRoom ∷ []
unfolding step less_shard less_id run sound_model effect further padded zero_id zero_top hash block shard_block candidate ask_call cand coll coll_shard from_to last_two outcome_answer answers nn_answer
shard_edge = refl

-- ===== full last collated ids =====

-- k numbers from n down, none below 0
pub down_from : ℕ → ℕ → List ℕ
down_from zero n = []
down_from (suc k) n = n ∷ down_from k (n - 1)

-- master n is collated, then leaves by a sync extraction; its id stays
pub coll_sync : ℕ → List Call
coll_sync n = coll (mc n) ∷ sync_call (mc n) ∷ []

-- with 31 ids, of masters 33 down to 3: one more goes in, question 9 refuses the next, and a seqno that has an id already passes
pub id_edge :
    drop 62 (answers 0 (flat_map coll_sync (down_from 31 33) ++ (coll_at 2 ∷ coll_at 1 ∷ coll_at 5 ∷ [])))
    ≡ nn_answer (Some (mc 33)) ∷ refused NoIdRoom ∷ nn_answer (Some (mc 33)) ∷ []
unfolding step less_shard less_id run sound_model effect further padded zero_id zero_top zero_entry hash block mc candidate ask_call cand coll slice sync_call coll_at down_from coll_sync outcome_answer answers nn_answer
id_edge = refl

-- ===== counts past their capacity =====

-- a count of 3 over the 2 places
pub ids_of_3 : PrevIds
ids_of_3 = record { items = mc 4 ∷ mc 3 ∷ []; count = 3 }

-- a count of 9 over the 8 places
pub tops_of_9 : TopBlocks
tops_of_9 = record { items = replicate 8 (top 5 (sc 1)); count = 9 }

-- a count of 10 over the 9 places
pub keys_of_10 : Keys
keys_of_10 = record { items = replicate 9 (key (mc 1)); count = 10 }

-- receive a block with this reference block, these previous ids and top items
pub received_block : BlockId → BlockId → PrevIds → TopBlocks → Call
received_block i reference previous tops =
    ask_call (store_received (record { block_id = i; ref_block_id = reference; prev_ids = previous; top_blocks = tops; top_anchor = None; payload = 0 }))

-- each of these counts is refused by question 3, and so is a shard block with a top item
pub count_edges :
    answers 0
    (ask_call (store_collated (candidate (mc 5) 5 ids_of_3 (pack_tops []))) ∷ ask_call (store_collated (candidate (mc 5) 5 (pack_prev_ids []) tops_of_9))
    ∷ received_block (mc 5) (mc 5) ids_of_3 (pack_tops []) ∷ received_block (mc 5) (mc 5) (pack_prev_ids []) tops_of_9
    ∷ ask_call (set_boundary keys_of_10) ∷ ask_call (remove_next_collated keys_of_10) ∷ cand (sc 5) 5 [] (top 5 (sc 1) ∷ []) ∷ [])
    ≡ replicate 7 (refused TooMany)
unfolding step less_shard less_id run sound_model effect further padded zero_id zero_top hash block mc sc candidate ask_call cand top ids_of_3 tops_of_9 keys_of_10 received_block outcome_answer answers
count_edges = refl

-- ===== each refusal =====

-- one place too few
pub short_slice : List BlockCacheEntry
short_slice = replicate 127 zero_entry

-- zerostate 7: a previous id not below its block 4, a top in the masterchain 4, a reference below the zerostate's 5, a master that is not its own
-- reference 6, a lent slice of 127 places 10, nothing applied 11, tail ids of a master that is not cached 12
pub refusals :
    answers 7
    (cand (mc 8) 8 (mc 8 ∷ []) [] ∷ cand (mc 8) 8 [] (top 8 (mc 1) ∷ []) ∷ received_block (mc 6) (mc 6) (pack_prev_ids []) (pack_tops [])
    ∷ received_block (mc 8) (mc 9) (pack_prev_ids []) (pack_tops []) ∷ record { request = pop 0; lent = short_slice } ∷ record { request = sync (mc 8); lent = short_slice }
    ∷ pop_call 0 ∷ ask_call (read_tail_ids (key (mc 8))) ∷ ask_call (read_tail_ids (key (mc 7))) ∷ [])
    ≡ refused WrongLink ∷ refused WrongLink ∷ refused BeforeZerostate ∷ refused ForeignReference ∷ refused SliceTooShort ∷ refused SliceTooShort ∷ refused NothingApplied ∷ refused NoMaster ∷ tail_ids [] ∷ []
unfolding step less_shard less_id run sound_model effect further padded zero_id zero_top zero_entry hash block mc candidate ask_call cand top slice short_slice pop_call received_block outcome_answer answers
refusals = refl

-- ===== calls that leave the range =====

-- the range that calls on an empty cache of zerostate 0 leave
pub range_after : List Call → Option AppliedRange
range_after calls = (after (empty_model 0) calls).range

-- m5 is collected, and the range still starts at 5
pub collect_keeps_range :
    range_after (recv (mc 5) [] ∷ recv (mc 6) [] ∷ ask_call (set_boundary (keys (key (mc 6) ∷ []))) ∷ ask_call collect ∷ []) ≡ Some (record { start = 5; end = 6 })
unfolding step less_shard less_id after sound_model effect further padded zero_id zero_top hash block mc ask_call recv keys range_after
collect_keeps_range = refl

-- a refused pop leaves the range: m5 is received, and from 6 on nothing is applied
pub refused_pop_keeps_range : range_after (recv (mc 5) [] ∷ pop_call 6 ∷ []) ≡ Some (record { start = 5; end = 5 })
unfolding step less_shard less_id after sound_model effect further padded zero_id zero_top zero_entry hash block mc ask_call recv slice pop_call range_after
refused_pop_keeps_range = refl

-- ===== question 7 of a received store =====

-- a Received entry with no mark in its group: sound, though no list of calls makes it (proofs/MarkedSteps)
pub unmarked : Model
unmarked =
    let m = after (empty_model 0) (recv (mc 5) [] ∷ []) in
    record { zerostate = m.zerostate; masters = with_mark None m.masters; ids = m.ids; range = None; shards = m.shards }

-- there the same block is received once more, and question 7 refuses it
pub received_twice : (sound_model unmarked ≡ true) × ((step unmarked (recv (mc 5) [])).answer ≡ refused AlreadyStored)
unfolding step less_shard less_id after sound_model effect further padded zero_id zero_top hash block mc ask_call recv unmarked
received_twice = (refl, refl)

-- ===== what is told by the seqno or the kind alone =====

-- the ids of the cached masters
pub master_ids : Model → List BlockId
master_ids m = map (λ (e : Entry). e.id) m.masters.entries

-- m6 is received and m7 collated: removal above m5 takes m7, and m6 stays
pub removal_keeps_received :
    master_ids (after (empty_model 0) (recv (mc 6) [] ∷ coll (mc 7) ∷ ask_call (remove_next_collated (keys (key (mc 5) ∷ []))) ∷ [])) ≡ mc 6 ∷ []
unfolding step less_shard less_id after sound_model effect further padded zero_id zero_top hash block mc candidate ask_call cand coll recv keys master_ids
removal_keeps_received = refl

-- a validation of m5' finds m5, which has its seqno
pub validation_by_seqno :
    answers 0 (coll (mc 5) ∷ ask_call (store_validation (mc' 5) (complete 1 9)) ∷ []) ≡ nn_answer (Some (mc 5)) ∷ validated Validated ∷ []
unfolding step less_shard less_id run sound_model effect further padded zero_id zero_top hash block mc mc' candidate ask_call cand coll outcome_answer answers nn_answer
validation_by_seqno = refl

-- and so does a sync extraction at m5'
pub sync_by_seqno : master_ids (after (empty_model 0) (coll (mc 5) ∷ sync_call (mc' 5) ∷ [])) ≡ []
unfolding step less_shard less_id after sound_model effect further padded zero_id zero_top zero_entry hash block mc mc' candidate ask_call cand coll slice sync_call master_ids
sync_by_seqno = refl
