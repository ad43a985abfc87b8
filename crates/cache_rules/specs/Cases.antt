-- RULES.md, Case table: C1 to C14, computed by the rules in one equation. Of each case it states every answer, the blocks that are handed out and the
-- model that is left, all of them whole: entries with their kinds, flags, previous ids, top items, anchors and payloads, marks, boundaries, ids and
-- range.
-- Assumes nothing.
use Rattle.block_records.specs.declared.range.AppliedRange.{AppliedRange}
use Rattle.block_records.specs.declared.questions.Refusal.{Refusal}
use Rattle.block_records.specs.declared.questions.Refusal.TheVariants.{AlreadyStored, NothingApplied}
use Rattle.std.specs.Prelude.{Bool, false, true, List, [], ◌++◌, ◌∷◌, ◌≡◌, refl, ℕ, pos, take, Option, None, Some, map}
use Rattle.block_records.specs.declared.block_id.BlockId.{BlockId}
use Rattle.block_records.specs.declared.entry.BlockCacheEntry.{BlockCacheEntry}
use Rattle.block_records.specs.declared.entry.BlockCacheEntryData.{BlockCacheEntryData}
use Rattle.block_records.specs.declared.entry.BlockCacheEntryData.TheVariants.{Collated as collated, Received as received}
use Rattle.block_records.specs.declared.entry.CandidateStatus.TheVariants.{Collated, Synced, Validated, ValidationSkipped}
use Rattle.block_records.specs.declared.top_block.TopBlock.{TopBlock}
use Rattle.block_records.specs.layout.Entry.{pack_entry}
use Rattle.block_records.specs.layout.Zeros.{zero_entry, zero_id, zero_top}
use Rattle.block_records.specs.rules.BlockId.{id_shard, key, less_id, less_shard}
use Rattle.block_records.specs.rules.Entry.{Entry}
use Rattle.block_records.specs.rules.Lists.{last, padded}
use Rattle.cache_rules.specs.Calls.{Answer, Call, Extract, Outcome, already_extracted, collect, complete, done, extracted, handed, no_change, nothing, peek, peeked, popped, read_tail_ids, refused, set_boundary, skipped, store_validation, stored, synced, tail_ids, validated}
use Rattle.cache_rules.specs.CaseCalls.{ask_call, block, cand, candidate, coll, hash, keys, mc, mc', pop_call, recv, sc, slice, sync_call, top}
use Rattle.cache_rules.specs.Effects.{after, effect, run, step}
use Rattle.cache_rules.specs.Model.{Model, ShardModel, empty_model, with_masters}
use Rattle.cache_rules.specs.Refusals.{further, sound_model}

-- ===== what a line of the table looks at =====

-- an answer; or the block that is handed out, the records beside it, the count of ids taken and 'last'
pub data Shown : Type 0 where
  is_answer : Answer → Shown
  is_out : Entry → List BlockCacheEntry → ℕ → Bool → Shown

-- the flag of a pop's answer; false of any other answer
pub is_popped_last : Answer → Bool
is_popped_last (popped x last) = last
is_popped_last (refused n) = false
is_popped_last (stored both mismatch i r) = false
is_popped_last synced = false
is_popped_last no_change = false
is_popped_last (validated st) = false
is_popped_last (extracted x) = false
is_popped_last already_extracted = false
is_popped_last nothing = false
is_popped_last (peeked row v) = false
is_popped_last (tail_ids rows) = false
is_popped_last done = false

-- an answer, with the first records of the slice where it hands out blocks
pub show : List BlockCacheEntry → Answer → Option Extract → Shown
show out a None = is_answer a
show out a (Some x) = is_out x.block (take x.joined out) x.taken (is_popped_last a)

-- what the table looks at of an outcome
pub shown : Outcome → Shown
shown o = show o.slice o.answer (handed o.answer)

-- an answer for each call, and the model after the last
pub record Came : Type 0 where
  pub answers : List Shown
  pub leaves : Model

-- calls on an empty cache of zerostate 0, and what is expected
pub record Case : Type 0 where
  pub calls : List Call
  pub expected : Came

-- what the rules make of the calls
pub came : Case → Came
came c = record { answers = map shown (run (empty_model 0) c.calls); leaves = after (empty_model 0) c.calls }

-- what is expected of them
pub due : Case → Came
due c = c.expected

-- a case of calls, answers and the model left
pub case : List Call → List Shown → Model → Case
case cs xs m = record { calls = cs; expected = record { answers = xs; leaves = m } }

-- ===== the answers, entries and models that it speaks of =====

-- a range from a to b
pub rng : ℕ → ℕ → Option AppliedRange
rng a b = Some (record { start = a; end = b })

-- a refusal
pub is_refused : Refusal → Shown
is_refused n = is_answer (refused n)

-- a store's answer: both, mismatch, last collated id, range
pub is_stored : Bool → Bool → Option BlockId → Option AppliedRange → Shown
is_stored both mismatch i r = is_answer (stored both mismatch i r)

-- a store's answer with neither flag
pub nn : Option BlockId → Option AppliedRange → Shown
nn i r = is_stored false false i r

-- an entry with no anchor and payload 0
pub entry_of : BlockId → ℕ → List BlockId → List TopBlock → BlockCacheEntryData → Entry
entry_of i reference previous tops kind =
    record { id = i; previous = previous; tops = tops; anchor = None; reference = reference; payload = 0; kind = kind }

-- the kind of a block just collated, with processed-to anchor 0
pub as_collated : BlockCacheEntryData
as_collated = collated Collated false 0 0 0

-- the kind of a block just received
pub as_received : BlockCacheEntryData
as_received = received false None

-- a master of the table, collated with reference 5
pub collated_master : BlockId → Entry
collated_master i = entry_of i 5 [] [] as_collated

-- a master of the table, received with these top items
pub received_master : BlockId → List TopBlock → Entry
received_master i tops = entry_of i i.seqno [] tops as_received

-- range, mark, masters, last collated ids, shard groups; zerostate 0, no boundary
pub model_of : Option AppliedRange → Option ℕ → List Entry → List BlockId → List ShardModel → Model
model_of r k ms is gs = record { zerostate = 0; masters = record { entries = ms; mark = k; boundary = None }; ids = is; range = r; shards = gs }

-- the group of a block's shard, with these entries and this mark, no boundary
pub shard_of : BlockId → List Entry → Option ℕ → ShardModel
shard_of i es k = record { shard = id_shard i; group = record { entries = es; mark = k; boundary = None } }

-- the block of seqno n in the left half of workchain 0
pub lcol : ℕ → BlockId
lcol n = block (pos 0) 0x4000_0000_0000_0000 n 1

-- the block of seqno n in the right half of workchain 0
pub rcol : ℕ → BlockId
rcol n = block (pos 0) 0xc000_0000_0000_0000 n 1

-- C12 without its pop: s1, s2 and s3 are collated, m5 is received with the updated top s3
pub chain : List Call
chain = cand (sc 1) 4 [] [] ∷ cand (sc 2) 5 (sc 1 ∷ []) [] ∷ cand (sc 3) 5 (sc 2 ∷ []) [] ∷ recv (mc 5) (top 5 (sc 3) ∷ []) ∷ []

-- what those calls answer
pub chain_answers : List Shown
chain_answers = nn None None ∷ nn None None ∷ nn None None ∷ nn None (rng 5 5) ∷ []

-- s1 of C12 as it is cached: it names m4
pub s1 : Entry
s1 = entry_of (sc 1) 4 [] [] as_collated

-- s2, which follows s1 and names m5
pub s2 : Entry
s2 = entry_of (sc 2) 5 (sc 1 ∷ []) [] as_collated

-- s3, which follows s2 and names m5
pub s3 : Entry
s3 = entry_of (sc 3) 5 (sc 2 ∷ []) [] as_collated

-- m5, with its top item s3
pub m5 : Entry
m5 = received_master (mc 5) (top 5 (sc 3) ∷ [])

-- m5 received and nothing else
pub m5_alone : Model
m5_alone = model_of (rng 5 5) (Some 5) (received_master (mc 5) [] ∷ []) [] []

-- m5 collated, with its kind
pub m5_with : BlockCacheEntryData → Model
m5_with k = model_of None None (entry_of (mc 5) 5 [] [] k ∷ []) (mc 5 ∷ []) []

-- ===== the table =====

-- the cases; C8, C9 and C10 are two lists of calls each
pub table : List Case
table =
    -- C1
    case (ask_call (peek 0) ∷ pop_call 0 ∷ sync_call (mc 5) ∷ []) (is_answer nothing ∷ is_refused NothingApplied ∷ is_answer already_extracted ∷ []) (empty_model 0)
    -- C2
    ∷ case (recv (mc 5) [] ∷ []) (nn None (rng 5 5) ∷ []) m5_alone
    -- C3
    ∷ case (recv (mc 5) [] ∷ recv (mc 5) [] ∷ recv (mc 4) [] ∷ []) (nn None (rng 5 5) ∷ is_answer synced ∷ is_answer synced ∷ []) m5_alone
    -- C4
    ∷ case (coll (mc 5) ∷ coll (mc 5) ∷ coll (mc' 5) ∷ []) (nn (Some (mc 5)) None ∷ is_refused AlreadyStored ∷ is_refused AlreadyStored ∷ []) (m5_with as_collated)
    -- C5
    ∷ case (coll (mc 5) ∷ recv (mc 5) [] ∷ []) (nn (Some (mc 5)) None ∷ is_stored true false (Some (mc 5)) (rng 5 5) ∷ [])
    (model_of (rng 5 5) (Some 5) (entry_of (mc 5) 5 [] [] (collated Synced true 0 0 0) ∷ []) (mc 5 ∷ []) [])
    -- C6
    ∷ case (coll (mc 5) ∷ recv (mc' 5) [] ∷ []) (nn (Some (mc 5)) None ∷ is_stored false true None (rng 5 5) ∷ [])
    (model_of (rng 5 5) (Some 5) (received_master (mc' 5) [] ∷ []) [] [])
    -- C7
    ∷ case (recv (mc 5) [] ∷ coll (mc' 5) ∷ []) (nn None (rng 5 5) ∷ is_stored false true None (rng 5 5) ∷ []) m5_alone
    -- C8
    ∷ case (recv (mc 5) [] ∷ coll (mc 5) ∷ []) (nn None (rng 5 5) ∷ is_stored true false (Some (mc 5)) None ∷ [])
    (model_of None (Some 5) (entry_of (mc 5) 5 [] [] (received true None) ∷ []) (mc 5 ∷ []) [])
    ∷ case (recv (mc 5) [] ∷ coll (mc 5) ∷ pop_call 0 ∷ [])
    (nn None (rng 5 5) ∷ is_stored true false (Some (mc 5)) None ∷ is_out (entry_of (mc 5) 5 [] [] (received true None)) [] 0 true ∷ [])
    (model_of None (Some 5) [] (mc 5 ∷ []) [])
    -- C9
    ∷ case (recv (mc 5) [] ∷ recv (mc 6) [] ∷ recv (mc 7) [] ∷ pop_call 0 ∷ [])
    (nn None (rng 5 5) ∷ nn None (rng 5 6) ∷ nn None (rng 5 7) ∷ is_out (received_master (mc 5) []) [] 0 false ∷ [])
    (model_of (rng 6 7) (Some 7) (received_master (mc 6) [] ∷ received_master (mc 7) [] ∷ []) [] [])
    ∷ case (recv (mc 5) [] ∷ recv (mc 6) [] ∷ recv (mc 7) [] ∷ pop_call 0 ∷ pop_call 7 ∷ [])
    (nn None (rng 5 5) ∷ nn None (rng 5 6) ∷ nn None (rng 5 7) ∷ is_out (received_master (mc 5) []) [] 0 false ∷ is_out (received_master (mc 7) []) [] 0 true ∷ [])
    (model_of None (Some 7) (received_master (mc 6) [] ∷ []) [] [])
    -- C10
    ∷ case (coll (mc 5) ∷ ask_call (store_validation (mc 5) (complete 1 9)) ∷ ask_call (store_validation (mc 5) (complete 2 12)) ∷ [])
    (nn (Some (mc 5)) None ∷ is_answer (validated Validated) ∷ is_answer no_change ∷ []) (m5_with (collated Validated false 1 9 0))
    ∷ case (coll (mc 5) ∷ ask_call (store_validation (mc 5) (complete 1 9)) ∷ ask_call (store_validation (mc 5) skipped) ∷ [])
    (nn (Some (mc 5)) None ∷ is_answer (validated Validated) ∷ is_answer (validated ValidationSkipped) ∷ [])
    (m5_with (collated ValidationSkipped false 0 0 0))
    -- C11
    ∷ case (coll (mc 5) ∷ coll (mc 6) ∷ coll (mc 7) ∷ ask_call (set_boundary (keys (key (mc 7) ∷ []))) ∷ ask_call collect ∷ [])
    (nn (Some (mc 5)) None ∷ nn (Some (mc 6)) None ∷ nn (Some (mc 7)) None ∷ is_answer done ∷ is_answer done ∷ [])
    (with_masters (record { entries = collated_master (mc 7) ∷ []; mark = None; boundary = Some (key (mc 7)) }) (model_of None None [] (mc 6 ∷ mc 7 ∷ []) []))
    -- C12
    ∷ case (chain ++ (pop_call 0 ∷ [])) (chain_answers ++ (is_out m5 (pack_entry s2 ∷ pack_entry s3 ∷ []) 3 true ∷ []))
    (model_of None (Some 5) [] [] (shard_of (sc 1) [] (Some 3) ∷ []))
    -- C13
    ∷ case (cand (sc 4) 5 [] [] ∷ cand (lcol 5) 5 (sc 4 ∷ []) [] ∷ cand (rcol 5) 5 (sc 4 ∷ []) [] ∷ cand (rcol 6) 5 (rcol 5 ∷ []) []
    ∷ recv (mc 5) (top 5 (lcol 5) ∷ top 5 (rcol 6) ∷ []) ∷ pop_call 0 ∷ [])
    (nn None None ∷ nn None None ∷ nn None None ∷ nn None None ∷ nn None (rng 5 5)
    ∷ is_out (received_master (mc 5) (top 5 (lcol 5) ∷ top 5 (rcol 6) ∷ []))
    (pack_entry (entry_of (rcol 5) 5 (sc 4 ∷ []) [] as_collated) ∷ pack_entry (entry_of (sc 4) 5 [] [] as_collated)
    ∷ pack_entry (entry_of (rcol 6) 5 (rcol 5 ∷ []) [] as_collated) ∷ pack_entry (entry_of (lcol 5) 5 (sc 4 ∷ []) [] as_collated) ∷ [])
    5 true
    ∷ [])
    (model_of None (Some 5) [] [] (shard_of (lcol 5) [] (Some 5) ∷ shard_of (sc 4) [] (Some 4) ∷ shard_of (rcol 5) [] (Some 6) ∷ []))
    -- C14
    ∷ case (chain ++ (ask_call (read_tail_ids (key (mc 5))) ∷ []))
    (chain_answers ++ (is_answer (tail_ids (record { shard = id_shard (mc 5); id = Some (mc 5); previous = [] }
    ∷ record { shard = id_shard (sc 2); id = Some (sc 2); previous = sc 1 ∷ [] } ∷ [])) ∷ []))
    (model_of (rng 5 5) (Some 5) (m5 ∷ []) [] (shard_of (sc 1) (s1 ∷ s2 ∷ s3 ∷ []) None ∷ []))
    ∷ []

-- every case comes out as expected
pub cases : map came table ≡ map due table
unfolding step less_shard less_id run after sound_model effect further padded zero_id zero_top zero_entry hash block mc mc' sc candidate ask_call cand coll recv top slice pop_call sync_call keys is_popped_last show shown came due case rng is_refused is_stored nn entry_of as_collated as_received collated_master received_master model_of shard_of lcol rcol chain chain_answers s1 s2 s3 m5 m5_alone m5_with table
cases = refl
