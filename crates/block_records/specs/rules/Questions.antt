-- RULES.md, Questions: 2 to 4, of a record's id, reference seqno, previous ids and top items, and of keys.
-- Assumes nothing.
use Rattle.std.specs.List.{list_all}
use Rattle.std.specs.Prelude.{Bool, ◌&&◌, ◌||◌, not, List, [], ◌∷◌, ℕ, eqb, leb, ltb, length, Option, None, Some, cond, Result, Ok, Err, ⊤}
use Rattle.std.specs.Bool.{beq}
use Rattle.block_records.specs.declared.block_id.BlockId.{BlockId}
use Rattle.block_records.specs.declared.block_id.BlockIdShort.{BlockIdShort}
use Rattle.block_records.specs.declared.questions.Refusal.{Refusal}
use Rattle.block_records.specs.declared.questions.Refusal.TheVariants.{AlreadyStored, BeforeZerostate, ForeignReference, NoIdRoom, NoMaster, NoRoom, NothingApplied, SeqnoLimit, SliceTooShort, TooMany, Unsound, WrongLink}
use Rattle.block_records.specs.declared.store_records.BlockCandidate.{BlockCandidate}
use Rattle.block_records.specs.declared.store_records.ReceivedBlock.{ReceivedBlock}
use Rattle.block_records.specs.declared.top_block.TopBlock.{TopBlock}
use Rattle.block_records.specs.layout.Listed.{Keys, PrevIds, TopBlocks}
use Rattle.block_records.specs.rules.BlockId.{id_shard, is_masterchain, listed_keys, listed_prev_ids, listed_tops}
use Rattle.block_records.specs.rules.Entry.{Entry}
use Rattle.block_records.specs.rules.Limits.{keys_limit, prev_ids_limit, tops_limit}

-- the highest number of 32 bits; seqnos lie below it
abbrev pub seqno_limit : ℕ
seqno_limit = 4_294_967_295

-- a seqno below the limit
abbrev pub seqno_fits : ℕ → Bool
seqno_fits n = ltb n seqno_limit

-- an id with such a seqno
abbrev pub id_fits : BlockId → Bool
id_fits i = seqno_fits i.seqno

-- a key with such a seqno
abbrev pub key_fits : BlockIdShort → Bool
key_fits k = seqno_fits k.seqno

-- a top item whose reference and id have such seqnos
abbrev pub top_fits : TopBlock → Bool
top_fits t = seqno_fits t.ref_by_mc_seqno && id_fits t.block_id

-- 2, of a record: its id, reference, previous ids and top items all have such seqnos
abbrev pub seqnos_fit : BlockId → ℕ → List BlockId → List TopBlock → Bool
seqnos_fit i reference previous tops = id_fits i && (seqno_fits reference && (list_all id_fits previous && list_all top_fits tops))

-- 2, of keys
abbrev pub keys_fit : List BlockIdShort → Bool
keys_fit ks = list_all key_fits ks

-- 3, of a record, by its counts: previous ids and top items are no more than their limits, and only a master has top items
abbrev pub counts_fit : BlockId → ℕ → ℕ → Bool
counts_fit i previous tops = leb previous prev_ids_limit && (leb tops tops_limit && (is_masterchain (id_shard i) || eqb tops 0))

-- 3, of keys
abbrev pub keys_count_fits : ℕ → Bool
keys_count_fits n = leb n keys_limit

-- 4, of a previous id: it is below its block in seqno, and both or neither are masters
abbrev pub previous_fits : BlockId → BlockId → Bool
previous_fits i p = ltb p.seqno i.seqno && beq (is_masterchain (id_shard p)) (is_masterchain (id_shard i))

-- 4, of a top item: it is no master
abbrev pub top_outside : TopBlock → Bool
top_outside t = not (is_masterchain (id_shard t.block_id))

-- 4, of a record: all its previous ids and top items
abbrev pub links_fit : BlockId → List BlockId → List TopBlock → Bool
links_fit i previous tops = list_all (previous_fits i) previous && list_all top_outside tops

-- ===== questions in a row: the first no gives its refusal =====

-- the number of a question, by which the refusal of its no is known
abbrev pub refusal_number : Refusal → ℕ
refusal_number Unsound = 1
refusal_number SeqnoLimit = 2
refusal_number TooMany = 3
refusal_number WrongLink = 4
refusal_number BeforeZerostate = 5
refusal_number ForeignReference = 6
refusal_number AlreadyStored = 7
refusal_number NoRoom = 8
refusal_number NoIdRoom = 9
refusal_number SliceTooShort = 10
refusal_number NothingApplied = 11
refusal_number NoMaster = 12

-- a question: what its no refuses by, and whether its answer is yes
pub record Question : Type 0 where
  pub refusal : Refusal
  pub yes? : Bool

-- a question of a test
abbrev pub ask : Refusal → Bool → Question
ask r b = record { refusal = r; yes? = b }

-- the refusal by the first question whose answer is no
abbrev pub first_no : List Question → Option Refusal
first_no [] = None
first_no (q ∷ qs) = cond q.yes? (first_no qs) (Some q.refusal)

-- passed, or the refusal
abbrev pub passed : Option Refusal → Result ⊤ Refusal
passed None = Ok tt
passed (Some r) = Err r

-- A record's own questions, of what is listed. With a count past its capacity all places are listed, so that 2 asks of each of them before 3 refuses
-- the count.
abbrev pub record_questions : BlockId → ℕ → PrevIds → TopBlocks → List Question
record_questions i reference previous tops =
    ask SeqnoLimit (seqnos_fit i reference (listed_prev_ids previous) (listed_tops tops)) ∷ ask TooMany (counts_fit i previous.count tops.count)
    ∷ ask WrongLink (links_fit i (listed_prev_ids previous) (listed_tops tops)) ∷ []

-- of a candidate
abbrev pub candidate_questions : BlockCandidate → List Question
candidate_questions c = record_questions c.block_id c.ref_by_mc_seqno c.prev_ids c.top_blocks

-- of a received block, whose reference seqno is that of `ref_block_id`
abbrev pub received_questions : ReceivedBlock → List Question
received_questions r = record_questions r.block_id r.ref_block_id.seqno r.prev_ids r.top_blocks

-- of keys
abbrev pub keys_questions : Keys → List Question
keys_questions ks = ask SeqnoLimit (keys_fit (listed_keys ks)) ∷ ask TooMany (keys_count_fits ks.count) ∷ []

-- a record's own questions asked in their order
abbrev pub check_record : BlockId → ℕ → PrevIds → TopBlocks → Result ⊤ Refusal
check_record i reference previous tops = passed (first_no (record_questions i reference previous tops))

-- the same of a candidate
abbrev pub check_candidate : BlockCandidate → Result ⊤ Refusal
check_candidate c = passed (first_no (candidate_questions c))

-- the same of a received block
abbrev pub check_received : ReceivedBlock → Result ⊤ Refusal
check_received r = passed (first_no (received_questions r))

-- the same of keys
abbrev pub check_keys : Keys → Result ⊤ Refusal
check_keys ks = passed (first_no (keys_questions ks))

-- ===== of an entry =====

-- the answers to 2, 3 and 4 are yes, its lists counted by their lengths
abbrev pub entry_fits : Entry → Bool
entry_fits e =
    seqnos_fit e.id e.reference e.previous e.tops && (counts_fit e.id (length e.previous) (length e.tops)
    && links_fit e.id e.previous e.tops)
