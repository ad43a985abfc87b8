-- RULES.md, The whole cache and Answers: what can be asked of a cache, and what it answers.
-- Assumes nothing.
use Rattle.block_records.specs.declared.range.AppliedRange.{AppliedRange}
use Rattle.block_records.specs.declared.entry.CandidateStatus.{CandidateStatus}
use Rattle.block_records.specs.declared.questions.Refusal.{Refusal}
use Rattle.std.specs.Prelude.{Bool, List, [], ℕ, Option, None, Some}
use Rattle.block_records.specs.declared.block_id.BlockId.{BlockId}
use Rattle.block_records.specs.declared.block_id.BlockIdShort.{BlockIdShort}
use Rattle.block_records.specs.declared.block_id.ShardIdent.{ShardIdent}
use Rattle.block_records.specs.declared.entry.BlockCacheEntry.{BlockCacheEntry}
use Rattle.block_records.specs.declared.store_records.BlockCandidate.{BlockCandidate}
use Rattle.block_records.specs.layout.Listed.{Keys}
use Rattle.block_records.specs.declared.store_records.ReceivedBlock.{ReceivedBlock}
use Rattle.block_records.specs.rules.Entry.{Entry}
use Rattle.block_records.specs.rules.Lists.{last}
use Rattle.cache_rules.specs.Model.{Model}

-- the outcome of a validation: complete, with its signature handle and total weight, or skipped
pub data Validation : Type 0 where
  complete : (handle weight : ℕ) → Validation
  skipped : Validation

-- what is asked of a cache, with its arguments
pub data Request : Type 0 where
  store_collated : BlockCandidate → Request
  store_received : ReceivedBlock → Request
  store_validation : BlockId → Validation → Request
  pop : ℕ → Request
  sync : BlockId → Request
  peek : ℕ → Request
  read_tail_ids : BlockIdShort → Request
  set_boundary : Keys → Request
  collect : Request
  remove_next_collated : Keys → Request

-- A request and the slice that is lent with it. Pop and sync extraction write to it; any other request leaves it.
pub record Call : Type 0 where
  pub request : Request
  pub lent : List BlockCacheEntry

-- a request with which no slice is lent
abbrev pub unlent : Request → Call
unlent q = record { request = q; lent = [] }

-- M, the number of shard blocks beside it, and the number of ids that the walk took
pub record Extract : Type 0 where
  pub block : Entry
  pub joined : ℕ
  pub taken : ℕ

-- what a peek shows of a block
pub record Row : Type 0 where
  pub id : BlockId
  pub reference : ℕ
  pub payload : ℕ

-- what a peek shows of the starting items: a row for each up to the first that gives none, and that one's key
pub record View : Type 0 where
  pub rows : List Row
  pub missing : Option BlockIdShort

-- of a shard: an id or absent, and its previous ids
pub record TailRow : Type 0 where
  pub shard : ShardIdent
  pub id : Option BlockId
  pub previous : List BlockId

-- what a cache answers: the refusal by a question whose answer is no, or one of the request's own cases
pub data Answer : Type 0 where
  refused : Refusal → Answer
  stored : (both mismatch : Bool) → Option BlockId → Option AppliedRange → Answer
  synced : Answer
  no_change : Answer
  validated : (status : CandidateStatus) → Answer
  popped : Extract → (last : Bool) → Answer
  extracted : Extract → Answer
  already_extracted : Answer
  nothing : Answer
  peeked : Row → View → Answer
  tail_ids : List TailRow → Answer
  done : Answer

-- what an answer hands out
abbrev pub handed : Answer → Option Extract
handed (refused n) = None
handed (stored both mismatch i r) = None
handed synced = None
handed no_change = None
handed (validated st) = None
handed (popped x last) = Some x
handed (extracted x) = Some x
handed already_extracted = None
handed nothing = None
handed (peeked row view) = None
handed (tail_ids rows) = None
handed done = None

-- the refusal that an answer gives
abbrev pub refusal : Answer → Option Refusal
refusal (refused n) = Some n
refusal (stored both mismatch i r) = None
refusal synced = None
refusal no_change = None
refusal (validated st) = None
refusal (popped x last) = None
refusal (extracted x) = None
refusal already_extracted = None
refusal nothing = None
refusal (peeked row v) = None
refusal (tail_ids rows) = None
refusal done = None

-- what a request that is not refused leaves and answers, and the blocks that it hands out
pub record Effect : Type 0 where
  pub model : Model
  pub answer : Answer
  pub blocks : List Entry

-- what a call leaves and answers, with the slice that was lent
pub record Outcome : Type 0 where
  pub model : Model
  pub answer : Answer
  pub slice : List BlockCacheEntry
