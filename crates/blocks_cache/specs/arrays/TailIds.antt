-- RULES.md, Tail ids: the rows as they are held, and what the code does to them and to the ids that wait, for every input, sound or not. On packed
-- rows and a packed cache this is the rule, packed (proofs/arrays/TailIdsLaws).
-- Assumes nothing.
use Rattle.blocks_group.specs.arrays.Group.{block_at}
use Rattle.blocks_group.specs.layout.Block.{master_parts}
use Rattle.block_records.specs.declared.questions.Refusal.{Refusal}
use Rattle.cache_rules.specs.TailIds.{less_option}
use Rattle.block_records.specs.declared.questions.Refusal.TheVariants.{NoMaster}
use Rattle.std.specs.List.{find, fold}
use Rattle.std.specs.Prelude.{ℕ, zero, suc, ◌+◌, Bool, true, false, ◌||◌, List, [], ◌∷◌, ◌++◌, length, ◌==◌, nat_eq, nat_le, nat_lt, slice_index_or, slice_set, Option, None, Some, map, cond, is_some, Err, Ok, Result, is_none}
use Rattle.block_records.specs.declared.block_id.BlockId.{BlockId}
use Rattle.block_records.specs.declared.block_id.ShardIdent.{ShardIdent}
use Rattle.block_records.specs.declared.entry.BlockCacheEntry.{BlockCacheEntry}
use Rattle.block_records.specs.declared.entry.MasterBlock.{MasterBlock}
use Rattle.block_records.specs.declared.listed.Listed.{Listed}
use Rattle.block_records.specs.layout.Listed.{PrevIds, listed, packed, put_listed}
use Rattle.blocks_cache.specs.declared.cache.Cache.{Cache}
use Rattle.blocks_cache.specs.declared.tail_ids.TailIdsRow.{TailIdsRow}
use Rattle.blocks_cache.specs.declared.tail_ids.TailWalk.{TailWalk}
use Rattle.block_records.specs.arrays.Place.{place}
use Rattle.block_records.specs.layout.Entry.{pack_prev_ids}
use Rattle.block_records.specs.layout.Zeros.{zero_id, zero_prev_ids, zero_shard}
use Rattle.block_records.specs.rules.BlockId.{id_shard, less_shard, listed_prev_ids, listed_tops, same_shard}
use Rattle.block_records.specs.rules.Limits.{queued_limit, rows_limit}
use Rattle.blocks_cache.specs.arrays.Lookup.{cached_block}
use Rattle.cache_rules.specs.Calls.{Answer, TailRow, refused, tail_ids}
use Rattle.cache_rules.specs.Extraction.{top_id}
use Rattle.cache_rules.specs.TailIdsOnce.{unknown_ids}

-- ===== the rows =====

-- the rows, 17 at most
abbrev pub TailRows : Type 0
TailRows = Listed TailIdsRow rows_limit

-- a row as it is held: zeros beyond the previous ids
abbrev pub pack_tail : TailRow → TailIdsRow
pack_tail t = record { shard = t.shard; id = t.id; prev_ids = pack_prev_ids t.previous }

-- what a row says
abbrev pub view_tail : TailIdsRow → TailRow
view_tail r = record { shard = r.shard; id = r.id; previous = listed_prev_ids r.prev_ids }

-- a row of zeros
unfoldable pub zero_tail : TailIdsRow
zero_tail = record { shard = zero_shard; id = None; prev_ids = zero_prev_ids }

-- these rows, and zeros after them
abbrev pub with_rows : List TailIdsRow → TailRows
with_rows rs = packed rows_limit zero_tail rs

-- the rows of the rules, packed
abbrev pub pack_tails : List TailRow → TailRows
pack_tails ts = with_rows (map pack_tail ts)

-- the rows below the count; a count past the 17 places lists them all
abbrev pub listed_tails : TailRows → List TailIdsRow
listed_tails t = listed t

-- what the rows say
abbrev pub view_tails : TailRows → List TailRow
view_tails t = map view_tail (listed_tails t)

-- ===== a row held =====

-- rows stand by shard
abbrev pub row_before : TailIdsRow → TailIdsRow → Bool
row_before a b = less_shard a.shard b.shard

-- a row of a lower shard
abbrev pub row_below : ShardIdent → TailIdsRow → Bool
row_below s r = less_shard r.shard s

-- a row of the shard
abbrev pub row_at : ShardIdent → TailIdsRow → Bool
row_at s r = same_shard r.shard s

-- where a shard's row stands, or the place where it would go in
abbrev pub row_place : ShardIdent → TailRows → Result ℕ ℕ
row_place s t = place (row_below s) (row_at s) (listed_tails t)

-- the row put in by shard; one of the same shard is replaced; nothing changes where they would be more than 17
abbrev pub put_row : TailIdsRow → TailRows → TailRows
put_row r t = put_listed rows_limit zero_tail row_before r t

-- an id takes the place of one held: that one is absent, or this one comes before it
abbrev pub replaces_last : Option BlockId → Option BlockId → Bool
replaces_last a h = is_none h || less_option a h

-- the same of two rows
abbrev pub replaces_row : TailIdsRow → TailIdsRow → Bool
replaces_row r h = replaces_last r.id h.id

-- the row in the place of another
abbrev pub set_row : ℕ → TailIdsRow → TailRows → TailRows
set_row k r t = record { count = t.count; items = slice_set t.items k r }

-- by what stands at the place of the row's shard
abbrev pub row_held_at : TailIdsRow → Result ℕ ℕ → TailRows → TailRows
row_held_at r (Ok k) t = cond (replaces_row r (slice_index_or t.items k zero_tail)) (set_row k r t) t
row_held_at r (Err k) t = put_row r t

-- the row held for its shard
unfoldable pub hold_row : TailIdsRow → TailRows → TailRows
hold_row r t = row_held_at r (row_place r.shard t) t

-- ===== what an id gives and queues =====

-- the row of a cached block: the id that was looked up, and the block's previous ids
abbrev pub cached_row : BlockId → PrevIds → TailIdsRow
cached_row i ps = record { shard = id_shard i; id = (Some i); prev_ids = ps }

-- the row of a top that is not cached: no id, and the top itself as the previous one
abbrev pub missing_row : BlockId → TailIdsRow
missing_row i = record { shard = id_shard i; id = None; prev_ids = pack_prev_ids (i ∷ []) }

-- a row or none, and the previous ids that are queued
pub record TailStep : Type 0 where
  pub given : Bool
  pub row : TailIdsRow
  pub queued : PrevIds

-- nothing is given, nothing queued
abbrev pub no_step : TailStep
no_step = record { given = false; row = zero_tail; queued = zero_prev_ids }

-- the row of a cached block is given, and the previous ids in it are queued
abbrev pub cached_step : BlockId → PrevIds → TailStep
cached_step i ps = record { given = true; row = cached_row i ps; queued = ps }

-- the row of a missing top is given
abbrev pub missing_step : BlockId → TailStep
missing_step i = record { given = true; row = missing_row i; queued = zero_prev_ids }

-- by the block cached under the id's key: one that is a top or names M gives its row and queues its previous ids; a top that is not cached gives its
-- row
abbrev pub found_step : ℕ → Bool → BlockId → Option BlockCacheEntry → TailStep
found_step m as_top i (Some b) = cond (as_top || b.ref_by_mc_seqno == m) (cached_step i b.prev_ids) no_step
found_step m as_top i None = cond as_top (missing_step i) no_step

-- what an id of the walk gives and queues; nothing of seqno 0
unfoldable pub step_of : Cache → ℕ → Bool → BlockId → TailStep
step_of c m as_top i = cond (i.seqno == 0) no_step (found_step m as_top i (cached_block i c))

-- the row, where one is given
abbrev pub hold_given : TailStep → TailRows → TailRows
hold_given s t = cond s.given (hold_row s.row t) t

-- ===== the ids that wait =====

-- those that are not known yet, each once; none of them where known and new together are more than 256
unfoldable pub fresh_ids : List BlockId → List BlockId → List BlockId
fresh_ids known ps = cond (nat_le (length known + length (unknown_ids known ps)) queued_limit) (unknown_ids known ps) []

-- whether a number is among others
abbrev pub has_number : List ℕ → ℕ → Bool
has_number ns n = is_some (find (λ (x : ℕ). nat_eq x n) ns)

-- ===== the walk =====

-- before the first id: the master's own row
abbrev pub first_state : TailIdsRow → TailWalk
first_state r = record { tails = with_rows (r ∷ []); queue = [] }

-- a row given is held, and those of the previous ids that are not known are queued
abbrev pub stepped : TailStep → TailWalk → TailWalk
stepped s w = record { tails = hold_given s w.tails; queue = w.queue ++ fresh_ids w.queue (listed_prev_ids s.queued) }

-- one id of the walk
unfoldable pub take_tail_id : Cache → ℕ → Bool → TailWalk → BlockId → TailWalk
take_tail_id c m as_top w i = stepped (step_of c m as_top i) w

-- the id at place j of the queue, if one stands there
abbrev pub take_queued_at : Cache → ℕ → ℕ → TailWalk → TailWalk
take_queued_at c m j w = cond (nat_lt j (length w.queue)) (take_tail_id c m false w (slice_index_or w.queue j zero_id)) w

-- those at k places of the queue, from place j on
unfoldable pub take_queued : ℕ → Cache → ℕ → ℕ → TailWalk → TailWalk
take_queued zero c m j w = w
take_queued (suc k) c m j w = take_queued k c m (j + 1) (take_queued_at c m j w)

-- the master's own row, then its tops one by one, then each id of the queue
unfoldable pub block_tails : MasterBlock → Cache → TailRows
block_tails b c =
    (take_queued queued_limit c b.entry.block_id.seqno 0
    (fold (take_tail_id c b.entry.block_id.seqno true) (first_state (cached_row b.entry.block_id b.entry.prev_ids))
    (map top_id (listed_tops b.tops)))).tails

-- ===== what an answer says =====

-- rows, or the refusal
abbrev pub tails_say : Result TailRows Refusal → Answer
tails_say (Ok t) = tail_ids (view_tails t)
tails_say (Err n) = refused n

-- the rows with zeros in what they do not use
abbrev pub zeroed_tails : Result TailRows Refusal → Result TailRows Refusal
zeroed_tails (Ok t) = Ok (pack_tails (view_tails t))
zeroed_tails (Err n) = Err n

-- ===== tail ids =====

-- the tail ids of the master block found; 12 where none was found
abbrev pub tails_at : Option MasterBlock → Cache → Result TailRows Refusal
tails_at None c = Err NoMaster
tails_at (Some b) c = Ok (block_tails b c)

-- no row up to the zerostate's seqno; above it the tail ids of the master at the seqno
unfoldable pub read_tails : ℕ → Cache → Result TailRows Refusal
read_tails n c = cond (nat_le n c.zerostate_mc_seqno) (Ok (with_rows [])) (tails_at (block_at master_parts n c.masters) c)
