-- RULES.md, Tail ids: a walk that takes each queued id once; it gives the same rows (proofs/TailAnswer).
-- Assumes nothing.
use Rattle.std.specs.List.{find, flat_map, fold}
use Rattle.std.specs.Prelude.{Bool, false, true, List, [], ◌++◌, ◌∷◌, suc, zero, ℕ, cond, is_some}
use Rattle.block_records.specs.declared.block_id.BlockId.{BlockId}
use Rattle.block_records.specs.rules.BlockId.{same_id}
use Rattle.block_records.specs.rules.Entry.{Entry}
use Rattle.cache_rules.specs.Calls.{TailRow}
use Rattle.cache_rules.specs.Extraction.{previous_cached}
use Rattle.cache_rules.specs.Model.{ShardModel}
use Rattle.cache_rules.specs.TailIds.{first_row, gives, hold, queues, top_ids}

-- the id is one of these
abbrev pub knows : List BlockId → BlockId → Bool
knows ids i = is_some (find (same_id i) ids)

-- those ids that are not known yet, each once
abbrev pub unknown_ids : List BlockId → List BlockId → List BlockId
unknown_ids known [] = []
unknown_ids known (p ∷ ps) = cond (knows known p) (unknown_ids known ps) (p ∷ unknown_ids (known ++ (p ∷ [])) ps)

-- the ids taken, and those that wait
pub record OnceWalk : Type 0 where
  pub done : List BlockId
  pub queue : List BlockId

-- the first id is taken; of those that it queues, the ones that neither wait nor were taken go to the end
abbrev pub once_id : List ShardModel → ℕ → OnceWalk → List BlockId → OnceWalk
once_id gs m w [] = w
once_id gs m w (i ∷ rest) =
    record { done = w.done ++ (i ∷ []); queue = rest ++ unknown_ids ((w.done ++ (i ∷ [])) ++ rest) (queues gs m false i) }

-- one turn of the walk
abbrev pub once_one : List ShardModel → ℕ → OnceWalk → OnceWalk
once_one gs m w = once_id gs m w w.queue

-- k turns
abbrev pub once_times : ℕ → List ShardModel → ℕ → OnceWalk → OnceWalk
once_times zero gs m w = w
once_times (suc k) gs m w = once_times k gs m (once_one gs m w)

-- before the first turn: what all tops queue, each id once
abbrev pub once_begin : List ShardModel → Entry → OnceWalk
once_begin gs M = record { done = []; queue = unknown_ids [] (flat_map (queues gs M.id.seqno true) (top_ids M)) }

-- The rows of M: its own, those of its tops, then those of each id queued. No more ids are queued than the cache holds previous ids.
abbrev pub tails_once : List ShardModel → Entry → List TailRow
tails_once gs M =
    fold hold (fold hold (first_row M ∷ []) (flat_map (gives gs M.id.seqno true) (top_ids M)))
    (flat_map (gives gs M.id.seqno false) (once_times (previous_cached gs) gs M.id.seqno (once_begin gs M)).done)
