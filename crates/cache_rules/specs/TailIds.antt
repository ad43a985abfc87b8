-- RULES.md, Tail ids: what each id of the walk gives and queues, the walk, and the rows that come of it.
-- Assumes nothing.
use Rattle.std.specs.List.{find, flat_map, fold}
use Rattle.std.specs.Prelude.{Bool, ◌||◌, false, not, true, List, [], ◌++◌, ◌∷◌, max, suc, zero, ℕ, eqb, Option, None, Some, map, cond, is_some}
use Rattle.block_records.specs.declared.block_id.BlockId.{BlockId}
use Rattle.block_records.specs.rules.BlockId.{id_shard, key, less_id, less_shard, same_shard}
use Rattle.block_records.specs.rules.Entry.{Entry}
use Rattle.block_records.specs.rules.Lists.{put}
use Rattle.cache_rules.specs.Calls.{TailRow}
use Rattle.cache_rules.specs.Extraction.{top_id}
use Rattle.cache_rules.specs.Model.{ShardModel, block_under}

-- rows stand by shard
abbrev pub tail_before : TailRow → TailRow → Bool
tail_before a b = less_shard a.shard b.shard

-- the order of ids, none before all of them
abbrev pub less_option : Option BlockId → Option BlockId → Bool
less_option None None = false
less_option None (Some b) = true
less_option (Some a) None = false
less_option (Some a) (Some b) = less_id a b

-- a row beside what is held for its shard: it goes in if nothing is held, if what is held has no id, or if its own id is less
abbrev pub hold_over : TailRow → Option TailRow → List TailRow → List TailRow
hold_over t None rows = put tail_before t rows
hold_over t (Some h) rows = cond (not (is_some h.id) || less_option t.id h.id) (put tail_before t rows) rows

-- a row brought among the rows
abbrev pub hold : List TailRow → TailRow → List TailRow
hold rows t = hold_over t (find (λ (h : TailRow). same_shard h.shard t.shard) rows) rows

-- the row of an id, by what is cached under its key: a block that is a top or names M gives the id and the block's previous ids; a top that is not
-- cached gives no id, and itself as the previous one
abbrev pub found_gives : ℕ → Bool → BlockId → Option Entry → List TailRow
found_gives m as_top i None = cond as_top (record { shard = id_shard i; id = None; previous = i ∷ [] } ∷ []) []
found_gives m as_top i (Some e) = cond (as_top || eqb e.reference m) (record { shard = id_shard i; id = Some i; previous = e.previous } ∷ []) []

-- the previous ids of a cached block that is a top or names M
abbrev pub found_queues : ℕ → Bool → Option Entry → List BlockId
found_queues m as_top None = []
found_queues m as_top (Some e) = cond (as_top || eqb e.reference m) e.previous []

-- the row of an id of the walk; none of seqno 0
abbrev pub gives : List ShardModel → ℕ → Bool → BlockId → List TailRow
gives gs m as_top i = cond (eqb i.seqno 0) [] (found_gives m as_top i (block_under gs (key i)))

-- the ids that an id of the walk queues; none of seqno 0
abbrev pub queues : List ShardModel → ℕ → Bool → BlockId → List BlockId
queues gs m as_top i = cond (eqb i.seqno 0) [] (found_queues m as_top (block_under gs (key i)))

-- an id that waits, and whether it is a top
pub record Waiting : Type 0 where
  pub id : BlockId
  pub as_top : Bool

-- an id as it waits
abbrev pub waits : Bool → BlockId → Waiting
waits as_top i = record { id = i; as_top = as_top }

-- the walk as a queue: the id in front gives its row, if it has one, and what it queues goes to the back, never as a top
pub data Fifo (gs : List ShardModel) (m : ℕ) : List Waiting → List TailRow → Type 0 where
  fifo_end : Fifo gs m [] []
  fifo_next : (i : BlockId) (as_top : Bool) (rest : List Waiting) (rows : List TailRow) →
      Fifo gs m (rest ++ map (waits false) (queues gs m as_top i)) rows → Fifo gs m (waits as_top i ∷ rest) (gives gs m as_top i ++ rows)

-- The same computed by levels, at most d of them: the ids, then all that they queued, and so on. Where each previous id is below its block, the
-- seqnos fall from level to level, so that the highest one bounds their number.
abbrev pub levels : ℕ → List ShardModel → ℕ → Bool → List BlockId → List TailRow
levels zero gs m as_top ids = []
levels (suc d) gs m as_top [] = []
levels (suc d) gs m as_top (i ∷ ids) = flat_map (gives gs m as_top) (i ∷ ids) ++ levels d gs m false (flat_map (queues gs m as_top) (i ∷ ids))

-- the highest seqno of some ids, 0 without ids
abbrev pub highest : List BlockId → ℕ
highest [] = 0
highest (i ∷ ids) = max i.seqno (highest ids)

-- the ids of all M's top items
abbrev pub top_ids : Entry → List BlockId
top_ids M = map top_id M.tops

-- the row of M itself
abbrev pub first_row : Entry → TailRow
first_row M = record { shard = id_shard M.id; id = Some M.id; previous = M.previous }

-- the rows of M: its own, and those of the walk brought in one by one
abbrev pub tails_of : List ShardModel → Entry → List TailRow
tails_of gs M = fold hold (first_row M ∷ []) (levels (suc (highest (top_ids M))) gs M.id.seqno true (top_ids M))
