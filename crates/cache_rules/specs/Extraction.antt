-- RULES.md, Extraction and Peek: the walk from M's top items through previous ids, and the rows that a peek shows.
-- Assumes nothing.
use Rattle.std.specs.Prelude.{Bool, ◌&&◌, List, [], ◌++◌, ◌∷◌, ◌+◌, suc, zero, ℕ, eqb, ltb, length, Option, None, Some, map, cond, filter}
use Rattle.block_records.specs.declared.block_id.BlockId.{BlockId}
use Rattle.block_records.specs.declared.top_block.TopBlock.{TopBlock}
use Rattle.block_records.specs.rules.BlockId.{key}
use Rattle.block_records.specs.rules.Entry.{Entry}
use Rattle.block_records.specs.rules.Lists.{total}
use Rattle.cache_rules.specs.Calls.{View}
use Rattle.cache_rules.specs.Model.{Model, ShardModel, block_under, refresh_shard, remove_block}

-- a top item from which extraction starts: updated, its `ref_by_mc_seqno` higher than the zerostate's seqno
abbrev pub starts : ℕ → TopBlock → Bool
starts zerostate t = t.updated && ltb zerostate t.ref_by_mc_seqno

-- M's top items of that sort, as they come
abbrev pub starting_items : ℕ → Entry → List TopBlock
starting_items zerostate M = filter (starts zerostate) M.tops

-- the block id of a top item
abbrev pub top_id : TopBlock → BlockId
top_id t = t.block_id

-- the block ids of M's starting items
abbrev pub starting_ids : ℕ → Entry → List BlockId
starting_ids zerostate M = map top_id (starting_items zerostate M)

-- a walk so far: the ids that wait, the shard groups, the blocks of the subgraph with the newest in front, the number of ids taken
pub record Walk : Type 0 where
  pub waiting : List BlockId
  pub shards : List ShardModel
  pub joined : List Entry
  pub taken : ℕ

-- the first id is taken, by what is cached under its key: a block that names M goes over to the subgraph, its previous ids go to the end of those
-- that wait, and the mark of the group is refreshed by the id's seqno; any other block is lost
abbrev pub take_found : ℕ → BlockId → List BlockId → Walk → Option Entry → Walk
take_found m i rest w None = record { waiting = rest; shards = w.shards; joined = w.joined; taken = suc w.taken }
take_found m i rest w (Some e) =
    cond (eqb e.reference m)
    (record {
      waiting = rest ++ e.previous;
      shards = refresh_shard (key i) (remove_block (key i) w.shards);
      joined = e ∷ w.joined;
      taken = suc w.taken;
    })
    (record { waiting = rest; shards = remove_block (key i) w.shards; joined = w.joined; taken = suc w.taken })

-- the first id is looked up under its key, without its hashes; with no id the walk stays as it is
abbrev pub take_id : ℕ → Walk → List BlockId → Walk
take_id m w [] = w
take_id m w (i ∷ rest) = take_found m i rest w (block_under w.shards (key i))

-- one turn of the walk
abbrev pub take_one : ℕ → Walk → Walk
take_one m w = take_id m w w.waiting

-- k turns
abbrev pub take_times : ℕ → ℕ → Walk → Walk
take_times zero m w = w
take_times (suc k) m w = take_times k m (take_one m w)

-- the number of previous ids of some entries
abbrev pub previous_in : List Entry → ℕ
previous_in es = total (λ (e : Entry). length e.previous) es

-- the number of previous ids of all shard blocks
abbrev pub previous_cached : List ShardModel → ℕ
previous_cached gs = total (λ (g : ShardModel). previous_in g.group.entries) gs

-- a walk before its first turn
abbrev pub first_walk : List BlockId → List ShardModel → Walk
first_walk ids gs = record { waiting = ids; shards = gs; joined = []; taken = 0 }

-- Each id taken shortens the list by one, and it grows only by the previous ids of a block that leaves the cache: so many turns empty it.
abbrev pub extract : ℕ → List BlockId → List ShardModel → Walk
extract m ids gs = take_times (length ids + previous_cached gs) m (first_walk ids gs)

-- the walk of M: from its starting ids, over the model's shard groups
abbrev pub extraction_of : Entry → Model → Walk
extraction_of M m = extract M.id.seqno (starting_ids m.zerostate M) m.shards

-- ===== Peek =====

-- the view from a top item on, by the block cached under its key: naming M, it gives a row of the item's id and reference and its own payload; else
-- the view stops
abbrev pub seen_top : ℕ → TopBlock → Option Entry → View → View
seen_top m t None rest = record { rows = []; missing = Some (key t.block_id) }
seen_top m t (Some e) rest =
    cond (eqb e.reference m)
    (record { rows = record { id = t.block_id; reference = t.ref_by_mc_seqno; payload = e.payload } ∷ rest.rows; missing = rest.missing })
    (record { rows = []; missing = Some (key t.block_id) })

-- the view of some top items, up to the first that gives no row
abbrev pub view_tops : ℕ → List ShardModel → List TopBlock → View
view_tops m gs [] = record { rows = []; missing = None }
view_tops m gs (t ∷ ts) = seen_top m t (block_under gs (key t.block_id)) (view_tops m gs ts)
