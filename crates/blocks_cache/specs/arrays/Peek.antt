-- RULES.md, Peek: what the code reads from a cache as it is held, for every cache, sound or not, and what its answer says. On a packed cache this is
-- the rule (proofs/arrays/PeekLaws).
-- Assumes nothing.
use Rattle.block_records.specs.layout.Listed.{listed, packed}
use Rattle.blocks_group.specs.arrays.Queries.{first_applied_block}
use Rattle.blocks_group.specs.layout.Block.{master_parts}
use Rattle.block_records.specs.declared.questions.Refusal.{Refusal}
use Rattle.std.specs.Prelude.{ℕ, List, [], ◌∷◌, ◌==◌, Option, option_map, None, Some, map, cond, Err, Ok, Result}
use Rattle.block_records.specs.declared.entry.BlockCacheEntry.{BlockCacheEntry}
use Rattle.block_records.specs.declared.entry.MasterBlock.{MasterBlock}
use Rattle.block_records.specs.declared.top_block.TopBlock.{TopBlock}
use Rattle.blocks_cache.specs.declared.cache.Cache.{Cache}
use Rattle.blocks_cache.specs.declared.peek.Peek.{Peek}
use Rattle.blocks_cache.specs.declared.peek.PeekRow.{PeekRow}
use Rattle.blocks_cache.specs.declared.peek.TopRows.{TopRows}
use Rattle.block_records.specs.layout.Zeros.{zero_id}
use Rattle.block_records.specs.rules.BlockId.{key}
use Rattle.block_records.specs.rules.Limits.{tops_limit}
use Rattle.blocks_cache.specs.arrays.Extraction.{held_starting_items}
use Rattle.blocks_cache.specs.arrays.Lookup.{cached_block}
use Rattle.cache_rules.specs.Calls.{Answer, Row, View, nothing, peeked, refused}

-- ===== rows =====

-- a row as it is held
abbrev pub pack_row : Row → PeekRow
pack_row r = record { block_id = r.id; ref_by_mc_seqno = r.reference; payload = r.payload }

-- what a row stands for
abbrev pub view_row : PeekRow → Row
view_row r = record { id = r.block_id; reference = r.ref_by_mc_seqno; payload = r.payload }

-- the zero id, reference and payload 0
unfoldable pub zero_row : PeekRow
zero_row = record { block_id = zero_id; ref_by_mc_seqno = 0; payload = 0 }

-- ===== what an answer says =====

-- the master's row and the view, nothing, or the refusal
abbrev pub peek_says : Result (Option Peek) Refusal → Answer
peek_says (Ok (Some r)) = peeked (view_row r.master) (record { rows = map view_row (listed r.tops); missing = r.missing })
peek_says (Ok None) = nothing
peek_says (Err n) = refused n

-- zeros in the places of the tops' rows beyond their count
abbrev pub zeroed_rows : Peek → Peek
zeroed_rows r = record { master = r.master; tops = packed tops_limit zero_row (listed r.tops); missing = r.missing }

-- the same of an answer
abbrev pub zeroed_peek : Result (Option Peek) Refusal → Result (Option Peek) Refusal
zeroed_peek (Ok o) = Ok (option_map zeroed_rows o)
zeroed_peek (Err n) = Err n

-- ===== the starting items =====

-- the row of a top item whose block names M: the item's id and reference, the block's payload; none for a block that does not, or no block
abbrev pub naming_row : ℕ → TopBlock → Option BlockCacheEntry → Option Row
naming_row m t None = None
naming_row m t (Some b) =
    cond (b.ref_by_mc_seqno == m) (Some (record { id = t.block_id; reference = t.ref_by_mc_seqno; payload = b.payload })) None

-- the row of a top item, by the block cached under its key
unfoldable pub top_row : ℕ → Cache → TopBlock → Option Row
top_row m c t = naming_row m t (cached_block t.block_id c)

-- the view from a top item on: its row first; without a row the view stops, with the item's key
abbrev pub held_seen_top : TopBlock → Option Row → View → View
held_seen_top t None rest = record { rows = []; missing = Some (key t.block_id) }
held_seen_top t (Some r) rest = record { rows = r ∷ rest.rows; missing = rest.missing }

-- the view of some top items, up to the first that has no row
abbrev pub held_view_tops : ℕ → Cache → List TopBlock → View
held_view_tops m c [] = record { rows = []; missing = None }
held_view_tops m c (t ∷ ts) = held_seen_top t (top_row m c t) (held_view_tops m c ts)

-- the rows first, zeros after them
abbrev pub pack_view : View → TopRows
pack_view v = record { rows = packed tops_limit zero_row (map pack_row v.rows); gap = v.missing }

-- ===== peek =====

-- a master's row, and the view below it
abbrev pub found_peek : PeekRow → TopRows → Peek
found_peek master v = record { master = master; tops = v.rows; missing = v.gap }

-- peek at a master block: its row and the view of its starting items
abbrev pub peek_block : Cache → MasterBlock → Peek
peek_block c b =
    found_peek (record { block_id = b.entry.block_id; ref_by_mc_seqno = b.entry.ref_by_mc_seqno; payload = b.entry.payload })
    (pack_view (held_view_tops b.entry.block_id.seqno c (held_starting_items c.zerostate_mc_seqno b.tops)))

-- peek at the master block that pop would take from f on
unfoldable pub held_peek : ℕ → Cache → Option Peek
held_peek f c = option_map (peek_block c) (first_applied_block master_parts f c.masters)
