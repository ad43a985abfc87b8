-- The row goes to the place that is found.
use Rattle.std.proofs.Common.{sym, ◌∙◌, ltb-true}
use Rattle.blocks_cache.proofs.arrays.TailRowLaws.{hold_inserts}
use Rattle.blocks_cache.proofs.tail_ids.hold_row.Goals as goal

pub returns-then-has_place : goal.returns-then-has_place
returns-then-has_place c =
    hold_inserts c.args.tails.now c.args.row _ (sym c.row_place.ensures.place ∙ c.in-Err.is) (ltb-true _ _ (sym c.has_place.ensures ∙ c.if-has_place.true)) _ _ c.zero_tail.ensures c.spliced.ensures
