-- One row more, or the view stops.
use Rattle.std.proofs.Common.{List, ap, sym, ◌∙◌}
use Rattle.block_records.specs.declared.top_block.TopBlock.{TopBlock}
use Rattle.blocks_cache.proofs.arrays.ExtractionLaws.{starting_listed}
use Rattle.blocks_cache.proofs.arrays.PeekLaws.{row_of_none, row_of_some, view_more, view_passed, view_stop}
use Rattle.blocks_cache.specs.arrays.Peek.{held_view_tops, pack_view}
use Rattle.blocks_cache.proofs.lookup.Lookup.held_view_tops.Goals as goal

pub returns-in_default : goal.returns-in_default
returns-in_default c =
    rw c.as_short_id.ensures
    (view_stop c.loop-item.invariant _ c.loop-item-test.true (row_of_none _ (sym c.in_default.is ∙ c.top_row.ensures))
    ∙ ap (λ (ys : List TopBlock). pack_view (held_view_tops c.args.seqno c.args.self.now.cache.now ys)) (starting_listed c.args.self.now.cache.now.zerostate_mc_seqno c.args.tops.now _ _ c.held_starting_items-starting.ensures c.listed-item-items.ensures))

pub loop-item-preserved : goal.loop-item-preserved
loop-item-preserved c =
    view_more c.loop-item.invariant _ c.loop-item-test.true _ (row_of_some _ c.in-Some.row (sym c.in-Some.is ∙ c.top_row.ensures))

pub returns : goal.returns
returns c =
    view_passed c.loop-item.invariant c.loop-item-test.false
    ∙ ap (λ (ys : List TopBlock). pack_view (held_view_tops c.args.seqno c.args.self.now.cache.now ys)) (starting_listed c.args.self.now.cache.now.zerostate_mc_seqno c.args.tops.now _ _ c.held_starting_items-starting.ensures c.listed-item-items.ensures)
