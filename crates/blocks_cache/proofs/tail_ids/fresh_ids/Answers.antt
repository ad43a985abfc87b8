use Rattle.std.proofs.Common.{◌≡◌, arith, length, rules}
use Rattle.block_records.proofs.arrays.ArrayLaws.{length_take_few}
use Rattle.block_records.proofs.arrays.LoopLaws.{length_mapped}
use Rattle.blocks_cache.proofs.arrays.TailRowLaws.{fresh_passed, fresh_start, fresh_taken}
use Rattle.blocks_cache.proofs.tail_ids.fresh_ids.Goals.{then-is_new, else-is_new}
use Rattle.blocks_cache.proofs.tail_ids.fresh_ids.Goals as goal

pub loop-id-init : goal.loop-id-init
loop-id-init c =
    let two : length c.args.prev.items ≡ 2 = search (rules, length_mapped) in
    let l = length_take_few c.args.prev.count c.args.prev.items in
    fresh_start c.args.known.now c.listed-id-items.result.now (rw c.listed-id-items.ensures (omega arith)) _ c.zero_prev_ids-fresh.ensures

pub loop-id-preserved : goal.loop-id-preserved
loop-id-preserved c =
    elim c.if-is_new.branch [
      | then-is_new w ↦
          rw w.fresh-is (fresh_taken c.loop-id.invariant c.loop-id-test.true _ _ c.listed.ensures _ c.is_new.ensures w.if-is_new.true _ w.zero_id.ensures _ w.spliced-fresh.ensures)
      | else-is_new w ↦ rw w.fresh-is (fresh_passed c.loop-id.invariant c.loop-id-test.true _ _ c.listed.ensures _ c.is_new.ensures w.if-is_new.false)
    ]
