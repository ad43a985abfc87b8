use Rattle.std.proofs.Common.{◌≡◌, ◌+◌, ◌-◌, ◌≤◌, [], drop-drop, get_or, length, set, refl, sym, ◌∙◌, arith}
use Rattle.std.specs.Prelude.{None}
use Rattle.blocks_cache.specs.declared.lookup.GroupSeqnos.{GroupSeqnos}
use Rattle.blocks_cache.proofs.arrays.ExtractionRun.{few_previous, read_joins, room_for_block, room_for_ids, run_ends, run_starts}
use Rattle.blocks_cache.proofs.questions.SoundCache.held_walk.Goals as goal

pub loop-head-init : goal.loop-head-init
loop-head-init c =
    run_starts c.args.self.cache.now c.args.self.sound c.args.master.now c.of-index.result c.held_starting_ids-waiting.result c.empty-joined.result c.zero_entry.result c.of-index.ensures c.held_starting_ids-waiting.ensures.ids c.held_starting_ids-waiting.ensures.few c.empty-joined.ensures c.zero_entry.ensures

pub bounds-joined-joined : goal.bounds-joined-joined
bounds-joined-joined c = room_for_block c.args.self.cache.now c.args.self.sound c.args.master.now c.loop-head.invariant c.loop-head-test.true _ _ _ (sym c.place.ensures.place ∙ c.in-Some.is) _ _ c.if-block-master.false

pub slice_bounds-copy_from_slice-end : goal.slice_bounds-copy_from_slice-end
slice_bounds-copy_from_slice-end c = let room : c.loop-head.waiting.count + 2 ≤ 264 = room_for_ids c.args.self.cache.now c.args.self.sound c.args.master.now c.loop-head.invariant c.loop-head-test.true _ _ _ (sym c.place.ensures.place ∙ c.in-Some.is) _ _ c.if-block-master.false in let few : length c.listed-previous.result.now ≤ 2 = few_previous c.args.self.cache.now c.args.self.sound c.args.master.now c.loop-head.invariant c.loop-head-test.true _ _ _ (sym c.place.ensures.place ∙ c.in-Some.is) _ _ c.if-block-master.false _ c.listed-previous.ensures in let n = c.loop-head.invariant.places in let ends : c.loop-head.waiting.count + length c.listed-previous.result.now ≤ length c.loop-head.waiting.items = omega arith in ends

pub loop-head-preserved : goal.loop-head-preserved
loop-head-preserved c =
    let start = c.loop-head.waiting.count in
    let ps = c.listed-previous.result.now in
    let n : start + length ps - start ≡ length ps = omega arith in
    let old : GroupSeqnos = record { entries = []; mark = None } in
    read_joins c.args.self.cache.now c.args.self.sound c.args.master.now c.loop-head.invariant c.loop-head-test.true _ _ _ (sym c.place.ensures.place ∙ c.in-Some.is) _ _ c.if-block-master.false old _ (λ i. record { entries = set (get_or c.loop-head.index.seqnos c.in-Some.at old).entries c.in-Some.place None; mark = c.refreshed_mark-group.ensures i }) ps c.listed-previous.ensures _ (rw (n, c.copy_from_slice.ensures.after, drop-drop))

pub returns : goal.returns
returns c =
    let z : c.loop-head.joined.count - 0 ≡ c.loop-head.joined.count = omega arith in
    run_ends c.args.self.cache.now c.args.self.sound c.args.master.now c.loop-head.invariant c.loop-head-test.false c.compact_shards.result _ c.compact_shards.ensures.count c.compact_shards.ensures.items (rw (c.reverse.ensures.after, z) refl)
