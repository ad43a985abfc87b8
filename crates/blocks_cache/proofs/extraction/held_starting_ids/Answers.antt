use Rattle.std.specs.Prelude.{filter, map}
use Rattle.std.proofs.Common.{◌≡◌, ◌≤◌, length, sym, ap, ◌∙◌, arith, rules}
use Rattle.block_records.proofs.arrays.ArrayLaws.{fill_end, fill_next, length_take_few}
use Rattle.block_records.proofs.arrays.LoopLaws.{length_mapped, padded_nil}
use Rattle.block_records.proofs.layout.EntryLaws.{view_pack_tops}
use Rattle.block_records.specs.layout.Zeros.{zero_id}
use Rattle.block_records.specs.rules.BlockId.{listed_tops}
use Rattle.block_records.specs.rules.Lists.{padded}
use Rattle.cache_rules.specs.Extraction.{starts, top_id}
use Rattle.blocks_cache.proofs.extraction.held_starting_ids.Goals as goal
use lib.ListN.{get_or-map}
use Rattle.std.proofs.lemmas.List.{length-map}

pub loop-i-init : goal.loop-i-init
loop-i-init c = rw c.zero_id-items.ensures (sym (padded_nil 264 zero_id))

pub loop-i-preserved : goal.loop-i-preserved
loop-i-preserved c =
    let xs = c.listed-item-items.result.now in
    let i = c.loop-i.i in
    let n : length c.held_starting_items-starting.result.items ≡ 8 = search (rules, length_mapped) in
    let few : length xs ≤ 264 = rw c.listed-item-items.ensures (omega (arith, n, length_take_few c.held_starting_items-starting.result.count c.held_starting_items-starting.result.items)) in
    fill_next 264 zero_id (map top_id xs) c.loop-i.items i _ _ c.loop-i.invariant (sym (get_or-map top_id xs i _)) (omega (arith, length-map xs top_id, c.loop-i-test.true)) (omega (arith, length-map xs top_id))

pub returns : goal.returns
returns c =
    let ts = filter (starts c.args.zerostate) (listed_tops c.args.tops.now) in
    let xs = c.listed-item-items.result.now in
    let h = c.held_starting_items-starting.ensures in
    let places : length c.held_starting_items-starting.result.items ≡ 8 = search (rules, length_mapped) in
    let few : length xs ≤ 8 = rw c.listed-item-items.ensures (omega (arith, places, length_take_few c.held_starting_items-starting.result.count c.held_starting_items-starting.result.items)) in
    let v = c.listed-item-items.ensures ∙ ap (λ t. listed_tops t) h ∙ view_pack_tops ts in
    let e = fill_end 264 zero_id (map top_id xs) c.loop-i.items c.loop-i.i c.loop-i.invariant (omega (arith, length-map xs top_id, c.loop-i-test.false)) ∙ ap (λ x. padded 264 zero_id (map top_id x)) v in
    let n = ap (λ t. t.count) h ∙ sym (length-map ts top_id) in
    record { ids = λ i. record { count = n i; items = e i }; few = omega (arith, few, ap length v, ap (λ t. t.count) h) }
