use Rattle.std.specs.Prelude.{is_some, map}
use Rattle.std.proofs.Common.{◌≡◌, length, sym, ◌∙◌, arith, rules}
use Rattle.block_records.proofs.arrays.ArrayLaws.{compact_no, compact_yes}
use Rattle.block_records.proofs.arrays.LoopLaws.{length_mapped}
use Rattle.block_records.specs.layout.Zeros.{zero_entry}
use Rattle.blocks_cache.proofs.extraction.compact_group.Goals.{else-is_some, then-is_some}
use Rattle.blocks_cache.proofs.extraction.compact_group.Goals as goal
use lib.ListN.{get_or-map}
use Rattle.std.proofs.lemmas.List.{length-map}

pub loop-i-preserved : goal.loop-i-preserved
loop-i-preserved c =
    let h = c.loop-i in
    let ks = c.args.seqnos.now.entries in
    let l : length c.args.group.now.entries.items ≡ 16 = search (rules, length_mapped) in
    let k : length ks ≡ 16 = search (rules, length_mapped) in
    let bs = c.args.group.now.entries.items in
    let m = length-map ks is_some in
    let t = c.loop-i-test.true in
    elim c.if-is_some.branch [
      | then-is_some w ↦ rw w.entries-is (compact_yes 16 zero_entry (map is_some ks) bs h.i h.entries.count h.entries.items h.invariant _ _ (get_or-map is_some ks h.i _ ∙ sym c.is_some.ensures ∙ w.if-is_some.true) (omega arith) (omega arith) (omega arith))
      | else-is_some w ↦ rw w.entries-is (compact_no 16 zero_entry (map is_some ks) bs h.i h.entries.count h.entries.items h.invariant _ (get_or-map is_some ks h.i _ ∙ sym c.is_some.ensures ∙ w.if-is_some.false) (omega arith) (omega arith))
    ]
