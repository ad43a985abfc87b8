use mathlib.Core.Path.{ap}
use Rattle.std.specs.Prelude.{not}
use Rattle.blocks_cache.proofs.arrays.TailRowLaws.{among_two}
use Rattle.blocks_cache.proofs.tail_ids.is_new.Goals.{then-is_among, else-is_among}
use Rattle.blocks_cache.proofs.tail_ids.is_new.Goals as goal

pub returns : goal.returns
returns c =
    let e = among_two c.args.known.now c.args.fresh.now c.args.id in
    ap not (elim c.if-is_among.branch [
      | then-is_among w ↦ rw (w.result-is, ← e, ← c.is_among.ensures, w.if-is_among.true)
      | else-is_among w ↦ rw (w.result-is, ← e, ← c.is_among.ensures, w.if-is_among.false) w.is_among-else-is_among.ensures
    ])
