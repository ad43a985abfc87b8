use native.Mathlib.Omega.{arith}
use Prim.Native.Nat.{◌-◌}
use lib.ListN.{drop, length, length-drop, take}
use lib.Seq.{take_all}
use Rattle.block_records.proofs.arrays.ListedLaws.{spliced_over}
use Rattle.block_records.proofs.listed.Listed.spliced.Goals as goal

pub returns : goal.returns
returns g c =
    let xs = take c.args.self.now.count c.args.self.now.items in
    let l = length-drop c.args.from xs in
    rw (c.put_parts.ensures, c.listed-listed.ensures, take_all (length xs - c.args.from) (drop c.args.from xs) (omega arith))
    (spliced_over g.row.N c.args.zero c.args.item xs c.args.at c.args.from c.requires.order c.requires.within)
