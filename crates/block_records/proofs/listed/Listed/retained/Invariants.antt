use Rattle.std.proofs.Common.{◌≡◌, ◌≤◌, Bool}
use Rattle.std.specs.Prelude.{filter, take}
use Rattle.block_records.specs.layout.Listed.{packed}
use Rattle.block_records.proofs.listed.Listed.retained.Given as goal

abbrev pub invariant-loop-item : goal.invariant-loop-item
invariant-loop-item g l = record {
  few : l.kept.count ≤ l.item-index;
  kept : (p : g.row.T.Denot → Bool) → ((x : _) (b : Bool) → g.F.Fn.post l.stays x b → b ≡ p x.0.now) →
      l.kept ≡ packed g.row.N l.fn.zero (filter p (take l.item-index l.item-items));
}
