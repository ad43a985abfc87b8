use Rattle.std.proofs.Common.{◌≡◌, drop}
use Rattle.std.specs.Ordering.{is_eq, is_lt}
use Rattle.std.specs.declared.cmp.Ordering.{Ordering}
use Rattle.block_records.specs.arrays.Place.{place, place_from}
use Rattle.block_records.proofs.listed.place_by.Given as goal

abbrev pub invariant-loop-i : goal.invariant-loop-i
invariant-loop-i g l =
    (cmp : g.row.T.Denot → Ordering) → ((x : _) (o : Ordering) → g.F.Fn.post l.compare x o → o ≡ cmp x.0.now) →
    place (λ x. is_lt (cmp x)) (λ x. is_eq (cmp x)) l.items ≡ place_from (λ x. is_lt (cmp x)) (λ x. is_eq (cmp x)) l.i (drop l.i l.items)
