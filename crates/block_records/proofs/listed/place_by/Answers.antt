use mathlib.Core.Path.{sym, ◌∙◌}
use Rattle.block_records.proofs.arrays.ListedLaws.{place_at_end, place_is_here, place_would_be_here}
use Rattle.block_records.proofs.listed.place_by.Goals as goal

pub returns-in-Equal-clause-place : goal.returns-in-Equal-clause-place
returns-in-Equal-clause-place g c = λ cmp h.
    sym (c.loop-i.invariant cmp (λ x o p. h x.0 o p)
    ∙ place_is_here cmp c.args.items.now c.loop-i.i _ c.index-items-i.is c.loop-i-test.true (sym c.in-Equal.is ∙ h _ _ c.compare.ensures))

pub returns-in-Greater-clause-place : goal.returns-in-Greater-clause-place
returns-in-Greater-clause-place g c = λ cmp h.
    sym (c.loop-i.invariant cmp (λ x o p. h x.0 o p)
    ∙ place_would_be_here cmp c.args.items.now c.loop-i.i _ c.index-items-i.is c.loop-i-test.true (sym c.in-Greater.is ∙ h _ _ c.compare.ensures))

pub returns-clause-place : goal.returns-clause-place
returns-clause-place g c = λ cmp h.
    sym (c.loop-i.invariant cmp (λ x o p. h x.0 o p) ∙ place_at_end cmp c.args.items.now c.loop-i.i c.loop-i-test.false c.loop-i.auto.i-end)
