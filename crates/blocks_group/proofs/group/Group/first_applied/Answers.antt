-- The first that passes, of those listed.
use mathlib.Core.Path.{◌≡◌, ap, ◌∙◌}
use borrow.Author.Rules.{rules}
use borrow.Author.Tests.{tests}
use Rattle.std.specs.List.{find}
use Rattle.std.specs.Prelude.{false, true}
use Rattle.std.proofs.lemmas.Iterator.{YieldsList-from_slice, first_from_find}
use Rattle.block_records.proofs.arrays.ListedLaws.{first_found}
use Rattle.blocks_group.specs.arrays.Queries.{held_applied_from}
use Rattle.blocks_group.proofs.group.Group.first_applied.Goals as goal

pub returns : goal.returns
returns g c =
    let p = held_applied_from g.B.Block.parts c.args.from in
    let xs = c.listed.result.now in
    c.copied.ensures
    ∙ first_found p (λ x. x.now) xs c.find.result
    (first_from_find _ _ _ (λ x. p x ≡ true) (λ x. p x ≡ false) c.find.ensures.ran (YieldsList-from_slice xs c.iter.ensures.rest) (λ x q k. search (rules, tests)) (λ x q k. search (rules, tests)))
    ∙ ap (find p) c.listed.ensures
