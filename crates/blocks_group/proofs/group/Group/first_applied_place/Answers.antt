-- The search stops at the first that passes, of those listed.
use mathlib.Core.Path.{ap, ◌∙◌}
use borrow.Author.Rules.{rules}
use borrow.Author.Tests.{tests}
use Rattle.std.specs.declared.cmp.Ordering.TheVariants.{Equal, Less}
use Rattle.std.specs.Prelude.{cond, not}
use Rattle.block_records.specs.arrays.Place.{place}
use Rattle.block_records.specs.layout.Listed.{listed}
use Rattle.blocks_group.proofs.arrays.LookupLaws.{found_first, passes_is_eq, passes_is_lt}
use Rattle.blocks_group.specs.arrays.Group.{found_at}
use Rattle.blocks_group.specs.arrays.Queries.{held_applied_from}
use Rattle.blocks_group.specs.layout.Block.{zero_block}
use Rattle.blocks_group.proofs.group.Group.first_applied_place.Goals as goal

pub returns-clause-place : goal.returns-clause-place
returns-clause-place g c =
    let p = held_applied_from g.B.Block.parts c.args.from in
    c.place_by.ensures.place (λ x. cond (p x) Equal Less) (λ x o q. search (rules, tests))
    ∙ (λ i. place (λ x. passes_is_lt (p x) i) (λ x. passes_is_eq (p x) i) c.listed.result.now)
    ∙ ap (place (λ x. not (p x)) p) c.listed.ensures

pub returns-clause-block : goal.returns-clause-block
returns-clause-block g c =
    let z = zero_block g.B.Block.parts in
    let xs = listed c.args.self.now.entries in
    ap (found_at z xs) (returns-clause-place g c) ∙ found_first (held_applied_from g.B.Block.parts c.args.from) z xs
