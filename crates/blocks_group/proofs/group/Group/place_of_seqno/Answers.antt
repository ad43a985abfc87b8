-- The search compares seqnos, of what is listed.
use mathlib.Core.Path.{ap, ◌∙◌}
use borrow.Author.Rules.{rules}
use Rattle.std.specs.Ordering.{nat_cmp}
use Rattle.std.specs.Prelude.{map}
use Rattle.blocks_group.proofs.arrays.LookupLaws.{searched}
use Rattle.blocks_group.specs.arrays.Search.{seqno_place}
use Rattle.blocks_group.specs.layout.Block.{block_seqno}
use Rattle.blocks_group.proofs.group.Group.place_of_seqno.Goals as goal

pub returns-clause-place : goal.returns-clause-place
returns-clause-place g c =
    let k = g.B.Block.parts in
    let n = c.args.seqno in
    c.place_by.ensures.place (λ x. nat_cmp (block_seqno k x) n) (search rules)
    ∙ searched (block_seqno k) n c.listed.result.now
    ∙ ap (λ ys. seqno_place n (map (block_seqno k) ys)) c.listed.ensures
