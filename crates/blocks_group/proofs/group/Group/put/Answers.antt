-- Compared by seqno.
use mathlib.Core.Path.{ap, ◌∙◌}
use borrow.Author.Rules.{rules}
use Rattle.std.specs.Ordering.{nat_cmp}
use Rattle.block_records.proofs.arrays.ListedLaws.{compares_by}
use Rattle.block_records.specs.layout.Listed.{put_listed}
use Rattle.blocks_group.specs.layout.Block.{block_before, block_seqno}
use Rattle.blocks_group.proofs.group.Group.put.Goals as goal

pub returns : goal.returns
returns g c =
    let k = g.B.Block.parts in
    let s = c.args.self.now in
    let e =
    c.put_by.ensures (λ x. nat_cmp (block_seqno k x) (block_seqno k c.args.block)) (search rules) (block_before k) (compares_by (block_seqno k) c.args.block)
    ∙ ap (λ z. put_listed 16 z (block_before k) c.args.block s.entries) c.zero_block.ensures in
    λ i. record { mark = s.mark; boundary = s.boundary; entries = e i }
