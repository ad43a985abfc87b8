-- Each seqno above the one before it.
use borrow.Author.Rules.{rules}
use Rattle.std.proofs.lemmas.Fn.{always_returns_same}
use Rattle.block_records.proofs.arrays.ListedLaws.{sorted_rises}
use Rattle.block_records.proofs.rules.ListLaws.{by_number}
use Rattle.blocks_group.specs.layout.Block.{block_before, block_seqno}
use Rattle.blocks_group.proofs.soundness.seqnos_rise.Goals as goal

pub returns : goal.returns
returns g c =
    let k = g.B.Block.parts in
    sorted_rises (block_before k) (by_number (block_seqno k)) _ _ (c.is_sorted_by.ensures.cases (block_before k) (always_returns_same _ _ _ (λ a r f q. search rules)))
