use borrow.Author.Rules.{rules}
use borrow.Author.Tests.{tests}
use Rattle.std.proofs.lemmas.Iterator.{YieldsList-from_slice}
use Rattle.std.proofs.lemmas.Iterator.Search.{all_from_yields_List}
use Rattle.blocks_group.specs.arrays.Soundness.{sound_block}
use Rattle.blocks_group.proofs.soundness.sound_blocks.Goals as goal

pub returns : goal.returns
returns g c = λ p h.
    all_from_yields_List (sound_block g.B.Block.parts p) _ _ c.all.result c.all.ensures.ran (YieldsList-from_slice c.args.blocks.now c.iter.ensures.rest) (λ x b q k. search (rules, tests, h))
