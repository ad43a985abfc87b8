-- Each part is the test of equality with nothing, or with zeros.
use mathlib.Core.Path.{sym}
use borrow.Author.Rules.{rules}
use Rattle.std.specs.Prelude.{eqb}
use Rattle.block_records.specs.rules.BlockId.{same_key}
use Rattle.blocks_group.specs.layout.Block.{is_zero_block}
use Rattle.blocks_group.proofs.arrays.SoundnessLaws.{is_empty_parts, is_none_same}
use Rattle.blocks_group.proofs.group.Group.is_empty.Goals as goal

pub returns : goal.returns
returns g c =
    let k = g.B.Block.parts in
    let s = c.args.self.now in
    rw (is_none_same eqb s.mark c.is_none-mark.result c.is_none-mark.ensures, is_none_same same_key s.boundary c.is_none-boundary.result c.is_none-boundary.ensures, c.is_tidy-zeros.ensures.tidy (is_zero_block k) (search rules))
    (sym (is_empty_parts k g.met.B.Block.laws s c.is_tidy-zeros.ensures.places))
