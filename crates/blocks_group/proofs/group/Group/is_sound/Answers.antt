use mathlib.Core.Path.{sym}
use borrow.Author.Rules.{rules}
use Rattle.blocks_group.specs.layout.Block.{is_zero_block}
use Rattle.blocks_group.proofs.arrays.SoundnessLaws.{sound_group_parts}
use Rattle.blocks_group.proofs.group.Group.is_sound.Goals as goal

pub returns : goal.returns
returns g c = λ p h.
    let k = g.B.Block.parts in
    rw (c.is_tidy-tidy.ensures.tidy (is_zero_block k) (search rules), c.sound_blocks-sound.ensures p h, c.seqnos_rise-rise.ensures, c.boundary_in-bound.ensures p h, c.listed-blocks.ensures)
    (sym (sound_group_parts k g.met.B.Block.laws p c.args.self.now c.is_tidy-tidy.ensures.places))
