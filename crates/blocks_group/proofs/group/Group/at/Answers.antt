-- What is read at the place is listed.
use mathlib.Core.Path.{◌≡◌, ap, sym, ◌∙◌}
use Prim.Native.Nat.{◌<◌}
use lib.ListN.{length}
use Rattle.std.specs.Prelude.{Err, Ok, Some}
use Rattle.block_records.specs.layout.Listed.{listed}
use Rattle.blocks_group.specs.arrays.Group.{found_at, place_of_seqno}
use Rattle.blocks_group.specs.layout.Block.{zero_block}
use Rattle.blocks_group.proofs.group.Group.at.Goals as goal
use Rattle.std.proofs.lemmas.List.{get_or_default}

pub returns-in-Ok : goal.returns-in-Ok
returns-in-Ok g c =
    let k = g.B.Block.parts in
    let xs = c.listed-blocks.result.now in
    let h = c.args.self.now in
    let at : Ok c.in-Ok.at ≡ place_of_seqno k c.args.seqno h = sym c.in-Ok.is ∙ c.place_of_seqno.ensures.place in
    let within : c.in-Ok.at < length xs = rw (c.in-Ok.is, ← c.listed-blocks.ensures) at c.place_of_seqno.ensures.within in
    ap Some (c.index-blocks-at.is ∙ get_or_default xs c.in-Ok.at _ (zero_block k) within)
    ∙ ap (λ ys. found_at (zero_block k) ys (Ok c.in-Ok.at)) c.listed-blocks.ensures
    ∙ ap (found_at (zero_block k) (listed h.entries)) at

pub returns-in-Err : goal.returns-in-Err
returns-in-Err g c =
    let k = g.B.Block.parts in
    let h = c.args.self.now in
    let at : Err c.in-Err.field-0 ≡ place_of_seqno k c.args.seqno h = sym c.in-Err.is ∙ c.place_of_seqno.ensures.place in
    ap (found_at (zero_block k) (listed h.entries)) at
