use mathlib.Core.Path.{ap, ◌∙◌}
use mathlib.Core.List.{List, ◌++◌, ◌∷◌}
use lib.ListN.{length}
use Prim.Native.Nat.{◌+◌}
use Rattle.std.proofs.lemmas.List.{drop-drop}
use Rattle.block_records.proofs.listed.put_parts.Goals as goal

pub returns : goal.returns
returns g c =
    let b = c.args.before.now in
    let a = c.args.after.now in
    rw (
      c.copy_from_slice.ensures.after,
      c.copy_from_slice-2.ensures.after,
      c.copy_from_slice-3.ensures.after,
      c.split_at_mut-back.ensures.back,
      c.split_at_mut-here.ensures.back,
      c.split_at_mut-front.ensures.back,
    )
    (ap (λ (r : List g.row.T.Denot). b ++ (c.args.item ∷ (a ++ r))) (drop-drop (length a) 1 _ ∙ drop-drop (1 + length a) (length b) c.args.out.now))
