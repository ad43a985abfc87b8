-- What the closure says of each place after what is listed.
use mathlib.Core.Bool.{◌&&◌}
use mathlib.Core.Path.{ap, ◌∙◌}
use borrow.Author.Rules.{rules}
use borrow.Author.Tests.{tests}
use lib.Dec.{leb}
use Rattle.std.proofs.lemmas.Iterator.{YieldsList-from_slice}
use Rattle.std.proofs.lemmas.Iterator.Search.{all_from_yields_List}
use Rattle.std.specs.List.{list_all}
use Rattle.block_records.proofs.listed.Listed.is_tidy.Goals as goal

pub returns-clause-tidy : goal.returns-clause-tidy
returns-clause-tidy g c = λ p h.
    let l = c.args.self.now in
    ap (λ b. leb l.count g.row.N && b)
    (all_from_yields_List p _ _ c.all-zeros.result c.all-zeros.ensures.ran (YieldsList-from_slice c.unlisted.result.now c.iter.ensures.rest) (λ x b q k. search (rules, tests, h))
    ∙ ap (list_all p) c.unlisted.ensures.rest)
