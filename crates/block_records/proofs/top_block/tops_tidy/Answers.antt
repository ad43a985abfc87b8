use mathlib.Core.Path.{◌∙◌}
use borrow.Author.Rules.{rules}
use Rattle.block_records.specs.layout.Zeros.{is_zero_top}
use Rattle.block_records.proofs.layout.TidyLaws.{tops_tidy_is}
use Rattle.block_records.proofs.top_block.tops_tidy.Goals as goal

pub returns : goal.returns
returns c = c.is_tidy.ensures.tidy is_zero_top (search rules) ∙ tops_tidy_is c.args.tops c.is_tidy.ensures.places
