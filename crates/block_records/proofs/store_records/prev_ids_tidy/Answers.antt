use mathlib.Core.Path.{◌∙◌}
use borrow.Author.Rules.{rules}
use Rattle.block_records.specs.layout.Zeros.{is_zero_id}
use Rattle.block_records.proofs.layout.TidyLaws.{prev_ids_tidy_is}
use Rattle.block_records.proofs.store_records.prev_ids_tidy.Goals as goal

pub returns : goal.returns
returns c = c.is_tidy.ensures.tidy is_zero_id (search rules) ∙ prev_ids_tidy_is c.args.prev c.is_tidy.ensures.places
