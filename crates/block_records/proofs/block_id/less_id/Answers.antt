use mathlib.Core.Path.{◌∙◌}
use Rattle.block_records.proofs.rules.BlockIdLaws.{id_lt}
use Rattle.block_records.proofs.block_id.less_id.Goals as goal

pub returns : goal.returns
returns c = c.lt.ensures ∙ id_lt c.args.a c.args.b
