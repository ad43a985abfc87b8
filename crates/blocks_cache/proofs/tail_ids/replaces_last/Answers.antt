use mathlib.Core.Path.{ap, ◌∙◌}
use Rattle.std.specs.Prelude.{not}
use Rattle.blocks_cache.proofs.arrays.TailRowLaws.{option_lt, replaces_held}
use Rattle.blocks_cache.proofs.tail_ids.replaces_last.Goals as goal

pub returns-else-is_none : goal.returns-else-is_none
returns-else-is_none c = c.lt.ensures ∙ option_lt c.args.id c.args.held ∙ replaces_held c.args.id c.args.held (c.is_none.ensures ∙ ap not c.if-is_none.false)
