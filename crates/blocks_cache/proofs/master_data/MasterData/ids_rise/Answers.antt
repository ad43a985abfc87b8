-- Each seqno above the one before it.
use mathlib.Core.Path.{ap, ◌∙◌}
use borrow.Author.Rules.{rules}
use Rattle.std.proofs.lemmas.Fn.{always_returns_same}
use Rattle.block_records.specs.declared.block_id.BlockId.{BlockId}
use Rattle.block_records.proofs.arrays.ListedLaws.{sorted_rises}
use Rattle.block_records.proofs.rules.ListLaws.{by_number}
use Rattle.block_records.specs.rules.Lists.{rising}
use Rattle.cache_rules.specs.Model.{id_before}
use Rattle.blocks_cache.proofs.master_data.MasterData.ids_rise.Goals as goal

pub returns : goal.returns
returns c =
    sorted_rises id_before (by_number (λ (i : BlockId). i.seqno)) _ _ (c.is_sorted_by.ensures.cases id_before (always_returns_same _ _ _ (λ a r f k. search rules))) ∙ ap (rising id_before) c.listed.ensures
