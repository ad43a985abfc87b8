use mathlib.Core.Path.{ap, ◌∙◌}
use borrow.Author.Rules.{rules}
use Rattle.blocks_cache.specs.declared.tail_ids.TailIdsRow.{TailIdsRow}
use Rattle.block_records.proofs.rules.BlockIdLaws.{shard_ordering}
use Rattle.block_records.specs.arrays.Place.{place}
use Rattle.blocks_cache.proofs.arrays.TailRowLaws.{row_searched}
use Rattle.blocks_cache.specs.arrays.TailIds.{row_at, row_below}
use Rattle.blocks_cache.proofs.tail_ids.row_place.Goals as goal

pub returns-clause-place : goal.returns-clause-place
returns-clause-place c =
    c.place_by.ensures.place (λ (r : TailIdsRow). shard_ordering r.shard c.args.shard) (search rules) ∙ row_searched c.args.shard c.listed.result.now
    ∙ ap (place (row_below c.args.shard) (row_at c.args.shard)) c.listed.ensures
