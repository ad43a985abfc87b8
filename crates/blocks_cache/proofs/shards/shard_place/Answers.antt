use mathlib.Core.Path.{◌∙◌}
use borrow.Author.Rules.{rules}
use Rattle.blocks_cache.specs.declared.cache.ShardGroup.{ShardGroup}
use Rattle.block_records.proofs.rules.BlockIdLaws.{shard_ordering}
use Rattle.blocks_cache.proofs.arrays.ShardsLaws.{shard_searched}
use Rattle.blocks_cache.proofs.shards.shard_place.Goals as goal

pub returns : goal.returns
returns c = record {
  place = c.place_by.ensures.place (λ (g : ShardGroup). shard_ordering g.shard c.args.shard) (search rules) ∙ shard_searched c.args.shard c.args.groups.now;
  within = c.place_by.ensures.within;
}
