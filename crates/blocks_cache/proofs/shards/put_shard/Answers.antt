use mathlib.Core.Path.{ap, ◌∙◌}
use borrow.Author.Rules.{rules}
use Rattle.blocks_cache.specs.declared.cache.ShardGroup.{ShardGroup}
use Rattle.block_records.proofs.rules.BlockIdLaws.{shard_ordering}
use Rattle.block_records.specs.layout.Listed.{put_listed}
use Rattle.blocks_cache.proofs.arrays.ShardsLaws.{shard_compares}
use Rattle.blocks_cache.specs.layout.Cache.{shard_group_before}
use Rattle.blocks_cache.proofs.shards.put_shard.Goals as goal

pub returns : goal.returns
returns c =
    let g = c.args.group in
    c.put_by.ensures (λ (x : ShardGroup). shard_ordering x.shard g.shard) (search rules) shard_group_before (shard_compares g)
    ∙ ap (λ (z : ShardGroup). put_listed 8 z shard_group_before g c.args.shards.now) c.zero_shard_group.ensures
