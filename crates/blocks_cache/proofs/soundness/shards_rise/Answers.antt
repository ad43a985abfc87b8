-- Each shard after the one before it.
use borrow.Author.Rules.{rules}
use Rattle.std.proofs.lemmas.Fn.{always_returns_same}
use Rattle.blocks_cache.specs.declared.cache.ShardGroup.{ShardGroup}
use Rattle.block_records.proofs.arrays.ListedLaws.{sorted_rises}
use Rattle.block_records.proofs.rules.BlockIdLaws.{shard_lt, shard_order}
use Rattle.block_records.proofs.rules.ListLaws.{by_order}
use Rattle.blocks_cache.specs.layout.Cache.{shard_group_before}
use Rattle.blocks_cache.proofs.soundness.shards_rise.Goals as goal

pub returns : goal.returns
returns c =
    sorted_rises shard_group_before (by_order shard_order (λ (g : ShardGroup). g.shard)) _ _
    (c.is_sorted_by.ensures.cases shard_group_before (always_returns_same _ _ _ (λ a r f q. search (rules, shard_lt))))
