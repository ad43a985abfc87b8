use Rattle.std.proofs.Common.{◌≡◌, ◌++◌, drop, take}
use Rattle.std.specs.Prelude.{map}
use Rattle.blocks_cache.specs.arrays.Collection.{collect_shard_group}
use Rattle.blocks_cache.proofs.collection.collect_shards.Given as goal

abbrev pub invariant-loop-held : goal.invariant-loop-held
invariant-loop-held l = l.listed ≡ map collect_shard_group (take l.held-index l.initial.listed) ++ drop l.held-index l.initial.listed
