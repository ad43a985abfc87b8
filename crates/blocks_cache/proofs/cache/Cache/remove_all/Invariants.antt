use Rattle.std.proofs.Common.{◌≡◌, take}
use Rattle.std.specs.List.{fold}
use Rattle.blocks_cache.specs.arrays.Collection.{held_remove_one}
use Rattle.blocks_cache.proofs.cache.Cache.remove_all.Given as goal

abbrev pub invariant-loop-key : goal.invariant-loop-key
invariant-loop-key l = l.self ≡ fold held_remove_one l.initial.self (take l.key-index l.key-items)
