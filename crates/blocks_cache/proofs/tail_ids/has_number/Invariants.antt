-- It is among the numbers passed, or among those that are left.
use Rattle.std.proofs.Common.{◌≡◌, ◌||◌, drop}
use Rattle.blocks_cache.specs.arrays.TailIds.{has_number}
use Rattle.blocks_cache.proofs.tail_ids.has_number.Given as goal

abbrev pub invariant-loop-known : goal.invariant-loop-known
invariant-loop-known l = l.has || has_number (drop l.known-index l.numbers) l.number ≡ has_number l.numbers l.number
