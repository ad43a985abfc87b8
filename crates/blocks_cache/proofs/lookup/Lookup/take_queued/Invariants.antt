-- The places that are left make of the walk so far what all make of the first.
use Rattle.std.proofs.Common.{◌-◌}
use Rattle.blocks_cache.proofs.arrays.TailWalkLaws.{QueueTaken}
use Rattle.blocks_cache.proofs.lookup.Lookup.take_queued.Given as goal

abbrev pub invariant-loop-id : goal.invariant-loop-id
invariant-loop-id l = QueueTaken l.self.cache.now l.mc_seqno l.fn.walk l.j l.tails l.queue

abbrev pub decreases-loop-id : goal.decreases-loop-id
decreases-loop-id l = 256 - l.j
