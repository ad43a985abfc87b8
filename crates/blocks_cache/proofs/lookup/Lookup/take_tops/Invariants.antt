-- The tops that are left make of the walk so far what all make of the first.
use Rattle.blocks_cache.proofs.arrays.TailWalkLaws.{TopsTaken}
use Rattle.blocks_cache.specs.arrays.TailIds.{first_state}
use Rattle.blocks_cache.proofs.lookup.Lookup.take_tops.Given as goal

abbrev pub invariant-loop-top : goal.invariant-loop-top
invariant-loop-top l = TopsTaken l.self.cache.now l.mc_seqno (first_state l.fn.first) l.top-items l.top-index l.tails l.queue
