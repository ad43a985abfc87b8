-- What was found among the ids passed.
use Rattle.blocks_cache.proofs.arrays.TailRowLaws.{FreshSoFar}
use Rattle.blocks_cache.proofs.tail_ids.fresh_ids.Given as goal

abbrev pub invariant-loop-id : goal.invariant-loop-id
invariant-loop-id l = FreshSoFar l.known l.id-items l.id-index l.fresh
