-- The rows of the items passed, and what is left to see.
use Rattle.blocks_cache.proofs.arrays.PeekLaws.{Viewed}
use Rattle.blocks_cache.proofs.lookup.Lookup.held_view_tops.Given as goal

abbrev pub invariant-loop-item : goal.invariant-loop-item
invariant-loop-item l = Viewed l.seqno l.self.cache.now l.item-items l.item-index l.rows
