-- The invariant: the arrays hold what the rule has made of as many ids.
use Rattle.std.proofs.Common.{◌-◌}
use Rattle.blocks_cache.proofs.arrays.ExtractionRun.{Run}
use Rattle.blocks_cache.proofs.questions.SoundCache.held_walk.Given as goal

abbrev pub invariant-loop-head : goal.invariant-loop-head
invariant-loop-head l = Run l.cache l.master l.index.idents l.index.seqnos l.waiting.items l.waiting.count l.joined.items l.joined.count l.head

abbrev pub decreases-loop-head : goal.decreases-loop-head
decreases-loop-head l = 264 - l.head
