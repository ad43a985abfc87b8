use Rattle.std.specs.Prelude.{option_map}
use Rattle.std.proofs.Common.{sym, ap, ◌∙◌}
use Rattle.blocks_cache.proofs.arrays.TailWalkLaws.{top_cached, top_missing}
use Rattle.blocks_cache.proofs.lookup.Lookup.take_tops.Goals.{in-Some, in-None}
use Rattle.blocks_cache.proofs.lookup.Lookup.take_tops.Goals as goal

pub loop-top-preserved : goal.loop-top-preserved
loop-top-preserved c =
    elim c.match-cached_block.branch [
      | in-Some w ↦
          rw (w.tails-is, w.queue-is)
          (top_cached c.loop-top.invariant c.loop-top-test.true _ c.if-id-eq0.false w.in-Some.block.now (sym c.cached_block.ensures ∙ ap (option_map (λ b. b.now)) w.in-Some.is) _
          (rw w.cached_row.ensures at w.hold_row.ensures) w.add.new.self w.add.ensures)
      | in-None w ↦
          rw (w.tails-is, w.queue-is)
          (top_missing c.loop-top.invariant c.loop-top-test.true _ c.if-id-eq0.false (sym c.cached_block.ensures ∙ ap (option_map (λ b. b.now)) w.in-None.is) _
          (rw w.missing_row.ensures at w.hold_row-in-None.ensures))
    ]
