use Rattle.std.specs.Prelude.{option_map}
use Rattle.std.proofs.Common.{sym, ap, ◌∙◌}
use Rattle.blocks_cache.proofs.arrays.TailWalkLaws.{queue_joined}
use Rattle.blocks_cache.proofs.lookup.Lookup.take_queued.Goals as goal

pub loop-id-preserved-then-block-mc_seqno : goal.loop-id-preserved-then-block-mc_seqno
loop-id-preserved-then-block-mc_seqno c =
    let w = c.in-Some-cached_block in
    queue_joined c.loop-id.invariant c.in-Some.ensures.few c.in-Some.id c.in-Some.ensures.id c.if-id-eq0.false w.block.now (sym c.cached_block.ensures ∙ ap (option_map (λ b. b.now)) w.is) c.if-block-mc_seqno.true _
    (rw c.cached_row.ensures at c.hold_row.ensures) c.add.new.self c.add.ensures
