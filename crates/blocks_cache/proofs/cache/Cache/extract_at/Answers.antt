-- What the lookup finds decides.
use Rattle.std.proofs.Common.{sym, ◌∙◌}
use Rattle.blocks_cache.proofs.arrays.SubgraphsLaws.{sync_some}
use Rattle.blocks_cache.proofs.cache.Cache.extract_at.Goals as goal

pub returns-clause-effect : goal.returns-clause-effect
returns-clause-effect c =
    let h = c.hand_out-subgraph in
    rw (c.refreshed-self.ensures, c.move_applied_start.ensures)
    (sync_some c.args.self.now c.requires.sound c.args.out.now c.args.seqno c.in-Some.master (sym c.at.ensures ∙ c.in-Some.is) h.new.self h.result h.new.out h.ensures.subgraph h.ensures.cache
    h.ensures.blocks)
