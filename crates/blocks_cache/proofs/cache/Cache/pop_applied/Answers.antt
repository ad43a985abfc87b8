-- What the search finds decides.
use Rattle.std.proofs.Common.{ap, sym, ◌∙◌}
use Rattle.std.specs.Result.{result_ok}
use Rattle.blocks_cache.proofs.arrays.SubgraphsLaws.{pop_some, pop_zeroed}
use Rattle.blocks_cache.proofs.cache.Cache.pop_applied.Goals as goal

pub returns-clause-effect : goal.returns-clause-effect
returns-clause-effect c =
    let h = c.hand_out-subgraph in
    rw c.move_range_start.ensures
    (pop_some c.args.self.now c.requires.sound c.args.out.now c.args.from c.in_ok-master.master (sym c.first_applied.ensures ∙ c.ok_or.ensures.ok_part ∙ ap result_ok c.in_ok-master.was)
    h.new.self h.result h.new.out h.ensures.subgraph _ c.any_applied_above-last.ensures h.ensures.cache h.ensures.blocks)

pub returns-clause-zeros : goal.returns-clause-zeros
returns-clause-zeros c =
    let h = c.hand_out-subgraph in
    pop_zeroed c.args.self.now c.requires.sound c.args.out.now c.args.from c.in_ok-master.master (sym c.first_applied.ensures ∙ c.ok_or.ensures.ok_part ∙ ap result_ok c.in_ok-master.was)
    h.new.self h.result h.new.out h.ensures.subgraph _
