-- The walk's numbers, and its blocks as they are listed.
use Rattle.blocks_cache.proofs.arrays.SubgraphsLaws.{walk_numbers}
use Rattle.blocks_cache.specs.arrays.Extraction.{held_walk}
use Rattle.blocks_cache.proofs.cache.Cache.hand_out.Goals as goal

pub returns-clause-subgraph : goal.returns-clause-subgraph
returns-clause-subgraph c =
    rw c.held_walk-extraction.ensures (walk_numbers c.args.master (held_walk c.args.master c.args.self.now))
