-- The invariant: the ids of the items passed, in their places.
use Rattle.std.specs.Prelude.{map}
use Rattle.std.proofs.Common.{◌≡◌, take}
use Rattle.block_records.specs.layout.Zeros.{zero_id}
use Rattle.block_records.specs.rules.Lists.{padded}
use Rattle.cache_rules.specs.Extraction.{top_id}
use Rattle.blocks_cache.proofs.extraction.held_starting_ids.Given as goal

abbrev pub invariant-loop-i : goal.invariant-loop-i
invariant-loop-i l = l.items ≡ padded 264 zero_id (take l.i (map top_id l.item-items))
