-- The invariant: those of the entries passed that are still cached have been moved.
use Rattle.std.specs.Prelude.{is_some, map}
use Rattle.block_records.proofs.arrays.ArrayLaws.{Compacted}
use Rattle.block_records.specs.layout.Zeros.{zero_entry}
use Rattle.blocks_cache.proofs.extraction.compact_group.Given as goal

abbrev pub invariant-loop-i : goal.invariant-loop-i
invariant-loop-i l = Compacted 16 zero_entry (map is_some l.seqnos.entries) l.group.entries.items l.i l.entries.count l.entries.items
