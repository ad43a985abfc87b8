-- RULES.md, Questions: 2 to 4 of an entry as it is held.
-- Assumes nothing.
use Rattle.std.specs.Prelude.{Bool, ◌&&◌}
use Rattle.block_records.specs.declared.entry.BlockCacheEntry.{BlockCacheEntry}
use Rattle.block_records.specs.layout.Listed.{TopBlocks}
use Rattle.block_records.specs.layout.Zeros.{zero_tops}
use Rattle.block_records.specs.rules.BlockId.{listed_prev_ids, listed_tops}
use Rattle.block_records.specs.rules.Questions.{counts_fit, links_fit, seqnos_fit}

-- all true of an entry, with the top items beside it
unfoldable pub held_entry_fits : BlockCacheEntry → TopBlocks → Bool
held_entry_fits b t =
    seqnos_fit b.block_id b.ref_by_mc_seqno (listed_prev_ids b.prev_ids) (listed_tops t)
    && (counts_fit b.block_id b.prev_ids.count t.count && links_fit b.block_id (listed_prev_ids b.prev_ids) (listed_tops t))

-- .. of a shard's entry, beside which no top items stand
abbrev pub held_shard_entry_fits : BlockCacheEntry → Bool
held_shard_entry_fits b = held_entry_fits b zero_tops
