-- The starting items as they are listed; what extraction does to the groups in their places, one after the other.
-- Assumes nothing.
use Rattle.std.proofs.Common.{◌≡◌, ℕ, zero, suc, ◌<◌, List, [], ◌∷◌, length, get_or, sym, refl, ap, ◌∙◌, ap₂, le_of_suc-le-suc, arith}
use native.Mathlib.Nat.{suc_inj}
use Rattle.block_records.specs.declared.top_block.TopBlock.{TopBlock}
use Rattle.block_records.specs.layout.Listed.{TopBlocks}
use Rattle.block_records.proofs.layout.EntryLaws.{view_pack_tops}
use Rattle.block_records.specs.layout.Entry.{pack_tops}
use Rattle.block_records.specs.rules.BlockId.{listed_tops}
use Rattle.blocks_cache.specs.declared.cache.ShardGroup.{ShardGroup}
use Rattle.blocks_cache.specs.declared.lookup.GroupSeqnos.{GroupSeqnos}
use Rattle.blocks_cache.specs.arrays.Extraction.{compact_shard, compact_shards, held_starting_items}

-- the starting items that are listed are the rule's
pub starting_listed : (z : ℕ) (t s : TopBlocks) (xs : List TopBlock) → s ≡ pack_tops (held_starting_items z t) → xs ≡ listed_tops s → xs ≡ held_starting_items z t
starting_listed z t s xs made listed_is = listed_is ∙ ap listed_tops made ∙ view_pack_tops (held_starting_items z t)

pub length_compact : (gs : List ShardGroup) (ss : List GroupSeqnos) → length gs ≡ length ss → length (compact_shards gs ss) ≡ length gs
length_compact [] ss e = refl
length_compact (g ∷ gs) [] e = absurd (omega arith)
length_compact (g ∷ gs) (s ∷ ss) e = ap suc (length_compact gs ss (suc_inj e))

compact_at : (gs : List ShardGroup) (ss : List GroupSeqnos) (i : ℕ) (d g : ShardGroup) (s : GroupSeqnos) → i < length gs → length gs ≡ length ss →
    get_or (compact_shards gs ss) i d ≡ compact_shard (get_or gs i g) (get_or ss i s)
compact_at [] ss i d g s h e = absurd (omega arith)
compact_at (x ∷ gs) [] i d g s h e = absurd (omega arith)
compact_at (x ∷ gs) (y ∷ ss) zero d g s h e = refl
compact_at (x ∷ gs) (y ∷ ss) (suc i) d g s h e = compact_at gs ss i d g s (le_of_suc-le-suc h) (suc_inj e)

-- a group compacted with the seqnos at its place is what stands at that place
pub compacted : (gs : List ShardGroup) (ss : List GroupSeqnos) (i : ℕ) (d g : ShardGroup) (s : GroupSeqnos) → i < length gs → length gs ≡ length ss →
    g ≡ get_or gs i g → s ≡ get_or ss i s → compact_shard g s ≡ get_or (compact_shards gs ss) i d
compacted gs ss i d g s h e p q = ap₂ compact_shard p q ∙ sym (compact_at gs ss i d g s h e)
