-- Equality of the records, as tests: each decides whether two are one (proofs/layout/EqualityLaws).
-- Assumes nothing.
use lib.Pointwise.{pointwise}
use Rattle.std.specs.Prelude.{Bool, ◌&&◌, false, eqb, Option, ℕ}
use Rattle.std.specs.Bool.{beq}
use Rattle.std.specs.Option.{option_eq}
use Rattle.block_records.specs.declared.entry.BlockCacheEntry.{BlockCacheEntry}
use Rattle.block_records.specs.declared.entry.BlockCacheEntryData.{BlockCacheEntryData}
use Rattle.block_records.specs.declared.entry.BlockCacheEntryData.TheVariants.{Collated as collated, Received as received}
use Rattle.block_records.specs.declared.top_block.TopBlock.{TopBlock}
use Rattle.block_records.specs.layout.Listed.{PrevIds, TopBlocks}
use Rattle.block_records.specs.rules.BlockId.{same_id}
use Rattle.block_records.specs.rules.Entry.{same_status}

-- the same count, and the same id in every place
abbrev pub same_prev_ids : PrevIds → PrevIds → Bool
same_prev_ids a b = eqb a.count b.count && pointwise same_id a.items b.items

-- the same reference, id and flag
abbrev pub same_top : TopBlock → TopBlock → Bool
same_top a b =
    eqb a.ref_by_mc_seqno b.ref_by_mc_seqno && (same_id a.block_id b.block_id && beq a.updated b.updated)

-- the same count, and the same item in every place
abbrev pub same_tops : TopBlocks → TopBlocks → Bool
same_tops a b = eqb a.count b.count && pointwise same_top a.items b.items

-- both absent, or one number
abbrev pub same_anchor : Option ℕ → Option ℕ → Bool
same_anchor a b = option_eq eqb a b

-- the same case with the same fields
abbrev pub same_kind : BlockCacheEntryData → BlockCacheEntryData → Bool
same_kind (collated s r g w p) (collated s' r' g' w' p') =
    same_status s s' && (beq r r' && (eqb g g' && (eqb w w' && eqb p p')))
same_kind (collated s r g w p) (received c d) = false
same_kind (received c d) (collated s r g w p) = false
same_kind (received c d) (received c' d') = beq c c' && same_anchor d d'

-- the same in every field
unfoldable pub same_entry : BlockCacheEntry → BlockCacheEntry → Bool
same_entry a b =
    same_id a.block_id b.block_id && (same_prev_ids a.prev_ids b.prev_ids && (same_anchor a.top_anchor b.top_anchor
    && (eqb a.ref_by_mc_seqno b.ref_by_mc_seqno && (eqb a.payload b.payload && same_kind a.«data» b.«data»))))
