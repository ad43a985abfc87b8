-- Packing an entry and viewing it again gives the entry.
-- Assumes nothing.
use mathlib.Core.List.{List, []}
use mathlib.Core.Path.{◌≡◌, sym}
use Prim.Native.Nat.{◌-◌, ℕ}
use lib.ListN.{length, replicate, take}
use lib.Seq.{take-append_seam}
use Rattle.block_records.specs.declared.block_id.BlockId.{BlockId}
use Rattle.block_records.specs.declared.top_block.TopBlock.{TopBlock}
use Rattle.block_records.specs.layout.Entry.{entry_tops, pack_entry, pack_prev_ids, pack_tops, view_entry, view_shard_entry}
use Rattle.block_records.specs.layout.Zeros.{zero_id, zero_top}
use Rattle.block_records.specs.rules.BlockId.{listed_prev_ids, listed_tops}
use Rattle.block_records.specs.rules.Entry.{Entry}
use Rattle.block_records.specs.rules.Lists.{padded}

module _ {A : Type 0} where
  -- the first places of a padded list are the list
  pub take_padded : (n : ℕ) (z : A) (xs : List A) → take (length xs) (padded n z xs) ≡ xs
  unfolding padded
  take_padded n z xs = take-append_seam xs (replicate (n - length xs) z)

pub view_pack_prev_ids : (xs : List BlockId) → listed_prev_ids (pack_prev_ids xs) ≡ xs
view_pack_prev_ids xs = take_padded 2 zero_id xs

pub view_pack_tops : (xs : List TopBlock) → listed_tops (pack_tops xs) ≡ xs
view_pack_tops xs = take_padded 8 zero_top xs

pub view_pack_entry : (e : Entry) → view_entry (pack_entry e) (listed_tops (entry_tops e)) ≡ e
view_pack_entry e = λ i. record {
  id = e.id;
  previous = view_pack_prev_ids e.previous i;
  tops = view_pack_tops e.tops i;
  anchor = e.anchor;
  reference = e.reference;
  payload = e.payload;
  kind = e.kind;
}

-- of an entry without top items
pub view_pack_shard_entry : (e : Entry) → e.tops ≡ [] → view_shard_entry (pack_entry e) ≡ e
view_pack_shard_entry e h = λ i. record {
  id = e.id;
  previous = view_pack_prev_ids e.previous i;
  tops = sym h i;
  anchor = e.anchor;
  reference = e.reference;
  payload = e.payload;
  kind = e.kind;
}
