-- What the code does to a group's places, for every input, sound or not. It goes by what is listed; the result has zeros in the places that are left.
-- On a packed group this is the rule of the model, packed (proofs/arrays/GroupLaws).
-- Assumes nothing.
use Rattle.std.specs.Prelude.{Bool, not, List, ℕ, eqb, get_or, Option, None, Some, map, filter, Err, Ok, Result}
use Rattle.block_records.specs.declared.block_id.BlockIdShort.{BlockIdShort}
use Rattle.blocks_group.specs.declared.group.Group.{Group}
use Rattle.block_records.specs.layout.Listed.{listed, put_listed}
use Rattle.block_records.specs.rules.Limits.{entries_limit}
use Rattle.blocks_group.specs.arrays.Search.{seqno_place}
use Rattle.blocks_group.specs.layout.Block.{BlockParts, block_before, block_seqno, zero_block}
use Rattle.blocks_group.specs.layout.Group.{with_blocks}
use Rattle.blocks_group.specs.rules.Group.{refreshed_mark}

-- what stands at the place that a search found; nothing where it found none
abbrev pub found_at : {A : Type 0} → A → List A → Result ℕ ℕ → Option A
found_at z xs (Ok k) = Some (get_or xs k z)
found_at z xs (Err k) = None

-- the boundary becomes the key, and nothing else changes
abbrev pub set_boundary : {B : Type 0} → BlockIdShort → Group B → Group B
set_boundary k g = record { mark = g.mark; boundary = Some k; entries = g.entries }

-- the mark raised to the seqno, if it is lower or absent
abbrev pub refresh_group : {B : Type 0} → ℕ → Group B → Group B
refresh_group n g = record { mark = refreshed_mark n g.mark; boundary = g.boundary; entries = g.entries }

module _ {B : Type 0} (k : BlockParts B) where
  -- the seqnos of what is listed
  abbrev pub listed_seqnos : Group B → List ℕ
  listed_seqnos g = map (block_seqno k) (listed g.entries)

  -- where a block of the seqno stands or would go in
  abbrev pub place_of_seqno : ℕ → Group B → Result ℕ ℕ
  place_of_seqno n g = seqno_place n (listed_seqnos g)

  -- the block there
  abbrev pub block_at : ℕ → Group B → Option B
  block_at n g = found_at (zero_block k) (listed g.entries) (place_of_seqno n g)

  -- the block in its place by rising seqno, one of the same seqno is replaced; where they would be more than 16, nothing changes
  abbrev pub put_block : B → Group B → Group B
  put_block b g = record { mark = g.mark; boundary = g.boundary; entries = put_listed entries_limit (zero_block k) (block_before k) b g.entries }

  -- the listed blocks that pass
  abbrev pub retain_blocks : (B → Bool) → Group B → Group B
  retain_blocks p g = with_blocks k (filter p (listed g.entries)) g

  -- a block is not of the seqno
  abbrev pub other_seqno : ℕ → B → Bool
  other_seqno n b = not (eqb (block_seqno k b) n)

  -- all blocks but that of the seqno
  abbrev pub without_block : ℕ → Group B → Group B
  without_block n g = retain_blocks (other_seqno n) g
