-- What pop, peek, collect and remove next collated ask of one group, for every input, sound or not: by what is listed.
-- On a packed group each is what the rules say of the model (proofs/arrays/QueryLaws).
-- Assumes nothing.
use Rattle.block_records.specs.declared.block_id.BlockIdShort.{BlockIdShort}
use Prim.Native.Nat.{max, min}
use Rattle.std.specs.List.{find, list_any, reduce}
use Rattle.std.specs.Prelude.{Bool, ◌&&◌, ◌||◌, false, not, List, ℕ, leb, ltb, Option, None, Some, map, filter, Result}
use Rattle.blocks_group.specs.declared.group.Group.{Group}
use Rattle.block_records.specs.arrays.Place.{place}
use Rattle.block_records.specs.layout.Listed.{listed}
use Rattle.block_records.specs.rules.Entry.{kind_applied, kind_received}
use Rattle.blocks_group.specs.arrays.Group.{retain_blocks}
use Rattle.blocks_group.specs.layout.Block.{BlockParts, block_kind, block_seqno}

-- ===== the highest and the lowest of some seqnos =====

-- the highest of some numbers; absent where there is none
abbrev pub highest_seqno : List ℕ → Option ℕ
highest_seqno ns = reduce max ns

-- the lowest of some numbers; absent where there is none
abbrev pub lowest_seqno : List ℕ → Option ℕ
lowest_seqno ns = reduce min ns

module _ {B : Type 0} (k : BlockParts B) where
  -- the seqnos of the listed blocks that pass
  abbrev pub seqnos_of : (B → Bool) → Group B → List ℕ
  seqnos_of p g = map (block_seqno k) (filter p (listed g.entries))

  -- ===== applied blocks =====

  -- applied, at or above a seqno
  abbrev pub held_applied_from : ℕ → B → Bool
  held_applied_from n b = leb n (block_seqno k b) && kind_applied (block_kind k b)

  -- applied, above a seqno
  abbrev pub held_applied_above : ℕ → B → Bool
  held_applied_above n b = ltb n (block_seqno k b) && kind_applied (block_kind k b)

  -- its place, the first one from f on; how many are listed, where there is none
  abbrev pub first_applied_place : ℕ → Group B → Result ℕ ℕ
  first_applied_place f g = place (λ (b : B). not (held_applied_from f b)) (held_applied_from f) (listed g.entries)

  -- pop and peek: the first block of that sort, from f on
  abbrev pub first_applied_block : ℕ → Group B → Option B
  first_applied_block f g = find (held_applied_from f) (listed g.entries)

  -- pop: some listed block is applied, above a seqno
  abbrev pub any_applied_above : ℕ → Group B → Bool
  any_applied_above n g = list_any (held_applied_above n) (listed g.entries)

  -- ===== collect =====

  -- a block below the boundary; none is without one
  abbrev pub below_group_boundary : Option BlockIdShort → B → Bool
  below_group_boundary None b = false
  below_group_boundary (Some key) b = ltb (block_seqno k b) key.seqno

  -- the highest seqno that a collection takes out
  abbrev pub highest_below_boundary : Group B → Option ℕ
  highest_below_boundary g = highest_seqno (seqnos_of (below_group_boundary g.boundary) g)

  -- the listed blocks that are not below the boundary; unchanged without one
  abbrev pub collected_by : Option BlockIdShort → Group B → Group B
  collected_by None g = g
  collected_by (Some key) g = retain_blocks k (λ (b : B). leb key.seqno (block_seqno k b)) g

  -- a group collected by its own boundary
  abbrev pub collect_group : Group B → Group B
  collect_group g = collected_by g.boundary g

  -- ===== remove next collated =====

  -- a block above a seqno that is not Received
  abbrev pub block_collated_above : ℕ → B → Bool
  block_collated_above n b = ltb n (block_seqno k b) && not (kind_received (block_kind k b))

  -- the lowest seqno that a removal takes out
  abbrev pub lowest_collated_above : ℕ → Group B → Option ℕ
  lowest_collated_above n g = lowest_seqno (seqnos_of (block_collated_above n) g)

  -- the listed blocks that are not above a seqno, or Received
  abbrev pub remove_collated_above : ℕ → Group B → Group B
  remove_collated_above n g = retain_blocks k (λ (b : B). leb (block_seqno k b) n || kind_received (block_kind k b)) g
