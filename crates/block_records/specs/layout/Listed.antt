-- A list in a fixed number of places: the items first, zeros after them.
-- Assumes nothing.
use Rattle.std.specs.declared.cmp.Ordering.{Ordering}
use Rattle.std.specs.Ordering.{is_gt, is_lt}
use Rattle.std.specs.List.{list_all}
use Rattle.std.specs.Prelude.{Bool, ◌&&◌, ◌+◌, ◌≡◌, List, ℕ, cond, drop, leb, length, set, take}
use Rattle.block_records.specs.declared.block_id.BlockId.{BlockId}
use Rattle.block_records.specs.declared.block_id.BlockIdShort.{BlockIdShort}
use Rattle.block_records.specs.declared.listed.Listed.{Listed}
use Rattle.block_records.specs.declared.top_block.TopBlock.{TopBlock}
use Rattle.block_records.specs.rules.Limits.{keys_limit, prev_ids_limit, tops_limit}
use Rattle.block_records.specs.rules.Lists.{padded, put}

-- the items in n places, z in those that are left
abbrev pub packed : {A : Type 0} (n : ℕ) → A → List A → Listed A n
packed n z xs = record { count = length xs; items = padded n z xs }

-- previous ids, 2 at most
abbrev pub PrevIds : Type 0
PrevIds = Listed BlockId prev_ids_limit

-- keys, 9 at most
abbrev pub Keys : Type 0
Keys = Listed BlockIdShort keys_limit

-- top items, 8 at most
abbrev pub TopBlocks : Type 0
TopBlocks = Listed TopBlock tops_limit

-- the items below the count; a count past the places lists them all
abbrev pub listed : {A : Type 0} {n : ℕ} → Listed A n → List A
listed l = take l.count l.items

-- one more item, in the place after those that are listed
abbrev pub pushed : {A : Type 0} {n : ℕ} → A → Listed A n → Listed A n
pushed a l = record { count = l.count + 1; items = set l.items l.count a }

-- the count within n places, and p true of what stands after the items
abbrev pub tidy_listed : {A : Type 0} (n : ℕ) → (A → Bool) → Listed A n → Bool
tidy_listed n p l = leb l.count n && list_all p (drop l.count l.items)

-- a put among n places: where it would be one too many, nothing changes
abbrev pub put_listed : {A : Type 0} (n : ℕ) → A → (A → A → Bool) → A → Listed A n → Listed A n
put_listed n z lt a l = cond (leb (length (put lt a (listed l))) n) (packed n z (put lt a (listed l))) l

-- what comparing each with a tells is the order, seen from a
pub record Compares {A : Type 0} (lt : A → A → Bool) (a : A) (cmp : A → Ordering) : Type 0 where
  pub below : (x : A) → lt x a ≡ is_lt (cmp x)
  pub above : (x : A) → lt a x ≡ is_gt (cmp x)
