-- The capacities, as src/limits.rt has them, for the rules and for the arrays.
-- Assumes nothing.
use Rattle.std.specs.Prelude.{ℕ}

-- previous ids of a block
abbrev pub prev_ids_limit : ℕ
prev_ids_limit = 2

-- top items of a master block
abbrev pub tops_limit : ℕ
tops_limit = 8

-- keys that are given at once: one for the masterchain and one for each shard
abbrev pub keys_limit : ℕ
keys_limit = 9

-- entries of a group
abbrev pub entries_limit : ℕ
entries_limit = 16

-- shard groups of a cache
abbrev pub shards_limit : ℕ
shards_limit = 8

-- last collated ids
abbrev pub ids_limit : ℕ
ids_limit = 32

-- places that a lent slice must have: all entries of all shard groups
abbrev pub slice_places : ℕ
slice_places = 128

-- ids that an extraction takes: those of the top items, and the previous ids of all shard blocks
abbrev pub waiting_places : ℕ
waiting_places = 264

-- rows of tail ids: the master's, and one for each shard of a top item or of a group
abbrev pub rows_limit : ℕ
rows_limit = 17

-- ids that tail ids queue: the previous ids of all shard blocks
abbrev pub queued_limit : ℕ
queued_limit = 256

-- places for them, and two more, so that a block's previous ids can always be written
abbrev pub queued_places : ℕ
queued_places = 258

-- places of the array from which a slice is lent for a caller that can't lend one
abbrev pub array_places : ℕ
array_places = 160
