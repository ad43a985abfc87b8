-- What the code does to the master data's arrays, for every input, sound or not. It goes by what is listed; the result has zeros in the places
-- that are left. On packed data this is the rule of the model, packed (proofs/arrays/MasterDataLaws).
-- Assumes nothing.
use Rattle.std.specs.List.{list_any}
use Rattle.std.specs.Prelude.{ℕ, Bool, ◌||◌, List, length, take, ◌==◌, nat_lt, Option}
use Rattle.block_records.specs.declared.block_id.BlockId.{BlockId}
use Rattle.blocks_cache.specs.declared.master_data.MasterData.{MasterData}
use Rattle.block_records.specs.layout.Zeros.{zero_id}
use Rattle.block_records.specs.rules.Limits.{ids_limit}
use Rattle.block_records.specs.layout.Listed.{packed, put_listed}
use Rattle.block_records.specs.rules.Lists.{last}
use Rattle.cache_rules.specs.Model.{id_before, ids_below, ids_from}

-- ===== what is listed =====

-- the ids below the count; a count past the 32 places lists them all
abbrev pub listed_ids : MasterData → List BlockId
listed_ids d = take d.ids.count d.ids.items

-- these ids, and zeros after them
abbrev pub with_ids : List BlockId → MasterData → MasterData
with_ids ids d = record { ids = packed ids_limit zero_id ids; range = d.range }

-- ===== an id put in by seqno =====

-- an id below the seqno
abbrev pub id_below : ℕ → BlockId → Bool
id_below n i = nat_lt i.seqno n

-- an id of the seqno
abbrev pub id_at : ℕ → BlockId → Bool
id_at n i = i.seqno == n

-- one of the same seqno is replaced; nothing changes where they would be more than 32
abbrev pub put_id : BlockId → MasterData → MasterData
put_id i d = record { ids = put_listed ids_limit zero_id id_before i d.ids; range = d.range }

-- ===== ids that go =====

-- the listed ids from s on stay
abbrev pub drop_ids_below : ℕ → MasterData → MasterData
drop_ids_below s d = with_ids (ids_from s (listed_ids d)) d

-- the listed ids below s stay
abbrev pub drop_ids_from : ℕ → MasterData → MasterData
drop_ids_from s d = with_ids (ids_below s (listed_ids d)) d

-- ===== what is read =====

-- the last id that is listed, the highest where they rise
abbrev pub highest_id : MasterData → Option BlockId
highest_id d = last (listed_ids d)

-- a listed id has the seqno
abbrev pub has_id : ℕ → MasterData → Bool
has_id n d = list_any (id_at n) (listed_ids d)

-- question 9 of a seqno: an id has it already, or the ids are not full
abbrev pub has_place_for_id : ℕ → MasterData → Bool
has_place_for_id n d = has_id n d || nat_lt (length (listed_ids d)) ids_limit
