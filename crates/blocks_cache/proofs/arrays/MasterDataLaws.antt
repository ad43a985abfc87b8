-- Master data in its arrays: what is listed; and on packed data each function of the arrays is the rule, packed.
-- Assumes nothing.
use Rattle.block_records.proofs.arrays.ListedLaws.{any_finds}
use Rattle.std.specs.List.{find, list_any}
use Rattle.std.specs.Prelude.{is_some}
use Rattle.std.proofs.Common.{◌≡◌, ℕ, ◌≤◌, ◌||◌, ltb, List, length, ap, ◌∙◌, le-leb, Bool}
use Rattle.block_records.specs.declared.block_id.BlockId.{BlockId}
use Rattle.blocks_cache.specs.declared.master_data.MasterData.{MasterData}
use Rattle.block_records.proofs.layout.EntryLaws.{take_padded}
use Rattle.block_records.specs.layout.Zeros.{zero_id}
use Rattle.block_records.specs.rules.Lists.{last, put}
use Rattle.blocks_cache.specs.arrays.MasterData.{drop_ids_below, drop_ids_from, has_place_for_id, highest_id, id_at, listed_ids, put_id}
use Rattle.blocks_cache.specs.layout.Cache.{pack}
use Rattle.cache_rules.specs.Model.{Model, id_before, ids_below, ids_from, with_ids_and_range}

-- ===== on packed data =====

-- what is listed in the packing of a list is the list
pub listed_packed : (m : Model) → listed_ids (pack m).«data» ≡ m.ids
listed_packed m = take_padded 32 zero_id m.ids

-- the data of a model with other ids
abbrev repacked : List BlockId → Model → MasterData
repacked ids m = (pack (with_ids_and_range ids m.range m)).«data»

-- the id is put in, where there is room
pub put_id_packed : (i : BlockId) (m : Model) → length (put id_before i m.ids) ≤ 32 → put_id i (pack m).«data» ≡ repacked (put id_before i m.ids) m
put_id_packed i m h = rw (listed_packed m, le-leb (length (put id_before i m.ids)) 32 h)

-- the ids from s on stay
pub drop_ids_below_packed : (s : ℕ) (m : Model) → drop_ids_below s (pack m).«data» ≡ repacked (ids_from s m.ids) m
drop_ids_below_packed s m = ap (λ (ids : List BlockId). repacked (ids_from s ids) m) (listed_packed m)

-- the ids below s stay
pub drop_ids_from_packed : (s : ℕ) (m : Model) → drop_ids_from s (pack m).«data» ≡ repacked (ids_below s m.ids) m
drop_ids_from_packed s m = ap (λ (ids : List BlockId). repacked (ids_below s ids) m) (listed_packed m)

-- the last of the ids
pub highest_id_packed : (m : Model) → highest_id (pack m).«data» ≡ (last m.ids)
highest_id_packed m = ap (λ (ids : List BlockId). (last ids)) (listed_packed m)

-- question 9's room
pub has_place_for_id_packed : (n : ℕ) (m : Model) → has_place_for_id n (pack m).«data» ≡ is_some (find (id_at n) m.ids) || ltb (length m.ids) 32
has_place_for_id_packed n m =
    ap (λ (ids : List BlockId). list_any (id_at n) ids || ltb (length ids) 32) (listed_packed m)
    ∙ ap (λ (b : Bool). b || ltb (length m.ids) 32) (any_finds (id_at n) m.ids)
