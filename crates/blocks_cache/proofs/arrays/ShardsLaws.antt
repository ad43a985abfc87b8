-- Shard groups in their places: what is listed, and a group put at its place; on packed groups each function of the places is the rule, packed.
-- Assumes nothing.
use Rattle.std.specs.Ordering.{is_eq, is_lt}
use Rattle.std.specs.Prelude.{map, Err, Ok, Some, option_map, Result}
use Rattle.blocks_group.specs.arrays.Group.{found_at}
use Rattle.std.proofs.Common.{◌≡◌, ℕ, ◌<◌, ◌≤◌, true, List, length, sym, refl, ap, ap₂, ◌∙◌, arith, le-leb}
use Rattle.block_records.specs.declared.block_id.ShardIdent.{ShardIdent}
use Rattle.blocks_cache.specs.declared.cache.ShardGroup.{ShardGroup}
use Rattle.block_records.proofs.arrays.ArrayLaws.{each_put}
use Rattle.block_records.proofs.arrays.PlaceLaws.{at_within, element_at, place_each, place_finds}
use Rattle.block_records.proofs.rules.BlockIdLaws.{shard_eq_is, shard_gt_is, shard_lt_is, shard_order, shard_ordering}
use Rattle.block_records.proofs.rules.OrderLaws.{differs, less_not_same}
use Rattle.block_records.proofs.rules.Tests.{clash}
use Rattle.block_records.specs.arrays.Place.{place}
use Rattle.block_records.specs.layout.Listed.{Compares, listed, packed}
use Rattle.block_records.specs.rules.BlockId.{less_shard}
use Rattle.block_records.specs.rules.Lists.{put, rising}
use Rattle.blocks_cache.specs.arrays.Shards.{listed_shard, put_shard, shard_at, shard_below, shard_place}
use Rattle.blocks_cache.specs.layout.Cache.{Shards, pack, pack_shard, shard_group_before, view_shard, zero_shard_group}
use Rattle.cache_rules.specs.Model.{Model, ShardModel, find_shard, is_shard, shard_before}
use lib.ListN.{get_or-map}
use Rattle.std.proofs.lemmas.List.{get_or_default, length-map}
use Rattle.block_records.proofs.layout.EntryLaws.{take_padded}

-- ===== a search that compares the shards =====

pub shard_searched : (s : ShardIdent) (gs : List ShardGroup) →
    place (λ (g : ShardGroup). is_lt (shard_ordering g.shard s)) (λ (g : ShardGroup). is_eq (shard_ordering g.shard s)) gs ≡ shard_place s gs
shard_searched s gs = λ i. place (λ (g : ShardGroup). shard_lt_is g.shard s i) (λ (g : ShardGroup). shard_eq_is g.shard s i) gs

pub shard_compares : (g : ShardGroup) → Compares shard_group_before g (λ (x : ShardGroup). shard_ordering x.shard g.shard)
shard_compares g = record { below = λ x. sym (shard_lt_is x.shard g.shard); above = λ x. sym (shard_gt_is x.shard g.shard) }

-- ===== on packed groups =====

pub listed_packed : (m : Model) → listed (pack m).shards ≡ map pack_shard m.shards
listed_packed m = take_padded 8 zero_shard_group (map pack_shard m.shards)

abbrev packed_shards : List ShardModel → Shards
packed_shards gs = packed 8 zero_shard_group (map pack_shard gs)

-- the group is put in, where there is room
pub put_shard_packed : (g : ShardModel) (m : Model) → length (put shard_before g m.shards) ≤ 8 →
    put_shard (pack_shard g) (pack m).shards ≡ packed_shards (put shard_before g m.shards)
put_shard_packed g m h =
    let e : put shard_group_before (pack_shard g) (map pack_shard m.shards) ≡ map pack_shard (put shard_before g m.shards) =
    each_put pack_shard shard_before shard_group_before (λ x y. refl) g m.shards in
    let n : length (map pack_shard (put shard_before g m.shards)) ≡ length (put shard_before g m.shards) = length-map (put shard_before g m.shards) pack_shard in
    rw (listed_packed m, e, le-leb (length (map pack_shard (put shard_before g m.shards))) 8 (omega arith))

-- where a shard's group stands is where the model has it
pub shard_place_packed : (s : ShardIdent) (m : Model) → shard_place s (listed (pack m).shards) ≡ place (λ (g : ShardModel). less_shard g.shard s) (is_shard s) m.shards
shard_place_packed s m = ap (place (shard_below s) (shard_at s)) (listed_packed m) ∙ place_each pack_shard (shard_below s) (shard_at s) m.shards

-- .. and nowhere else; d is any group
pub find_shard_packed : (s : ShardIdent) (m : Model) → rising shard_before m.shards ≡ true → (d : ShardModel) →
    find_shard s m.shards
    ≡ element_at (λ (g : ShardModel). less_shard g.shard s) (is_shard s) d (shard_place s (listed (pack m).shards)) m.shards
find_shard_packed s m r d =
    place_finds (λ (g : ShardModel). less_shard g.shard s) (is_shard s) shard_before (λ x t. less_not_same shard_order x.shard s t)
    (λ x y t u l. rw (differs shard_order y.shard s (λ e. clash (shard_order.trans s x.shard y.shard (shard_order.tri x.shard s u t) l) (rw e (shard_order.irrefl s))))) d m.shards r
    ∙ ap (λ (f : Result ℕ ℕ). element_at (λ (g : ShardModel). less_shard g.shard s) (is_shard s) d f m.shards) (sym (shard_place_packed s m))

-- the group of a shard is the model's
pub listed_shard_packed : (s : ShardIdent) (m : Model) → rising shard_before m.shards ≡ true → listed_shard s (pack m).shards ≡ option_map pack_shard (find_shard s m.shards)
listed_shard_packed s m r =
    let d = view_shard zero_shard_group in
    let p = place (λ (g : ShardModel). less_shard g.shard s) (is_shard s) m.shards in
    ap₂ (found_at zero_shard_group) (listed_packed m) (shard_place_packed s m)
    ∙ by p refl
    ∙ sym (ap (option_map pack_shard) (find_shard_packed s m r d ∙ ap (λ (f : Result ℕ ℕ). element_at (λ (g : ShardModel). less_shard g.shard s) (is_shard s) d f m.shards) (shard_place_packed s m)))
  where
    by : (f : Result ℕ ℕ) → place (λ (g : ShardModel). less_shard g.shard s) (is_shard s) m.shards ≡ f →
        found_at zero_shard_group (map pack_shard m.shards) f
        ≡ option_map pack_shard (element_at (λ (g : ShardModel). less_shard g.shard s) (is_shard s) (view_shard zero_shard_group) f m.shards)
    by (Err k) e = refl
    by (Ok k) e =
        let l : k < length m.shards = at_within (λ (g : ShardModel). less_shard g.shard s) (is_shard s) m.shards k e in
        ap Some (get_or_default (map pack_shard m.shards) k zero_shard_group (pack_shard (view_shard zero_shard_group)) (omega (arith, l, length-map m.shards pack_shard)) ∙ get_or-map pack_shard m.shards k (view_shard zero_shard_group))
