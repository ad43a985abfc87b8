-- A cache is tidy exactly if its counts are within their places, its groups are tidy, and zeros stand in unused places: question 1 group by
-- group, each by the length of its own array, as the code asks it.
-- Assumes nothing.
use Rattle.block_records.specs.layout.Listed.{listed}
use Rattle.blocks_group.specs.layout.Block.{master_parts, shard_parts}
use Rattle.blocks_group.specs.layout.Group.{group_tidy}
use Rattle.block_records.specs.layout.Listed.{packed, tidy_listed}
use Rattle.block_records.specs.declared.range.AppliedRange.{AppliedRange}
use lib.Pointwise.{pointwise}
use Rattle.std.specs.List.{list_all}
use Rattle.std.specs.Prelude.{map, Option}
use Rattle.std.proofs.Common.{◌≡◌, Bool, true, ◌&&◌, eqb, leb, List, length, take, drop, ap, sym, ◌∙◌, ap₂}
use Rattle.blocks_cache.specs.declared.cache.Cache.{Cache}
use Rattle.blocks_cache.specs.declared.cache.ShardGroup.{ShardGroup}
use Rattle.blocks_cache.specs.declared.master_data.MasterData.{MasterData}
use Rattle.block_records.proofs.layout.EqualityLaws.{id_same, nat_same, shard_same}
use Rattle.block_records.proofs.layout.TidyLaws.{count_take, every_same, same_padded, tidy_listed_is}
use Rattle.block_records.specs.layout.Zeros.{is_zero_id, zero_id}
use Rattle.block_records.specs.rules.BlockId.{same_id}
use Rattle.block_records.specs.rules.Lists.{padded}
use Rattle.blocks_cache.proofs.layout.CacheLaws.{range_same}
use Rattle.blocks_cache.specs.layout.Cache.{cache_tidy, pack_shard, same_cache, same_data, same_range, same_shard_group, view_shard, zero_shard_group}
use mathlib.Core.List.{map-map}
use Rattle.std.proofs.lemmas.List.{length-map}

same_range_self : (r : Option AppliedRange) → same_range r r ≡ true
same_range_self r = range_same.same_refl r

abbrev shard_anew : ShardGroup → ShardGroup
shard_anew g = pack_shard (view_shard g)

shard_tidy_is : (g : ShardGroup) → same_shard_group g (shard_anew g) ≡ group_tidy shard_parts g.group
unfolding same_shard_group
shard_tidy_is g = rw (shard_same.same_refl g.shard)

data_tidy_is : (d : MasterData) → length d.ids.items ≡ 32 →
    same_data d (record { ids = packed 32 zero_id (take d.ids.count d.ids.items); range = d.range }) ≡ tidy_listed 32 is_zero_id d.ids
unfolding same_data
data_tidy_is d l =
    rw (same_range_self d.range) (sym (tidy_listed_is same_id id_same zero_id 32 d.ids l))

pub cache_tidy_is : (c : Cache) → length c.«data».ids.items ≡ 32 → length c.shards.items ≡ 8 →
    cache_tidy c
    ≡ leb c.shards.count 8 && (tidy_listed 32 is_zero_id c.«data».ids && (group_tidy master_parts c.masters
    && (list_all (λ (g : ShardGroup). group_tidy shard_parts g.group) (listed c.shards)
    && list_all (λ (g : ShardGroup). same_shard_group g zero_shard_group) (drop c.shards.count c.shards.items))))
unfolding same_cache
cache_tidy_is c zi zs =
    let n = c.shards.count in
    let gs = c.shards.items in
    let a : eqb n (length (map pack_shard (map view_shard (take n gs)))) ≡ leb n 8 =
    ap (eqb n) (length-map (map view_shard (take n gs)) pack_shard ∙ length-map (take n gs) view_shard) ∙ count_take n gs ∙ ap (leb n) zs in
    let b = ap (λ (r : List ShardGroup). pointwise same_shard_group gs (padded 8 zero_shard_group r)) (map-map pack_shard view_shard (take n gs)) ∙ same_padded same_shard_group shard_anew zero_shard_group 8 n gs zs in
    let d : list_all (λ (g : ShardGroup). same_shard_group g (shard_anew g)) (take n gs) ≡ list_all (λ (g : ShardGroup). group_tidy shard_parts g.group) (take n gs) =
    every_same (λ (g : ShardGroup). same_shard_group g (shard_anew g)) (λ (g : ShardGroup). group_tidy shard_parts g.group) (take n gs) (λ g u. shard_tidy_is g) in
    rw (nat_same.same_refl c.zerostate_mc_seqno)
    (ap₂ ◌&&◌ a (ap₂ ◌&&◌ (data_tidy_is c.«data» zi) (ap (λ (t : Bool). group_tidy master_parts c.masters && t) (b ∙ ap (λ (t : Bool). t && list_all (λ (g : ShardGroup). same_shard_group g zero_shard_group) (drop n gs)) d))))
