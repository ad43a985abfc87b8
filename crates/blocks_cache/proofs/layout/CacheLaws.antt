-- Packing a sound model and viewing it again gives the model; what a sound cache is; no_cache is not sound.
-- Assumes nothing.
use Rattle.block_records.specs.layout.Listed.{listed}
use Rattle.blocks_group.proofs.layout.GroupLaws.{all_kept_masters, all_kept_shards, group_same, view_pack_group}
use Rattle.blocks_group.proofs.rules.GroupLaws.{shard_no_tops}
use Rattle.blocks_group.specs.layout.Block.{master_laws, master_parts, shard_laws, shard_parts}
use Rattle.blocks_group.specs.layout.Group.{MasterGroup, held_empty_group}
use Rattle.blocks_group.specs.rules.Soundness.{of_shard, sound_group_model}
use Rattle.block_records.specs.declared.range.AppliedRange.{AppliedRange}
use Rattle.block_records.specs.declared.questions.Refusal.TheVariants.{Unsound}
use Rattle.std.specs.List.{list_all}
use Rattle.std.specs.Prelude.{map}
use Rattle.std.proofs.Common.{◌≡◌, ℕ, zero, suc, ◌<◌, ◌≤◌, true, false, not, List, [], ◌∷◌, length, take, sym, refl, ap, ◌∙◌, subst, ap₂, le_refl, arith}
use Rattle.blocks_cache.specs.declared.cache.Cache.{Cache}
use Rattle.blocks_cache.specs.declared.cache.ShardGroup.{ShardGroup}
use Rattle.blocks_cache.specs.declared.master_data.MasterData.{MasterData}
use Rattle.block_records.proofs.layout.EntryLaws.{take_padded}
use Rattle.block_records.proofs.layout.EqualityLaws.{both_same, id_same, list_same, nat_same, pair_same, shard_same, option_same}
use Rattle.block_records.proofs.rules.Tests.{and_intro}
use Rattle.block_records.specs.layout.Zeros.{zero_id}
use Rattle.block_records.specs.rules.BlockId.{is_masterchain}
use Rattle.block_records.specs.rules.Lists.{padded}
use Rattle.block_records.specs.rules.Order.{IsSame}
use Rattle.blocks_cache.specs.layout.Cache.{call_on, no_cache, pack, pack_shard, same_cache, same_data, same_range, same_seqnos, same_shard_group, sound_cache, view, view_shard, zero_cache, zero_shard_group}
use Rattle.cache_rules.proofs.SoundLaws.{parts, shard_parts as parts_of_shard}
use Rattle.cache_rules.specs.Calls.{Call, refused}
use Rattle.cache_rules.specs.Model.{Model, ShardModel, empty_model}
use Rattle.cache_rules.specs.Refusals.{sound_model, sound_shard_model}
use Rattle.std.proofs.lemmas.Bool.{not-true, false_from_ne_true}
use Rattle.std.proofs.lemmas.List.{length-map}
use Rattle.std.specs.Cmp.{first_so, second_so}

view_pack_shard_group : (g : ShardModel) → sound_shard_model g ≡ true → view_shard (pack_shard g) ≡ g
view_pack_shard_group g ok =
    let side = not-true (is_masterchain g.shard) (first_so (not (is_masterchain g.shard)) (sound_group_model (of_shard g.shard) g.group) ok) in
    let e = view_pack_group shard_parts g.group (all_kept_shards g.group.entries (shard_no_tops g.shard side g.group.entries (parts_of_shard g ok).fit)) in
    λ i. record { shard = g.shard; group = e i }

view_pack_shard_groups : (gs : List ShardModel) → list_all sound_shard_model gs ≡ true → map view_shard (map pack_shard gs) ≡ gs
view_pack_shard_groups [] ok = refl
view_pack_shard_groups (g ∷ gs) ok =
    ap₂ ◌∷◌ (view_pack_shard_group g (first_so (sound_shard_model g) (list_all sound_shard_model gs) ok)) (view_pack_shard_groups gs (second_so (sound_shard_model g) (list_all sound_shard_model gs) ok))

pub view_pack : (m : Model) → sound_model m ≡ true → view (pack m) ≡ m
view_pack m ok =
    let a : take (length m.ids) (padded 32 zero_id m.ids) ≡ m.ids = take_padded 32 zero_id m.ids in
    let b : map view_shard (listed (pack m).shards) ≡ m.shards =
    ap (map view_shard) (take_padded 8 zero_shard_group (map pack_shard m.shards)) ∙ view_pack_shard_groups m.shards (parts m ok).rest.shards.each_ok in
    let g = view_pack_group master_parts m.masters (all_kept_masters m.masters.entries) in
    λ i. record { zerostate = m.zerostate; masters = g i; ids = a i; range = m.range; shards = b i }

-- ===== equality =====

seqnos_same : IsSame same_seqnos
seqnos_same = both_same (λ (r : AppliedRange). r.start) (λ (r : AppliedRange). r.end) (λ a b p q. λ i. record { start = p i; end = q i }) nat_same nat_same

pub range_same : IsSame same_range
range_same = option_same same_seqnos seqnos_same

data_same : IsSame same_data
unfolding same_data
data_same =
    both_same (λ (d : MasterData). d.ids.count) (λ (d : MasterData). (d.range, d.ids.items)) (λ a b p q. λ i. record { ids = record { count = p i; items = (q i).1 }; range = (q i).0 })
    nat_same (pair_same range_same (list_same id_same))

shard_group_same : IsSame same_shard_group
unfolding same_shard_group
shard_group_same =
    both_same (λ (g : ShardGroup). g.shard) (λ (g : ShardGroup). g.group) (λ a b p q. λ i. record { shard = p i; group = q i }) shard_same (group_same shard_parts shard_laws)

abbrev cache_rest : Cache → ℕ × (MasterData × (MasterGroup × List ShardGroup))
cache_rest c = (c.zerostate_mc_seqno, (c.«data», (c.masters, c.shards.items)))

pub cache_same : IsSame same_cache
unfolding same_cache
cache_same =
    both_same (λ (c : Cache). c.shards.count) cache_rest
    (λ a b p q. λ i. record { zerostate_mc_seqno = (q i).0; masters = (q i).1.1.0; «data» = (q i).1.0; shards = record { count = p i; items = (q i).1.1.1 } })
    nat_same (pair_same nat_same (pair_same data_same (pair_same (group_same master_parts master_laws) (list_same shard_group_same))))

-- ===== sound caches =====

-- a sound cache is the packing of what it stands for, which is sound
pub sound_cache_packed : (c : Cache) → sound_cache c ≡ true → (c ≡ pack (view c)) × (sound_model (view c) ≡ true)
unfolding sound_cache
sound_cache_packed c h =
    (cache_same.same_eq c (pack (view c)) (first_so (same_cache c (pack (view c))) (sound_model (view c)) h), second_so (same_cache c (pack (view c))) (sound_model (view c)) h)

-- the packing of a sound model is sound
pub pack_sound : (m : Model) → sound_model m ≡ true → sound_cache (pack m) ≡ true
unfolding sound_cache
pack_sound m ok =
    let v = view_pack m ok in
    and_intro (subst (λ (x : Model). same_cache (pack m) (pack x) ≡ true) (sym v) (cache_same.same_refl (pack m))) (subst (λ (x : Model). sound_model x ≡ true) (sym v) ok)

-- ===== empty =====

pub take_at_most : {A : Type 0} (n : ℕ) (xs : List A) → length (take n xs) ≤ length xs
take_at_most zero xs = omega arith
take_at_most (suc n) [] = omega arith
take_at_most (suc n) (x ∷ xs) = let ih = take_at_most n xs in omega arith

-- a count past the places is not sound
pub count_unsound : (c : Cache) → length c.shards.items < c.shards.count → sound_cache c ≡ false
count_unsound c l =
    false_from_ne_true (sound_cache c)
    (λ h.
    let e : c.shards.count ≡ length (map pack_shard (map view_shard (listed c.shards))) = ap (λ (x : Cache). x.shards.count) (sound_cache_packed c h).0 in
    absurd (omega (arith, e, length-map (map view_shard (listed c.shards)) pack_shard, length-map (listed c.shards) view_shard, take_at_most c.shards.count c.shards.items)))

pub no_cache_unsound : sound_cache no_cache ≡ false
unfolding zero_cache
no_cache_unsound = count_unsound no_cache (le_refl 9)

-- every call on it answers 1
pub no_cache_refuses : (call : Call) → call_on no_cache call ≡ record { cache = no_cache; answer = refused Unsound; slice = call.lent }
unfolding call_on
no_cache_refuses call = rw no_cache_unsound

-- the empty cache, as it is held
pub pack_empty : (zerostate : ℕ) → pack (empty_model zerostate) ≡ zero_cache zerostate 0
unfolding padded zero_cache held_empty_group
pack_empty zerostate = refl
