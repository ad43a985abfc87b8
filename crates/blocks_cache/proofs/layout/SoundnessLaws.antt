-- Question 1 part by part: a cache is sound exactly if its master group, range, ids and shard groups are, as they are held.
-- Assumes nothing.
use Rattle.blocks_group.specs.layout.Block.{master_parts, shard_parts}
use Rattle.blocks_group.specs.layout.Group.{group_tidy, sound_group, view_group}
use Rattle.blocks_group.specs.rules.Soundness.{of_shard, sound_group_model}
use Rattle.std.proofs.lemmas.List.Folds.{list_all-map}
use Rattle.std.specs.List.{list_all}
use Rattle.std.specs.Prelude.{map}
use Rattle.std.proofs.Common.{◌≡◌, ℕ, Bool, true, not, ◌&&◌, leb, List, [], ◌∷◌, length, take, drop, sym, refl, ◌∙◌, arith, le-leb}
use Rattle.blocks_cache.specs.declared.cache.Cache.{Cache}
use Rattle.blocks_cache.specs.declared.cache.ShardGroup.{ShardGroup}
use Rattle.block_records.proofs.rules.ListLaws.{every_weaken, rising_image}
use Rattle.block_records.proofs.rules.Tests.{and_intro, iff_same}
use Rattle.block_records.specs.layout.Listed.{tidy_listed}
use Rattle.block_records.specs.layout.Zeros.{is_zero_id}
use Rattle.block_records.specs.rules.BlockId.{is_masterchain}
use Rattle.block_records.specs.rules.Lists.{rising}
use Rattle.blocks_cache.proofs.layout.CacheLaws.{take_at_most}
use Rattle.blocks_cache.proofs.layout.TidyLaws.{cache_tidy_is}
use Rattle.blocks_cache.specs.layout.Cache.{cache_tidy, same_shard_group, shard_group_before, sound_cache, sound_cache_by_parts, sound_ids, sound_shard_group, sound_shards, view, view_shard, zero_shard_group}
use Rattle.cache_rules.proofs.SoundLaws.{parts}
use Rattle.cache_rules.specs.Model.{id_before, shard_before}
use Rattle.cache_rules.specs.Refusals.{id_masterchain, sound_model, sound_range, sound_shard_model}
use Rattle.std.proofs.lemmas.List.{length-map}
use Rattle.std.specs.Cmp.{first_so, second_so}

module _ {A : Type 0} where
  every_both : (p q : A → Bool) (xs : List A) → list_all p xs ≡ true → list_all q xs ≡ true → list_all (λ (x : A). p x && q x) xs ≡ true
  every_both p q [] a b = refl
  every_both p q (x ∷ xs) a b =
      and_intro (and_intro (first_so (p x) (list_all p xs) a) (first_so (q x) (list_all q xs) b)) (every_both p q xs (second_so (p x) (list_all p xs) a) (second_so (q x) (list_all q xs) b))

module _ (c : Cache) (zi : length c.«data».ids.items ≡ 32) (zs : length c.shards.items ≡ 8) where
  abbrev n : ℕ
  n = c.shards.count

  abbrev now : List ShardGroup
  now = take n c.shards.items

  abbrev shards_sound : Bool
  shards_sound = list_all (λ (g : ShardGroup). sound_shard_model (view_shard g)) now

  -- one shard group: tidy, and its model sound
  one_shard : (g : ShardGroup) → group_tidy shard_parts g.group && sound_shard_model (view_shard g) ≡ true → sound_shard_group g ≡ true
  one_shard g h =
      let t : group_tidy shard_parts g.group ≡ true = first_so (group_tidy shard_parts g.group) (sound_shard_model (view_shard g)) h in
      let s : sound_shard_model (view_shard g) ≡ true = second_so (group_tidy shard_parts g.group) (sound_shard_model (view_shard g)) h in
      and_intro (first_so (not (is_masterchain g.shard)) (sound_group_model (of_shard g.shard) (view_group shard_parts g.group)) s)
      (and_intro t (second_so (not (is_masterchain g.shard)) (sound_group_model (of_shard g.shard) (view_group shard_parts g.group)) s))

  shard_one : (g : ShardGroup) → sound_shard_group g ≡ true → group_tidy shard_parts g.group && sound_shard_model (view_shard g) ≡ true
  shard_one g h =
      let a : not (is_masterchain g.shard) ≡ true = first_so (not (is_masterchain g.shard)) (sound_group shard_parts (of_shard g.shard) g.group) h in
      let b : sound_group shard_parts (of_shard g.shard) g.group ≡ true = second_so (not (is_masterchain g.shard)) (sound_group shard_parts (of_shard g.shard) g.group) h in
      and_intro (first_so (group_tidy shard_parts g.group) (sound_group_model (of_shard g.shard) (view_group shard_parts g.group)) b)
      (and_intro a (second_so (group_tidy shard_parts g.group) (sound_group_model (of_shard g.shard) (view_group shard_parts g.group)) b))

  to_parts : cache_tidy c && sound_model (view c) ≡ true → sound_cache_by_parts c ≡ true
  unfolding sound_model
  to_parts h =
      let t : leb n 8 && (tidy_listed 32 is_zero_id c.«data».ids && (group_tidy master_parts c.masters && (list_all (λ (g : ShardGroup). group_tidy shard_parts g.group) now
      && list_all (λ (g : ShardGroup). same_shard_group g zero_shard_group) (drop n c.shards.items)))) ≡ true =
      sym (cache_tidy_is c zi zs) ∙ first_so (cache_tidy c) (sound_model (view c)) h in
      let p = parts (view c) (second_so (cache_tidy c) (sound_model (view c)) h) in
      let count : leb n 8 ≡ true = search first_so depth 8 in
      let ids : tidy_listed 32 is_zero_id c.«data».ids ≡ true = search (first_so, second_so) depth 8 in
      let masters : group_tidy master_parts c.masters ≡ true = search (first_so, second_so) depth 8 in
      let groups : list_all (λ (g : ShardGroup). group_tidy shard_parts g.group) now ≡ true = search (first_so, second_so) depth 8 in
      let zeros : list_all (λ (g : ShardGroup). same_shard_group g zero_shard_group) (drop n c.shards.items) ≡ true = search (first_so, second_so) depth 8 in
      let sounds : shards_sound ≡ true = sym (list_all-map sound_shard_model view_shard now) ∙ p.rest.shards.each_ok in
      let r : sound_range (c.masters.mark) (c.«data».range) ≡ true =
      first_so (sound_range (c.masters.mark) (c.«data».range)) _ (second_so (cache_tidy c) (sound_model (view c)) h) in
      and_intro (and_intro masters p.rest.masters) (and_intro r (and_intro
      (and_intro ids (and_intro p.rest.ids.order p.rest.ids.side))
      (and_intro (and_intro count zeros) (and_intro (sym (rising_image view_shard shard_before now) ∙ p.rest.shards.order)
      (every_weaken (λ (g : ShardGroup). group_tidy shard_parts g.group && sound_shard_model (view_shard g)) sound_shard_group now one_shard
      (every_both (λ (g : ShardGroup). group_tidy shard_parts g.group) (λ (g : ShardGroup). sound_shard_model (view_shard g)) now groups sounds))))))

  from_parts : sound_cache_by_parts c ≡ true → cache_tidy c && sound_model (view c) ≡ true
  unfolding sound_model
  from_parts h =
      let m : sound_group master_parts is_masterchain c.masters ≡ true = first_so (sound_group master_parts is_masterchain c.masters) _ h in
      let h' = second_so (sound_group master_parts is_masterchain c.masters) _ h in
      let r : sound_range (c.masters.mark) (c.«data».range) ≡ true = first_so (sound_range (c.masters.mark) (c.«data».range)) _ h' in
      let h'' = second_so (sound_range (c.masters.mark) (c.«data».range)) _ h' in
      let i : sound_ids c.«data» ≡ true = first_so (sound_ids c.«data») (sound_shards c.shards) h'' in
      let s : sound_shards c.shards ≡ true = second_so (sound_ids c.«data») (sound_shards c.shards) h'' in
      let ids : tidy_listed 32 is_zero_id c.«data».ids ≡ true = search first_so in
      let id_order : rising id_before (take c.«data».ids.count c.«data».ids.items) ≡ true = search (first_so, second_so) in
      let id_side : list_all id_masterchain (take c.«data».ids.count c.«data».ids.items) ≡ true = search (first_so, second_so) in
      let count : leb n 8 ≡ true = search first_so in
      let zeros : list_all (λ (g : ShardGroup). same_shard_group g zero_shard_group) (drop n c.shards.items) ≡ true = search (first_so, second_so) in
      let order : rising shard_group_before now ≡ true = search (first_so, second_so) in
      let groups : list_all sound_shard_group now ≡ true = search (first_so, second_so) in
      let tidy : list_all (λ (g : ShardGroup). group_tidy shard_parts g.group) now ≡ true =
      every_weaken sound_shard_group (λ (g : ShardGroup). group_tidy shard_parts g.group) now (λ g k. first_so (group_tidy shard_parts g.group) (sound_shard_model (view_shard g)) (shard_one g k)) groups in
      let sounds : shards_sound ≡ true =
      every_weaken sound_shard_group (λ (g : ShardGroup). sound_shard_model (view_shard g)) now (λ g k. second_so (group_tidy shard_parts g.group) (sound_shard_model (view_shard g)) (shard_one g k)) groups in
      let few : leb (length (take c.«data».ids.count c.«data».ids.items)) 32 ≡ true =
      le-leb (length (take c.«data».ids.count c.«data».ids.items)) 32 (omega (arith, take_at_most c.«data».ids.count c.«data».ids.items, zi)) in
      let few' : leb (length (map view_shard now)) 8 ≡ true = le-leb (length (map view_shard now)) 8 (omega (arith, length-map now view_shard, take_at_most n c.shards.items, zs)) in
      and_intro
      (cache_tidy_is c zi zs ∙ and_intro count (and_intro ids (and_intro (first_so (group_tidy master_parts c.masters) _ m) (and_intro tidy zeros))))
      (and_intro r (and_intro (second_so (group_tidy master_parts c.masters) _ m) (and_intro few (and_intro id_order (and_intro id_side (and_intro few'
      (and_intro (rising_image view_shard shard_before now ∙ order) (list_all-map sound_shard_model view_shard now ∙ sounds))))))))

  pub sound_cache_parts : sound_cache c ≡ sound_cache_by_parts c
  unfolding sound_cache
  sound_cache_parts = iff_same (cache_tidy c && sound_model (view c)) (sound_cache_by_parts c) to_parts from_parts
