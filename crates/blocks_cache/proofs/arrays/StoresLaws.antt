-- What both stores of the whole cache share: what is stored in a packed cache, and the group of a shard as it is held.
-- Assumes nothing.
use Rattle.block_records.specs.declared.range.AppliedRange.{AppliedRange}
use Rattle.block_records.specs.declared.questions.Refusal.{Refusal}
use Rattle.block_records.specs.declared.questions.Refusal.TheVariants.{NoRoom}
use Rattle.std.specs.Prelude.{Option, Err, Ok, Result, option_map, None, Some, map, cond, is_some}
use Rattle.std.proofs.Common.{◌≡◌, ℕ, ◌≤◌, Bool, true, false, ◌||◌, ltb, List, [], length, sym, refl, ap, ◌∙◌, arith, leb-true}
use Rattle.block_records.specs.declared.block_id.BlockId.{BlockId}
use Rattle.block_records.specs.declared.block_id.ShardIdent.{ShardIdent}
use Rattle.blocks_cache.specs.declared.cache.Cache.{Cache}
use Rattle.blocks_group.specs.declared.group.Group.{Group}
use Rattle.blocks_group.specs.declared.store.GroupStore.{GroupStore}
use Rattle.blocks_group.specs.declared.store.StoreAnswer.{StoreAnswer}
use Rattle.blocks_group.specs.declared.store.StoreAnswer.TheVariants.{Stored as stored_answer, Synced as synced_answer}
use Rattle.blocks_cache.specs.declared.cache.ShardGroup.{ShardGroup}
use Rattle.block_records.proofs.arrays.ArrayLaws.{each_put}
use Rattle.block_records.proofs.rules.Tests.{clash, on}
use Rattle.block_records.specs.rules.BlockId.{id_shard, is_masterchain, less_shard}
use Rattle.block_records.specs.rules.Lists.{last, put, rising}
use Rattle.blocks_group.proofs.arrays.StoreLaws.{model_room}
use Rattle.blocks_group.proofs.rules.GroupLaws.{GroupParts, group_parts}
use Rattle.blocks_group.specs.layout.Block.{master_parts, shard_parts}
use Rattle.blocks_group.specs.layout.Group.{ShardBlocks, held_empty_group as no_blocks, pack_group}
use Rattle.blocks_group.specs.rules.Group.{GroupModel, entry_before}
use Rattle.blocks_group.specs.rules.Soundness.{of_shard}
use Rattle.blocks_cache.proofs.arrays.MasterDataLaws.{highest_id_packed}
use Rattle.blocks_cache.proofs.arrays.ShardsLaws.{listed_packed, listed_shard_packed, put_shard_packed}
use Rattle.blocks_cache.specs.arrays.MasterData.{highest_id}
use Rattle.blocks_cache.specs.arrays.Stores.{held_in, shard_held, answered_in, unless_refused, with_shard_group, StoreStep, refused_in, store_says}
use Rattle.blocks_cache.specs.layout.Cache.{HeldOutcome, Shards, pack, pack_outcome, pack_shard, unlent_outcome}
use Rattle.cache_rules.proofs.ShardLaws.{group_of_sound, shards_set}
use Rattle.cache_rules.proofs.SoundLaws.{parts}
use Rattle.cache_rules.specs.Calls.{stored}
use Rattle.cache_rules.specs.Effects.{outcome_of, plain}
use Rattle.cache_rules.specs.Model.{Model, ShardModel, entry_for, find_shard, group_for, group_in, group_of, set_group, shard_before, with_ids_and_range, with_shards}
use Rattle.cache_rules.specs.Refusals.{has_room, sound_model}
use Rattle.std.proofs.lemmas.List.{length-map}

-- what a store answers and leaves; no slice is lent with it
abbrev pub store_outcome : StoreStep → HeldOutcome
store_outcome s = unlent_outcome s.cache (store_says s.answer)

-- ===== where nothing is stored =====

-- a group's answer that is not Stored: Synced or a refusal, and the cache as it was
abbrev pub nothing_stored : Result StoreAnswer Refusal → Cache → StoreStep
nothing_stored (Ok a) h = answered_in a h
nothing_stored (Err n) h = refused_in n h

-- what a group's store answers, without the group
abbrev pub group_answer : {B : Type 0} → Result (GroupStore B) Refusal → Result StoreAnswer Refusal
group_answer (Ok s) = Ok s.answer
group_answer (Err n) = Err n

-- no block is stored
abbrev pub IsUnstored : Result StoreAnswer Refusal → Type 0
IsUnstored a = (both mismatch : Bool) → a ≡ Ok (stored_answer both mismatch) → ⊥

-- so nothing is stored in the cache, by any definition that stores nothing where the answer is Synced
pub unstored : {B : Type 0} (made : GroupStore B → StoreStep) (h : Cache) →
    ((g : Group B) → answered_in synced_answer h ≡ made (record { answer = synced_answer; group = g })) →
    (o : Result (GroupStore B) Refusal) → IsUnstored (group_answer o) → nothing_stored (group_answer o) h ≡ unless_refused o made h
unstored made h is (Err n) t = refl
unstored {B = B} made h is (Ok s) t = by_answer s.answer t
  where
    by_answer : (a : StoreAnswer) → IsUnstored (Ok a) → answered_in a h ≡ made (record { answer = a; group = s.group })
    by_answer (stored_answer both mismatch) u = absurd (u both mismatch refl)
    by_answer synced_answer u = is s.group

-- ===== what is stored in a packed cache =====

-- the answer of a store that leaves a model
abbrev pub store_leaves : Bool → Bool → Model → HeldOutcome
store_leaves both mismatch m = pack_outcome (outcome_of (plain (stored both mismatch (last m.ids) m.range) m) [])

pub stored_packed : (both mismatch : Bool) (m : Model) → store_outcome (answered_in (stored_answer both mismatch) (pack m)) ≡ store_leaves both mismatch m
stored_packed both mismatch m =
    let i : (highest_id (pack m).«data») ≡ last m.ids = highest_id_packed m in
    λ k. unlent_outcome (pack m) (stored both mismatch (i k) m.range)

-- ===== the group of a shard in a packed cache =====

-- none of a shard, and no room for one
pub neither : (o : Option ShardModel) (b : Bool) → is_some o || b ≡ false → (o ≡ None) × (b ≡ false)
neither None b h = (refl, h)
neither (Some x) b h = clash refl h

module _ (s : ShardIdent) (m : Model) where
  -- question 8 of the groups: there is one, or a further one fits
  abbrev pub shard_room : Bool
  shard_room = is_some (find_shard s m.shards) || ltb (length m.shards) 8

  held_by : (o : Option ShardModel) →
      held_in (option_map pack_shard o) (pack m).shards ≡ cond (is_some o || ltb (length m.shards) 8) (Ok (pack_group shard_parts (group_in o))) (Err NoRoom)
  unfolding no_blocks
  held_by None =
      ap (λ (gs : List ShardGroup). cond (ltb (length gs) 8) (Ok (no_blocks shard_parts)) (Err NoRoom)) (listed_packed m)
      ∙ ap (λ (n : ℕ). cond (ltb n 8) (Ok (no_blocks shard_parts)) (Err NoRoom)) (length-map m.shards pack_shard)
  held_by (Some g) = refl

  -- the group is the model's; there is room where question 8 has it
  pub held_packed : rising shard_before m.shards ≡ true → shard_held s (pack m).shards ≡ cond shard_room (Ok (pack_group shard_parts (group_of s m.shards))) (Err NoRoom)
  unfolding shard_held
  held_packed r = ap (λ (o : Option ShardGroup). held_in o (pack m).shards) (listed_shard_packed s m r) ∙ held_by (find_shard s m.shards)

  -- what is made of the group of a shard block, by whether there is room for it
  pub where_held_packed : rising shard_before m.shards ≡ true → (made : ShardBlocks → StoreStep) (left : HeldOutcome) → is_masterchain s ≡ false →
      (shard_room ≡ true → store_outcome (made (pack_group shard_parts (group_for s m))) ≡ left) →
      (shard_room ≡ false → store_outcome (refused_in NoRoom (pack m)) ≡ left) →
      store_outcome (unless_refused (shard_held s (pack m).shards) made (pack m)) ≡ left
  where_held_packed r made left side there full =
      let e : group_of s m.shards ≡ group_for s m = rw side in
      let by = λ (b : Bool). store_outcome (unless_refused (cond b (Ok (pack_group shard_parts (group_of s m.shards))) (Err NoRoom)) made (pack m)) in
      ap (λ (o : Result ShardBlocks Refusal). store_outcome (unless_refused o made (pack m))) (held_packed r)
      ∙ on shard_room
      (λ t. ap by t ∙ ap (λ (g : GroupModel). store_outcome (made (pack_group shard_parts g))) e ∙ there t)
      (λ t. ap by t ∙ full t)

  module _ (ok : sound_model m ≡ true) where
    -- the group of a block's shard stands by seqno, within its places
    pub group_fits : (rising entry_before (group_for s m).entries ≡ true) × (length (group_for s m).entries ≤ 16)
    group_fits =
        on (is_masterchain s)
        (λ t. rw t (fits (group_parts is_masterchain m.masters (parts m ok).rest.masters)))
        (λ t. rw t (fits (group_parts (of_shard s) (group_of s m.shards) (group_of_sound s m.shards (parts m ok).rest.shards))))
      where
        fits : {p : ShardIdent → Bool} {g : GroupModel} → GroupParts p g → (rising entry_before g.entries ≡ true) × (length g.entries ≤ 16)
        fits {g = g} p = (p.order, leb-true (length g.entries) 16 p.count)

    -- how many shard groups there are does not depend on the group that is put
    set_length_by : (g : GroupModel) → length (set_group s g m.shards) ≡ length (put less_shard s (map (λ (x : ShardModel). x.shard) m.shards))
    set_length_by g =
        sym (length-map (set_group s g m.shards) (λ (x : ShardModel). x.shard))
        ∙ ap length (sym (each_put (λ (x : ShardModel). x.shard) shard_before less_shard (λ x y. refl) (record { shard = s; group = g }) m.shards))

    set_few : (g : GroupModel) → is_masterchain s ≡ false → shard_room ≡ true → length (set_group s g m.shards) ≤ 8
    set_few g side room =
        let h = (parts m ok).rest.shards in
        let x = group_of s m.shards in
        let l = leb-true (length (set_group s x m.shards)) 8 (shards_set s x m.shards h side (group_of_sound s m.shards h) room).count in
        omega (arith, set_length_by g, set_length_by x)

    -- the group put in, and any master data
    pub with_shard_packed : (g : GroupModel) (ids : List BlockId) (range : Option AppliedRange) → is_masterchain s ≡ false → shard_room ≡ true →
        with_shard_group (record { shard = s; group = pack_group shard_parts g }) (pack (with_ids_and_range ids range m)).«data» (pack m)
        ≡ pack (with_ids_and_range ids range (with_shards (set_group s g m.shards) m))
    with_shard_packed g ids range side room =
        ap (λ (x : Shards). record {
          zerostate_mc_seqno = m.zerostate;
          masters = pack_group master_parts m.masters;
          «data» = (pack (with_ids_and_range ids range m)).«data»;
          shards = x;
        }) (put_shard_packed (record { shard = s; group = g }) m (set_few g side room))

-- question 8, where a group of the shard stands or can be put
pub has_room_is : (i : BlockId) (m : Model) → is_masterchain (id_shard i) || shard_room (id_shard i) m ≡ true →
    has_room i m ≡ is_some (entry_for i m) || model_room (group_for (id_shard i) m)
has_room_is i m h = rw h (on (model_room (group_for (id_shard i) m)) (λ t. rw t) (λ t. rw t))
