-- The collated store of the whole cache is the rule, packed, on a sound cache; and after the questions of its record it is the call.
-- Assumes nothing.
use Rattle.blocks_cache.proofs.layout.AskedLaws.{asked_sound, own_refused, rest_decides, sound_passes}
use Rattle.block_records.specs.declared.questions.Refusal.{Refusal}
use Rattle.block_records.specs.declared.questions.Refusal.TheVariants.{AlreadyStored, NoIdRoom, NoRoom}
use Rattle.std.specs.List.{find}
use Rattle.std.specs.Prelude.{Option, None, Some, cond, is_some, Err, Ok, Result}
use Rattle.std.proofs.Common.{◌≡◌, Bool, true, false, not, ◌&&◌, ◌||◌, ltb, List, [], ◌∷◌, ◌++◌, length, sym, refl, ap, ◌∙◌}
use Rattle.block_records.specs.declared.block_id.BlockId.{BlockId}
use Rattle.block_records.specs.declared.block_id.ShardIdent.{ShardIdent}
use Rattle.block_records.specs.declared.entry.BlockCacheEntry.{BlockCacheEntry}
use Rattle.block_records.specs.declared.entry.MasterBlock.{MasterBlock}
use Rattle.block_records.specs.declared.store_records.BlockCandidate.{BlockCandidate}
use Rattle.blocks_group.specs.declared.store.GroupStore.{GroupStore}
use Rattle.blocks_group.specs.declared.store.StoreAnswer.TheVariants.{Stored as stored_answer}
use Rattle.blocks_cache.specs.declared.cache.Cache.{Cache}
use Rattle.blocks_cache.specs.declared.master_data.MasterData.{MasterData}
use Rattle.block_records.proofs.layout.QuestionLaws.{first_no_append, or_else}
use Rattle.block_records.proofs.rules.Tests.{absurd_eq, on}
use Rattle.block_records.specs.rules.BlockId.{id_shard, is_masterchain, same_id}
use Rattle.block_records.specs.rules.Entry.{Entry, is_received}
use Rattle.block_records.specs.rules.Lists.{put}
use Rattle.block_records.specs.rules.Questions.{Question, ask, candidate_questions, first_no, check_candidate}
use Rattle.blocks_group.proofs.arrays.StoreLaws.{collated_outcome, collated_place_questions, model_room, pack_store, pack_stored, store_collated_packed, stored_into, unless, with_change}
use Rattle.blocks_group.specs.arrays.Store.{collated_store}
use Rattle.blocks_group.specs.layout.Block.{BlockLaws, BlockParts, master_laws, master_parts, shard_laws, shard_parts}
use Rattle.blocks_group.specs.layout.Group.{pack_group}
use Rattle.blocks_group.specs.rules.Group.{GroupModel, Stored, store_collated_at, vacant_or}
use Rattle.blocks_cache.proofs.arrays.MasterDataLaws.{has_place_for_id_packed, put_id_packed}
use Rattle.blocks_cache.proofs.arrays.StoresLaws.{IsUnstored, group_answer, group_fits, has_room_is, neither, nothing_stored, unstored, shard_room, store_leaves, stored_packed, where_held_packed, with_shard_packed, store_outcome}
use Rattle.blocks_cache.proofs.layout.CallOnLaws.{on_sound}
use Rattle.blocks_cache.specs.arrays.MasterData.{id_at}
use Rattle.blocks_cache.specs.arrays.Stores.{collated_ids, master_candidate_stored, shard_candidate_stored, store_candidate, store_master_candidate, store_shard_candidate, answered_in, shard_candidate_in, unless_refused, with_masters_and_data, StoreStep}
use Rattle.blocks_cache.specs.layout.Cache.{HeldOutcome, answered_on, pack, pack_outcome, sound_cache, view, unlent_outcome, call_on}
use Rattle.cache_rules.proofs.SoundLaws.{parts}
use Rattle.cache_rules.proofs.StoreLaws.{ids_length, inserts_is}
use Rattle.cache_rules.specs.Calls.{refused, store_collated, unlent}
use Rattle.cache_rules.specs.Effects.{answered, collated_data, effect, store_change}
use Rattle.cache_rules.specs.Model.{Model, entry_for, find_shard, group_for, id_before, moved_start, set_group, with_ids_and_range, with_masters, with_shards}
use Rattle.cache_rules.specs.Refusals.{further, has_id_room, has_room, inserts_or_updates, sound_model}

-- ===== where nothing is stored =====

-- a candidate that its group's store doesn't store leaves the cache as it was
pub master_candidate_unstored : (c : BlockCandidate) (h : Cache) (o : Result (GroupStore MasterBlock) Refusal) → IsUnstored (group_answer o) →
    nothing_stored (group_answer o) h ≡ unless_refused o (master_candidate_stored c h) h
master_candidate_unstored c h = unstored (master_candidate_stored c h) h (λ g. refl)

pub shard_candidate_unstored : (s : ShardIdent) (h : Cache) (o : Result (GroupStore BlockCacheEntry) Refusal) → IsUnstored (group_answer o) →
    nothing_stored (group_answer o) h ≡ unless_refused o (shard_candidate_stored s h) h
shard_candidate_unstored s h = unstored (shard_candidate_stored s h) h (λ g. refl)

-- ===== on a packed cache =====

-- the questions after the record's own
abbrev pub candidate_rest : BlockCandidate → Model → List Question
candidate_rest c m =
    ask AlreadyStored (vacant_or is_received (entry_for c.block_id m)) ∷ ask NoRoom (has_room c.block_id m) ∷ ask NoIdRoom (has_id_room c m) ∷ []

-- a mismatch changes nothing; else an entry is put
mismatch_keeps : (c : BlockCandidate) (o : Option Entry) → (store_collated_at c o).mismatch ≡ true → (store_collated_at c o).change ≡ None
mismatch_keeps c None h = absurd_eq h
mismatch_keeps c (Some e) h = on (same_id e.id c.block_id) (λ t. absurd_eq (rw t at h)) (λ t. rw t)

match_changes : (c : BlockCandidate) (o : Option Entry) → (store_collated_at c o).mismatch ≡ false → is_some (store_collated_at c o).change ≡ true
match_changes c None h = refl
match_changes c (Some e) h = on (same_id e.id c.block_id) (λ t. rw t) (λ t. absurd_eq (sym (rw t at h)))

side_only : (a b : Bool) → a ≡ true → not (a && b) ≡ not b
side_only a b t = rw t

module _ (c : BlockCandidate) (m : Model) (ok : sound_model m ≡ true) where
  abbrev i : BlockId
  i = c.block_id

  abbrev shard_of : ShardIdent
  shard_of = id_shard i

  -- the block's group, and what the rule makes of the entry at its seqno
  abbrev its_group : GroupModel
  its_group = group_for shard_of m

  abbrev made_of : Stored
  made_of = store_collated_at c (entry_for i m)

  abbrev by_rule : Option Refusal → HeldOutcome
  by_rule q = pack_outcome (answered q m (unlent (store_collated c)))

  -- what the rule answers once 7 and 8 are asked: the number of 9, or the store
  abbrev by_nine : Bool → Stored → HeldOutcome
  by_nine nine r =
      cond nine (store_leaves r.both r.mismatch (collated_data i r.mismatch (store_change shard_of r.change m)))
      (record { cache = pack m; answer = refused NoIdRoom; slice = [] })

  nine_decides : (nine : Bool) → by_nine nine made_of ≡ by_rule (first_no (ask NoIdRoom nine ∷ []))
  unfolding effect
  nine_decides true = refl
  nine_decides false = refl

  made_packed : {B : Type 0} (k : BlockParts B) → BlockLaws k → collated_store k c (pack_group k its_group) ≡ pack_store k (collated_outcome c (entry_for i m) its_group)
  made_packed k laws = let f = group_fits shard_of m ok in store_collated_packed k laws its_group f.0 f.1 c

  -- The store of the block's group, whichever group it is: what the cache makes of the answer is the rule, if it is so of an answer that is stored. 7 and
  -- 8 are those of the group, where there is one or can be.
  module _ {B : Type 0} (k : BlockParts B) (laws : BlockLaws k) (made : GroupStore B → StoreStep)
      (stores : store_outcome (made (pack_stored k (stored_into made_of (with_change made_of.change its_group)))) ≡ by_nine (has_id_room c m) made_of)
      (room : is_masterchain shard_of || shard_room shard_of m ≡ true) where
    abbrev asked : List Question
    asked = collated_place_questions (entry_for i m) (model_room its_group)

    by_refusal : (q : Option Refusal) →
        store_outcome (unless_refused (pack_store k (unless q (stored_into made_of (with_change made_of.change its_group)))) made (pack m))
        ≡ by_rule (or_else q (first_no (ask NoIdRoom (has_id_room c m) ∷ [])))
    by_refusal None = stores ∙ nine_decides (has_id_room c m)
    by_refusal (Some n) = refl

    put_by_rule : store_outcome (unless_refused (collated_store k c (pack_group k its_group)) made (pack m)) ≡ by_rule (first_no (candidate_rest c m))
    put_by_rule =
        ap (λ (s : Result (GroupStore B) Refusal). store_outcome (unless_refused s made (pack m))) (made_packed k laws)
        ∙ by_refusal (first_no asked)
        ∙ ap by_rule
        (sym (first_no_append asked (ask NoIdRoom (has_id_room c m) ∷ []))
        ∙ ap (λ (b : Bool). first_no (ask AlreadyStored (vacant_or is_received (entry_for i m)) ∷ ask NoRoom b ∷ ask NoIdRoom (has_id_room c m) ∷ [])) (sym (has_room_is i m room)))

  -- ===== a master =====

  module _ (side : is_masterchain shard_of ≡ true) where
    abbrev placed : Bool
    placed = is_some (find (id_at i.seqno) m.ids) || ltb (length m.ids) 32

    -- the model that is left where the group's store inserts or updates
    abbrev master_left : Option Entry → Model
    master_left x = with_ids_and_range (put id_before i m.ids) (moved_start i.seqno m.range) (with_masters (with_change x its_group) m)

    left_by_rule : (x : Option Entry) → master_left x ≡ collated_data i false (store_change shard_of x m)
    left_by_rule None = rw side
    left_by_rule (Some e) = rw side

    ids_collated : placed ≡ true → collated_ids i (pack m).«data» ≡ (pack (with_ids_and_range (put id_before i m.ids) (moved_start i.seqno m.range) m)).«data»
    ids_collated u = put_id_packed i (with_ids_and_range m.ids (moved_start i.seqno m.range) m) (ids_length i (find (id_at i.seqno) m.ids) m.ids (parts m ok).rest.ids refl u)

    master_stored : (both mismatch : Bool) (x : Option Entry) → (mismatch ≡ true → x ≡ None) →
        store_outcome (master_candidate_stored c (pack m) (record { answer = stored_answer both mismatch; group = pack_group master_parts (with_change x its_group) }))
        ≡ by_nine (mismatch || placed) (record { change = x; both = both; mismatch = mismatch })
    master_stored both true x none_there = rw (none_there refl, side) (stored_packed both true m)
    master_stored both false x none_there =
        on placed
        (λ u. rw (has_place_for_id_packed i.seqno m, u)
        (ap (λ (d : MasterData). store_outcome (answered_in (stored_answer both false) (with_masters_and_data (pack_group master_parts (with_change x its_group)) d (pack m)))) (ids_collated u)
        ∙ stored_packed both false (master_left x)
        ∙ ap (store_leaves both false) (left_by_rule x)))
        (λ u. rw (has_place_for_id_packed i.seqno m, u))

    -- 9, of a master
    nine_of_master : has_id_room c m ≡ made_of.mismatch || placed
    nine_of_master = ap (λ (b : Bool). b || placed) (side_only (is_masterchain shard_of) (inserts_or_updates c (entry_for i m)) side ∙ inserts_is c (entry_for i m))

    master_packed : store_outcome (store_master_candidate c (pack m)) ≡ by_rule (first_no (candidate_rest c m))
    unfolding store_master_candidate
    master_packed =
        let e : m.masters ≡ its_group = rw side in
        ap (λ (g : GroupModel). store_outcome (unless_refused (collated_store master_parts c (pack_group master_parts g)) (master_candidate_stored c (pack m)) (pack m))) e
        ∙ put_by_rule master_parts master_laws (master_candidate_stored c (pack m))
        (master_stored made_of.both made_of.mismatch made_of.change (mismatch_keeps c (entry_for i m)) ∙ ap (λ (nine : Bool). by_nine nine made_of) (sym nine_of_master))
        (rw side)

  -- ===== a shard block =====

  module _ (side : is_masterchain shard_of ≡ false) where
    -- for a new shard there are 8 groups
    shard_refused : shard_room shard_of m ≡ false → first_no (candidate_rest c m) ≡ Some NoRoom
    shard_refused t = let n = neither (find_shard shard_of m.shards) (ltb (length m.shards) 8) t in rw (side, n.0, n.1)

    shard_stored : shard_room shard_of m ≡ true → (both mismatch : Bool) (x : Option Entry) → (mismatch ≡ true → x ≡ None) → (mismatch ≡ false → is_some x ≡ true) →
        store_outcome (shard_candidate_stored shard_of (pack m) (record { answer = stored_answer both mismatch; group = pack_group shard_parts (with_change x its_group) }))
        ≡ by_nine true (record { change = x; both = both; mismatch = mismatch })
    shard_stored t both true x keeps puts = rw (keeps refl, side) (stored_packed both true m)
    shard_stored t both false None keeps puts = absurd_eq (puts refl)
    shard_stored t both false (Some e) keeps puts =
        ap (λ (k : Cache). store_outcome (answered_in (stored_answer both false) k)) (with_shard_packed shard_of m ok (with_change (Some e) its_group) m.ids m.range side t)
        ∙ stored_packed both false (with_shards (set_group shard_of (with_change (Some e) its_group) m.shards) m)
        ∙ rw side

    shard_packed : store_outcome (store_shard_candidate c (pack m)) ≡ by_rule (first_no (candidate_rest c m))
    unfolding store_shard_candidate
    shard_packed =
        let nine : has_id_room c m ≡ true = rw side in
        where_held_packed shard_of m (parts m ok).rest.shards.order (shard_candidate_in c (pack m)) (by_rule (first_no (candidate_rest c m))) side
        (λ t.
        put_by_rule shard_parts shard_laws (shard_candidate_stored shard_of (pack m))
        (shard_stored t made_of.both made_of.mismatch made_of.change (mismatch_keeps c (entry_for i m)) (match_changes c (entry_for i m)) ∙ ap (λ (b : Bool). by_nine b made_of) (sym nine))
        (rw (side, t)))
        (λ t. ap by_rule (sym (shard_refused t)))

  pub candidate_packed : store_outcome (store_candidate c (pack m)) ≡ by_rule (first_no (candidate_rest c m))
  unfolding store_candidate
  candidate_packed =
      let by = λ (b : Bool). store_outcome (cond b (store_master_candidate c (pack m)) (store_shard_candidate c (pack m))) in
      on (is_masterchain shard_of) (λ t. ap by t ∙ master_packed t) (λ t. ap by t ∙ shard_packed t)

-- ===== on a sound cache =====

candidate_decided : (c : BlockCandidate) (h : Cache) → sound_cache h ≡ true →
    store_outcome (store_candidate c h) ≡ answered_on (first_no (candidate_rest c (view h))) h (unlent (store_collated c))
candidate_decided c h ok = on_sound (unlent (store_collated c)) (λ (x : Cache). store_outcome (store_candidate c x)) (candidate_rest c) (candidate_packed c) h ok

candidate_split : (c : BlockCandidate) (h : Cache) → further (view h) 0 (store_collated c) ≡ candidate_questions c ++ candidate_rest c (view h)
unfolding further
candidate_split c h = refl

-- ===== the call =====

module _ (c : BlockCandidate) (h : Cache) where
  pub candidate_refused : (n : Refusal) → asked_sound h ≡ Ok tt → check_candidate c ≡ Err n → unlent_outcome h (refused n) ≡ call_on h (unlent (store_collated c))
  candidate_refused n sound e = own_refused h (store_collated c) (candidate_questions c) (candidate_rest c (view h)) (candidate_split c h) sound n e

  pub candidate_is : asked_sound h ≡ Ok tt → check_candidate c ≡ Ok tt → store_outcome (store_candidate c h) ≡ call_on h (unlent (store_collated c))
  candidate_is sound e =
      candidate_decided c h (sound_passes h sound) ∙ rest_decides h (store_collated c) (candidate_questions c) (candidate_rest c (view h)) (candidate_split c h) sound e
