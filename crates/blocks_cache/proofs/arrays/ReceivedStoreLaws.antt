-- The received store of the whole cache is the rule, packed, on a sound cache; and after the questions of its record it is the call.
-- Assumes nothing.
use Rattle.blocks_cache.proofs.layout.AskedLaws.{asked_sound, own_refused, rest_decides, sound_passes}
use Rattle.cache_rules.proofs.SoundLaws.{parts}
use Rattle.block_records.specs.declared.questions.Refusal.{Refusal}
use Rattle.block_records.specs.declared.questions.Refusal.TheVariants.{AlreadyStored, BeforeZerostate, ForeignReference, NoRoom}
use Rattle.std.specs.Prelude.{Option, None, Some, cond, Err, Ok, Result}
use Rattle.std.proofs.Common.{◌≡◌, ℕ, Bool, true, false, not, ◌||◌, ltb, leb, List, [], ◌∷◌, ◌++◌, length, sym, refl, ap, ◌∙◌}
use Rattle.block_records.specs.declared.block_id.BlockId.{BlockId}
use Rattle.block_records.specs.declared.block_id.ShardIdent.{ShardIdent}
use Rattle.block_records.specs.declared.entry.BlockCacheEntry.{BlockCacheEntry}
use Rattle.block_records.specs.declared.entry.MasterBlock.{MasterBlock}
use Rattle.block_records.specs.declared.store_records.ReceivedBlock.{ReceivedBlock}
use Rattle.blocks_group.specs.declared.store.GroupStore.{GroupStore}
use Rattle.blocks_group.specs.declared.store.StoreAnswer.TheVariants.{Stored as stored_answer, Synced as synced_answer}
use Rattle.blocks_cache.specs.declared.cache.Cache.{Cache}
use Rattle.blocks_cache.specs.declared.master_data.MasterData.{MasterData}
use Rattle.block_records.proofs.rules.Tests.{on}
use Rattle.block_records.specs.rules.BlockId.{id_shard, is_masterchain, same_id}
use Rattle.block_records.specs.rules.Entry.{Entry, is_received}
use Rattle.block_records.specs.rules.Questions.{Question, ask, first_no, received_questions, check_received}
use Rattle.blocks_group.proofs.arrays.StoreLaws.{model_room, pack_store, pack_stored, received_outcome, received_place_questions, store_received_packed, stored_into, unless, with_change}
use Rattle.blocks_group.specs.arrays.Store.{received_store}
use Rattle.blocks_group.specs.layout.Block.{BlockLaws, BlockParts, master_laws, master_parts, shard_laws, shard_parts}
use Rattle.blocks_group.specs.layout.Group.{pack_group}
use Rattle.blocks_group.specs.rules.Group.{GroupModel, Stored, refresh, store_received_at, vacant_or}
use Rattle.blocks_cache.proofs.arrays.MasterDataLaws.{drop_ids_from_packed}
use Rattle.blocks_cache.proofs.arrays.StoresLaws.{IsUnstored, group_answer, group_fits, has_room_is, neither, nothing_stored, unstored, shard_room, store_leaves, stored_packed, where_held_packed, with_shard_packed, store_outcome}
use Rattle.blocks_cache.proofs.layout.CallOnLaws.{on_sound}
use Rattle.blocks_cache.specs.arrays.Stores.{ids_after, master_receipt_stored, range_end_moved, shard_receipt_stored, store_master_receipt, store_receipt, store_shard_receipt, answered_in, shard_receipt_in, unless_refused, with_masters_and_data, with_shard_group, StoreStep, refused_in}
use Rattle.blocks_cache.specs.layout.Cache.{HeldOutcome, answered_on, pack, pack_outcome, sound_cache, view, unlent_outcome, call_on}
use Rattle.cache_rules.specs.Calls.{store_received, synced, unlent, refused}
use Rattle.cache_rules.specs.Effects.{answered, effect, outcome_of, plain, received_data, received_stored, store_and_refresh}
use Rattle.cache_rules.specs.Model.{Model, entry_for, find_shard, group_for, ids_below, moved_end, set_group, with_ids_and_range, with_masters, with_shards}
use Rattle.cache_rules.specs.Refusals.{further, has_room, is_synced, not_before_zerostate, own_reference, sound_model}

-- ===== where nothing is stored =====

-- a record that its group's store doesn't store leaves the cache as it was
pub master_receipt_unstored : (r : ReceivedBlock) (h : Cache) (o : Result (GroupStore MasterBlock) Refusal) → IsUnstored (group_answer o) →
    nothing_stored (group_answer o) h ≡ unless_refused o (master_receipt_stored r h) h
master_receipt_unstored r h = unstored (master_receipt_stored r h) h (λ g. refl)

pub shard_receipt_unstored : (r : ReceivedBlock) (h : Cache) (o : Result (GroupStore BlockCacheEntry) Refusal) → IsUnstored (group_answer o) →
    nothing_stored (group_answer o) h ≡ unless_refused o (shard_receipt_stored r h) h
shard_receipt_unstored r h = unstored (shard_receipt_stored r h) h (λ g. refl)

-- ===== on a packed cache =====

-- the questions after the record's own
abbrev pub receipt_rest : ReceivedBlock → Model → List Question
receipt_rest r m =
    ask BeforeZerostate (not_before_zerostate r m) ∷ ask ForeignReference (own_reference r)
    ∷ ask AlreadyStored (is_synced r.block_id m || vacant_or (λ (e : Entry). not (is_received e)) (entry_for r.block_id m))
    ∷ ask NoRoom (is_synced r.block_id m || has_room r.block_id m) ∷ []

-- on mismatch ids go
ids_left : (mismatch : Bool) (s : ℕ) (m : Model) → ids_after mismatch s (pack m).«data» ≡ (pack (with_ids_and_range (cond mismatch (ids_below s m.ids) m.ids) m.range m)).«data»
ids_left true s m = drop_ids_from_packed s m
ids_left false s m = refl

module _ (r : ReceivedBlock) (m : Model) (ok : sound_model m ≡ true) where
  abbrev i : BlockId
  i = r.block_id

  abbrev shard_of : ShardIdent
  shard_of = id_shard i

  -- the block's group, and what the rule makes of the entry at its seqno
  abbrev its_group : GroupModel
  its_group = group_for shard_of m

  abbrev made_of : Stored
  made_of = store_received_at m.zerostate r (entry_for i m)

  abbrev by_rule : Option Refusal → HeldOutcome
  by_rule q = pack_outcome (answered q m (unlent (store_received r)))

  -- what the rule leaves where it is neither Synced nor refused
  abbrev rule_leaves : Stored → HeldOutcome
  rule_leaves x = store_leaves x.both x.mismatch (received_data r x.mismatch (store_and_refresh i x.change m))

  -- the rule goes by the mark
  abbrev by_mark : Bool → HeldOutcome
  by_mark known = cond known (record { cache = pack m; answer = synced; slice = [] }) (rule_leaves made_of)

  by_effect : (known : Bool) → pack_outcome (outcome_of (cond known (plain synced m) (received_stored r made_of m)) []) ≡ by_mark known
  by_effect true = refl
  by_effect false = refl

  rule_by_mark : by_rule None ≡ by_mark (is_synced i m)
  unfolding effect
  rule_by_mark = by_effect (is_synced i m)

  made_packed : {B : Type 0} (k : BlockParts B) → BlockLaws k →
      received_store k m.zerostate r (pack_group k its_group) ≡ pack_store k (received_outcome m.zerostate r (entry_for i m) its_group)
  made_packed k laws = let f = group_fits shard_of m ok in store_received_packed k laws its_group f.0 f.1 m.zerostate r

  -- what a store that is not refused leaves of the group
  abbrev stored_group : GroupModel
  stored_group = refresh i.seqno (with_change made_of.change its_group)

  -- The store of the block's group, whichever group it is: what the cache makes of the answer is the rule, if it is so of an answer that is stored. 7 and
  -- 8 are those of the group, where there is one or can be.
  module _ {B : Type 0} (k : BlockParts B) (laws : BlockLaws k) (made : GroupStore B → StoreStep)
      (known_is : made (pack_stored k (record { answer = synced_answer; group = its_group })) ≡ answered_in synced_answer (pack m))
      (stores : store_outcome (made (pack_stored k (stored_into made_of stored_group))) ≡ rule_leaves made_of)
      (room : is_masterchain shard_of || shard_room shard_of m ≡ true) (after : not_before_zerostate r m ≡ true) (own : own_reference r ≡ true) where
    abbrev asked : Option Refusal
    asked = first_no (received_place_questions (entry_for i m) (model_room its_group))

    by_refusal : is_synced i m ≡ false → (q : Option Refusal) → store_outcome (unless_refused (pack_store k (unless q (stored_into made_of stored_group))) made (pack m)) ≡ by_rule q
    by_refusal e None = stores ∙ sym (rule_by_mark ∙ ap by_mark e)
    by_refusal e (Some n) = refl

    known_or_asked : (known : Bool) → is_synced i m ≡ known →
        store_outcome (unless_refused (pack_store k (cond known (Ok (record { answer = synced_answer; group = its_group })) (unless asked (stored_into made_of stored_group)))) made (pack m))
        ≡ by_rule (cond known None asked)
    known_or_asked true e = ap store_outcome known_is ∙ sym (rule_by_mark ∙ ap by_mark e)
    known_or_asked false e = by_refusal e asked

    rest_asked : cond (is_synced i m) None asked ≡ first_no (receipt_rest r m)
    rest_asked =
        rw (after, own)
        (ap (λ (b : Bool). cond (is_synced i m) None (first_no (ask AlreadyStored (vacant_or (λ (e : Entry). not (is_received e)) (entry_for i m)) ∷ ask NoRoom b ∷ []))) (sym (has_room_is i m room))
        ∙ on (is_synced i m) (λ v. rw v) (λ v. rw v))

    put_by_rule : store_outcome (unless_refused (received_store k m.zerostate r (pack_group k its_group)) made (pack m)) ≡ by_rule (first_no (receipt_rest r m))
    put_by_rule =
        ap (λ (s : Result (GroupStore B) Refusal). store_outcome (unless_refused s made (pack m))) (made_packed k laws)
        ∙ known_or_asked (is_synced i m) refl
        ∙ ap by_rule rest_asked

  -- ===== a master =====

  module _ (side : is_masterchain shard_of ≡ true) where
    master_stored : (both mismatch : Bool) (x : Option Entry) →
        store_outcome (master_receipt_stored r (pack m) (record { answer = stored_answer both mismatch; group = pack_group master_parts (refresh i.seqno (with_change x its_group)) }))
        ≡ rule_leaves (record { change = x; both = both; mismatch = mismatch })
    master_stored both mismatch x =
        let ids = cond mismatch (ids_below i.seqno m.ids) m.ids in
        let g = refresh i.seqno (with_change x its_group) in
        ap (λ (d : MasterData). store_outcome (answered_in (stored_answer both mismatch) (with_masters_and_data (pack_group master_parts g) (range_end_moved i.seqno d) (pack m)))) (ids_left mismatch i.seqno m)
        ∙ stored_packed both mismatch (with_ids_and_range ids (moved_end i.seqno m.range) (with_masters g m))
        ∙ rw side

    master_packed : not_before_zerostate r m ≡ true → own_reference r ≡ true → store_outcome (store_master_receipt r (pack m)) ≡ by_rule (first_no (receipt_rest r m))
    unfolding store_master_receipt
    master_packed after own =
        let e : m.masters ≡ its_group = rw side in
        ap (λ (g : GroupModel). store_outcome (unless_refused (received_store master_parts m.zerostate r (pack_group master_parts g)) (master_receipt_stored r (pack m)) (pack m))) e
        ∙ put_by_rule master_parts master_laws (master_receipt_stored r (pack m)) refl (master_stored made_of.both made_of.mismatch made_of.change) (rw side) after own

  -- ===== a shard block =====

  module _ (side : is_masterchain shard_of ≡ false) where
    -- for a new shard there are 8 groups
    shard_refused : not_before_zerostate r m ≡ true → shard_room shard_of m ≡ false → first_no (receipt_rest r m) ≡ Some NoRoom
    shard_refused after t = let n = neither (find_shard shard_of m.shards) (ltb (length m.shards) 8) t in rw (after, side, n.0, n.1)

    shard_stored : shard_room shard_of m ≡ true → (both mismatch : Bool) (x : Option Entry) →
        store_outcome (shard_receipt_stored r (pack m) (record { answer = stored_answer both mismatch; group = pack_group shard_parts (refresh i.seqno (with_change x its_group)) }))
        ≡ rule_leaves (record { change = x; both = both; mismatch = mismatch })
    shard_stored t both mismatch x =
        let ids = cond mismatch (ids_below r.ref_block_id.seqno m.ids) m.ids in
        let g = refresh i.seqno (with_change x its_group) in
        ap (λ (d : MasterData). store_outcome (answered_in (stored_answer both mismatch) (with_shard_group (record { shard = shard_of; group = pack_group shard_parts g }) d (pack m))))
        (ids_left mismatch r.ref_block_id.seqno m)
        ∙ ap (λ (k : Cache). store_outcome (answered_in (stored_answer both mismatch) k)) (with_shard_packed shard_of m ok g ids m.range side t)
        ∙ stored_packed both mismatch (with_ids_and_range ids m.range (with_shards (set_group shard_of g m.shards) m))
        ∙ rw side

    shard_packed : not_before_zerostate r m ≡ true → store_outcome (store_shard_receipt r (pack m)) ≡ by_rule (first_no (receipt_rest r m))
    unfolding store_shard_receipt
    shard_packed after =
        where_held_packed shard_of m (parts m ok).rest.shards.order (shard_receipt_in r (pack m)) (by_rule (first_no (receipt_rest r m))) side
        (λ t.
        put_by_rule shard_parts shard_laws (shard_receipt_stored r (pack m)) refl (shard_stored t made_of.both made_of.mismatch made_of.change) (rw (side, t)) after (rw side))
        (λ t. ap by_rule (sym (shard_refused after t)))

  -- 5 and 6, then by the side of the block
  pub receipt_packed : store_outcome (store_receipt r (pack m)) ≡ by_rule (first_no (receipt_rest r m))
  unfolding store_receipt
  receipt_packed =
      let way = λ (after master own : Bool).
      store_outcome
      (cond after (cond master (cond own (store_master_receipt r (pack m)) (refused_in ForeignReference (pack m))) (store_shard_receipt r (pack m)))
      (refused_in BeforeZerostate (pack m))) in
      on (leb m.zerostate r.ref_block_id.seqno)
      (λ t. on (is_masterchain shard_of)
      (λ side. on (same_id i r.ref_block_id)
      (λ u. (λ k. way (t k) (side k) (u k)) ∙ master_packed side t (rw (side, u)))
      (λ u. rw (t, side, u)))
      (λ side. (λ k. way (t k) (side k) (same_id i r.ref_block_id)) ∙ shard_packed side t))
      (λ t. rw t)

-- ===== on a sound cache =====

receipt_decided : (r : ReceivedBlock) (h : Cache) → sound_cache h ≡ true →
    store_outcome (store_receipt r h) ≡ answered_on (first_no (receipt_rest r (view h))) h (unlent (store_received r))
receipt_decided r h ok = on_sound (unlent (store_received r)) (λ (x : Cache). store_outcome (store_receipt r x)) (receipt_rest r) (receipt_packed r) h ok

receipt_split : (r : ReceivedBlock) (h : Cache) → further (view h) 0 (store_received r) ≡ received_questions r ++ receipt_rest r (view h)
unfolding further
receipt_split r h = refl

-- ===== the call =====

module _ (r : ReceivedBlock) (h : Cache) where
  pub receipt_refused : (n : Refusal) → asked_sound h ≡ Ok tt → check_received r ≡ Err n → unlent_outcome h (refused n) ≡ call_on h (unlent (store_received r))
  receipt_refused n sound e = own_refused h (store_received r) (received_questions r) (receipt_rest r (view h)) (receipt_split r h) sound n e

  pub receipt_is : asked_sound h ≡ Ok tt → check_received r ≡ Ok tt → store_outcome (store_receipt r h) ≡ call_on h (unlent (store_received r))
  receipt_is sound e =
      receipt_decided r h (sound_passes h sound) ∙ rest_decides h (store_received r) (received_questions r) (receipt_rest r (view h)) (receipt_split r h) sound e
