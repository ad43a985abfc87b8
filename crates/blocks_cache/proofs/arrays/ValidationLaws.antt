-- Validation on a cache as it is held is the rule, packed; and its two parts, the questions of the record itself and the rest, are the call.
-- Assumes nothing.
use Rattle.blocks_cache.proofs.layout.AskedLaws.{asked_sound, own_refused, rest_decides, sound_passes}
use Rattle.blocks_cache.specs.declared.validation.ValidationAnswer.{ValidationAnswer}
use Rattle.blocks_group.proofs.arrays.GroupLaws.{block_at_packed, put_block_packed, put_model_fits}
use Rattle.blocks_group.proofs.rules.GroupLaws.{GroupParts, group_parts, put_fits}
use Rattle.blocks_group.specs.arrays.Group.{put_block}
use Rattle.blocks_group.specs.layout.Block.{master_laws, master_parts}
use Rattle.blocks_group.specs.layout.Group.{MasterGroup, pack_group}
use Rattle.blocks_group.specs.rules.Group.{at_seqno, entry_before, has_seqno, with_entries}
use Rattle.block_records.specs.declared.questions.Refusal.TheVariants.{SeqnoLimit}
use Rattle.std.specs.Prelude.{Option, option_map, None, Some, Ok}
use Rattle.std.proofs.Common.{◌≡◌, ℕ, ◌≤◌, true, false, [], ◌∷◌, ◌++◌, length, refl, ap, ◌∙◌, eqb-true, leb-true, List}
use Rattle.block_records.specs.declared.block_id.BlockId.{BlockId}
use Rattle.block_records.specs.declared.entry.BlockCacheEntryData.{BlockCacheEntryData}
use Rattle.block_records.specs.declared.entry.MasterBlock.{MasterBlock}
use Rattle.blocks_cache.specs.declared.cache.Cache.{Cache}
use Rattle.blocks_cache.specs.declared.validation.ValidationAnswer.TheVariants.{Updated as status_updated}
use Rattle.block_records.proofs.rules.Finds.{find_passes}
use Rattle.block_records.specs.layout.Entry.{pack_master}
use Rattle.block_records.specs.rules.BlockId.{is_masterchain}
use Rattle.block_records.specs.rules.Entry.{Entry, with_kind}
use Rattle.block_records.specs.rules.Lists.{put}
use Rattle.block_records.specs.rules.Questions.{ask, id_fits, Question}
use Rattle.blocks_cache.proofs.layout.CallOnLaws.{on_sound}
use Rattle.blocks_cache.specs.layout.Parts.{with_master_group, CacheStep}
use Rattle.blocks_cache.specs.arrays.Validation.{held_validate_kind, validate_block, validate_master, validation_says}
use Rattle.blocks_cache.specs.layout.Cache.{call_on, pack, pack_outcome, view, unlent_outcome, HeldOutcome}
use Rattle.cache_rules.proofs.SoundLaws.{parts}
use Rattle.cache_rules.specs.Calls.{Validation, refused, store_validation, unlent}
use Rattle.cache_rules.specs.Effects.{answered, effect, outcome_of, result_status, validate_entry, validate_kind, validated_kind}
use Rattle.cache_rules.specs.Model.{Model}
use Rattle.cache_rules.specs.Refusals.{further, sound_model}

-- what validation answers and leaves; no slice is lent with it
abbrev pub validation_outcome : CacheStep ValidationAnswer → HeldOutcome
validation_outcome s = unlent_outcome s.cache (validation_says (Ok s.answer))

-- ===== on a packed cache =====

module _ (v : Validation) (m : Model) (ok : sound_model m ≡ true) (n : ℕ) where
  abbrev masters_ok : GroupParts is_masterchain m.masters
  masters_ok = group_parts is_masterchain m.masters (parts m ok).rest.masters

  -- the changed entry takes the place of the one that was found
  changed_fits : (e : Entry) (k : BlockCacheEntryData) → at_seqno n m.masters.entries ≡ Some e → length (put entry_before (with_kind k e) m.masters.entries) ≤ 16
  changed_fits e k f =
      put_fits n (with_kind k e) m.masters (Some e) masters_ok.order (leb-true (length m.masters.entries) 16 masters_ok.count) f
      (eqb-true e.id.seqno n (find_passes (has_seqno n) m.masters.entries f)) refl

  changed_packed : (e : Entry) (k : BlockCacheEntryData) → at_seqno n m.masters.entries ≡ Some e →
      put_block master_parts (pack_master (with_kind k e)) (pack_group master_parts m.masters) ≡ pack_group master_parts (with_entries (put entry_before (with_kind k e) m.masters.entries) m.masters)
  changed_packed e k f = put_block_packed master_parts master_laws (with_kind k e) m.masters ∙ ap (pack_group master_parts) (put_model_fits (with_kind k e) m.masters (changed_fits e k f))

  kind_packed : (e : Entry) → at_seqno n m.masters.entries ≡ Some e → (o : Option BlockCacheEntryData) →
      validation_outcome (held_validate_kind v (pack_master e) o (pack m)) ≡ pack_outcome (outcome_of (validate_kind v e o m) [])
  kind_packed e f None = refl
  kind_packed e f (Some k) =
      ap (λ (g : MasterGroup). validation_outcome (record { answer = status_updated (result_status v); cache = with_master_group g (pack m) })) (changed_packed e k f)

  entry_packed : (o : Option Entry) → at_seqno n m.masters.entries ≡ o →
      validation_outcome (validate_block v (option_map pack_master o) (pack m)) ≡ pack_outcome (outcome_of (validate_entry v o m) [])
  entry_packed None f = refl
  entry_packed (Some e) f = kind_packed e f (validated_kind v e.kind)

pub validation_packed : (i : BlockId) (v : Validation) (m : Model) → sound_model m ≡ true →
    validation_outcome (validate_master i.seqno v (pack m)) ≡ pack_outcome (answered None m (unlent (store_validation i v)))
unfolding validate_master effect
validation_packed i v m ok =
    ap (λ (o : Option MasterBlock). validation_outcome (validate_block v o (pack m))) (block_at_packed master_parts master_laws i.seqno m.masters (masters_ok v m ok i.seqno).order)
    ∙ entry_packed v m ok i.seqno (at_seqno i.seqno m.masters.entries) refl

-- ===== the call =====

module _ (c : Cache) (i : BlockId) (v : Validation) where
  abbrev id_questions : List Question
  id_questions = ask SeqnoLimit (id_fits i) ∷ []

  asked_id : further (view c) 0 (store_validation i v) ≡ id_questions ++ []
  unfolding further
  asked_id = refl

  pub validation_refuses : asked_sound c ≡ Ok tt → id_fits i ≡ false → unlent_outcome c (refused SeqnoLimit) ≡ call_on c (unlent (store_validation i v))
  validation_refuses sound h = own_refused c (store_validation i v) id_questions [] asked_id sound SeqnoLimit (rw h)

  pub validation_is : asked_sound c ≡ Ok tt → id_fits i ≡ true → validation_outcome (validate_master i.seqno v c) ≡ call_on c (unlent (store_validation i v))
  validation_is sound h =
      on_sound (unlent (store_validation i v)) (λ (c : Cache). validation_outcome (validate_master i.seqno v c)) (λ m. []) (validation_packed i v) c (sound_passes c sound)
      ∙ rest_decides c (store_validation i v) id_questions [] asked_id sound (rw h)
