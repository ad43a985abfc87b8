-- RULES.md, Validation: what the code does to a cache as it is held, for every cache, sound or not, and what its answer says. On a packed cache this
-- is the rule, packed (proofs/arrays/ValidationLaws).
-- Assumes nothing.
use Rattle.blocks_group.specs.arrays.Group.{block_at, put_block}
use Rattle.blocks_group.specs.layout.Block.{block_kind, master_parts, with_block_data}
use Rattle.block_records.specs.declared.questions.Refusal.{Refusal}
use Rattle.std.specs.Prelude.{ℕ, Option, None, Some, Err, Ok, Result}
use Rattle.block_records.specs.declared.entry.BlockCacheEntryData.{BlockCacheEntryData}
use Rattle.block_records.specs.declared.entry.MasterBlock.{MasterBlock}
use Rattle.blocks_cache.specs.declared.cache.Cache.{Cache}
use Rattle.blocks_cache.specs.declared.validation.ValidationAnswer.{ValidationAnswer}
use Rattle.blocks_cache.specs.declared.validation.ValidationAnswer.TheVariants.{NoChange as status_kept, Updated as status_updated}
use Rattle.blocks_cache.specs.declared.validation.ValidationStatus.{ValidationStatus}
use Rattle.blocks_cache.specs.declared.validation.ValidationStatus.TheVariants.{Complete as validation_complete, Skipped as validation_skipped}
use Rattle.blocks_cache.specs.layout.Parts.{CacheStep, with_master_group}
use Rattle.cache_rules.specs.Calls.{Answer, Validation, complete, no_change, refused, skipped, validated}
use Rattle.cache_rules.specs.Effects.{result_status, validated_kind}

-- ===== what a status and an answer say =====

-- a validation's outcome as the rules have it
abbrev pub view_validation : ValidationStatus → Validation
view_validation (validation_complete handle weight) = complete handle weight
view_validation validation_skipped = skipped

-- the new status, no change, or the refusal
abbrev pub validation_says : Result ValidationAnswer Refusal → Answer
validation_says (Ok (status_updated st)) = validated st
validation_says (Ok status_kept) = no_change
validation_says (Err n) = refused n

-- ===== the master block at a seqno =====

-- no change
abbrev pub kept_status : Cache → CacheStep ValidationAnswer
kept_status c = record { answer = status_kept; cache = c }

-- the master block with its new kind, and the status as the answer; or no change
abbrev pub held_validate_kind : Validation → MasterBlock → Option BlockCacheEntryData → Cache → CacheStep ValidationAnswer
held_validate_kind v b None c = kept_status c
held_validate_kind v b (Some k) c =
    record { answer = status_updated (result_status v); cache = with_master_group (put_block master_parts (with_block_data master_parts k b) c.masters) c }

-- validation of the master block found; no change where none was found
abbrev pub validate_block : Validation → Option MasterBlock → Cache → CacheStep ValidationAnswer
validate_block v None c = kept_status c
validate_block v (Some b) c = held_validate_kind v b (validated_kind v (block_kind master_parts b)) c

-- validation of the master block at a seqno
unfoldable pub validate_master : ℕ → Validation → Cache → CacheStep ValidationAnswer
validate_master n v c = validate_block v (block_at master_parts n c.masters) c
