-- What is proved of calls on a cache as it is held, each theorem whole in one place; the proofs are in the modules that it cites. Every entry point's
-- contract cites `call_on`, so that these are theorems about the code.
-- Assumes nothing.
use Rattle.block_records.specs.declared.questions.Refusal.{Refusal}
use Rattle.block_records.specs.declared.questions.Refusal.TheVariants.{Unsound}
use Rattle.std.specs.Prelude.{None, Some, map}
use Rattle.std.proofs.Common.{◌≡◌, ℕ, true, false, List, [], ◌∷◌}
use Rattle.block_records.specs.declared.block_id.BlockIdShort.{BlockIdShort}
use Rattle.block_records.specs.declared.entry.BlockCacheEntry.{BlockCacheEntry}
use Rattle.blocks_cache.specs.declared.cache.Cache.{Cache}
use Rattle.block_records.specs.rules.Questions.{first_no}
use Rattle.blocks_cache.proofs.ClaimProof.{claim, claim_from_empty, run_by_rules}
use Rattle.blocks_cache.proofs.layout.CacheLaws.{no_cache_refuses, sound_cache_packed}
use Rattle.blocks_cache.proofs.layout.CallLaws.{empty_cache_sound, no_leaves, peek_leaves, tail_ids_leave, unsound_answers_1, yes_to_all_on}
use Rattle.blocks_cache.specs.Claim.{Claim, ClaimFromEmpty}
use Rattle.blocks_cache.specs.layout.Cache.{call_on, no_cache, pack, pack_outcome, questions_on, run_on, sound_cache, view}
use Rattle.cache_rules.specs.Calls.{Call, peek, read_tail_ids, refusal, refused}
use Rattle.cache_rules.specs.Effects.{run}
use Rattle.cache_rules.specs.Model.{empty_model}
use Rattle.cache_rules.specs.Refusals.{sound_model}

-- ===== every list of calls =====

-- The claim, from any sound cache.
pub the_claim : Claim
the_claim = claim

-- The claim from what `empty` returns.
pub the_claim_from_empty : ClaimFromEmpty
the_claim_from_empty = claim_from_empty

-- The outcomes of a list of calls on a sound cache are those of the rules' steps, packed.
pub calls_are_steps : (start : Cache) → sound_cache start ≡ true → (calls : List Call) → run_on start calls ≡ map pack_outcome (run (view start) calls)
calls_are_steps = run_by_rules

-- ===== sound caches =====

-- An empty cache is sound,
pub empty_is_sound : (zerostate : ℕ) → sound_cache (pack (empty_model zerostate)) ≡ true
empty_is_sound = empty_cache_sound

-- and a sound cache is sound after any call.
pub sound_stays : (c : Cache) (call : Call) → sound_cache c ≡ true → sound_cache (call_on c call).cache ≡ true
sound_stays c call ok = (claim c ok (call ∷ [])).0.sound_still

-- A sound cache is the packing of its model, which is sound.
pub sound_is_packed : (c : Cache) → sound_cache c ≡ true → (c ≡ pack (view c)) × (sound_model (view c) ≡ true)
sound_is_packed = sound_cache_packed

-- ===== refusals =====

-- With no question answered by no, a call does not refuse.
pub yes_to_all : (c : Cache) (call : Call) → first_no (questions_on c call) ≡ None → refusal (call_on c call).answer ≡ None
yes_to_all = yes_to_all_on

-- The first no is the answer, by its number; cache and slice stay as they were, whatever the cache.
pub refusal_changes_nothing : (c : Cache) (call : Call) (n : Refusal) → first_no (questions_on c call) ≡ Some n → call_on c call ≡ record { cache = c; answer = refused n; slice = call.lent }
refusal_changes_nothing = no_leaves

-- On an unsound cache every call answers 1,
pub unsound_is_refused : (c : Cache) (call : Call) → sound_cache c ≡ false → call_on c call ≡ record { cache = c; answer = refused Unsound; slice = call.lent }
unsound_is_refused = unsound_answers_1

-- and so on `no_cache`, which stands beside a refusal of `empty`.
pub no_cache_refuses_every_call : (call : Call) → call_on no_cache call ≡ record { cache = no_cache; answer = refused Unsound; slice = call.lent }
no_cache_refuses_every_call = no_cache_refuses

-- ===== calls that only read =====

-- Peek and tail ids leave any cache as it was.
pub peek_changes_nothing : (c : Cache) (f : ℕ) (lent : List BlockCacheEntry) → (call_on c (record { request = peek f; lent = lent })).cache ≡ c
peek_changes_nothing = peek_leaves

pub tail_ids_change_nothing : (c : Cache) (k : BlockIdShort) (lent : List BlockCacheEntry) → (call_on c (record { request = read_tail_ids k; lent = lent })).cache ≡ c
tail_ids_change_nothing = tail_ids_leave
