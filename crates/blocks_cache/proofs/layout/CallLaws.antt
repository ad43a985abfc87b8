-- A call on a cache as it is held: it refuses by the first no only, and then leaves cache and slice; an unsound cache answers 1; peek and tail ids
-- leave any cache as it was; the empty cache is sound.
-- Assumes nothing.
use Rattle.blocks_group.specs.rules.Group.{at_seqno}
use Rattle.block_records.specs.declared.questions.Refusal.{Refusal}
use Rattle.block_records.specs.declared.questions.Refusal.TheVariants.{Unsound}
use Rattle.std.specs.Prelude.{Option, None, Some, ⊤, Result, Ok, Err}
use Rattle.std.proofs.Common.{◌≡◌, ℕ, true, false, leb, List, length, sym, refl, ap, ◌∙◌}
use Rattle.block_records.specs.declared.block_id.BlockIdShort.{BlockIdShort}
use Rattle.block_records.specs.declared.entry.BlockCacheEntry.{BlockCacheEntry}
use Rattle.blocks_cache.specs.declared.cache.Cache.{Cache}
use Rattle.block_records.proofs.rules.Tests.{on}
use Rattle.block_records.specs.rules.Entry.{Entry}
use Rattle.block_records.specs.rules.Questions.{first_no}
use Rattle.blocks_cache.proofs.layout.CacheLaws.{pack_sound, sound_cache_packed}
use Rattle.blocks_cache.specs.layout.Cache.{answered_on, call_on, pack, questions_on, sound_cache, view}
use Rattle.cache_rules.proofs.NeverRefused.{effect_yes}
use Rattle.cache_rules.proofs.SoundSteps.{all_yes, empty_sound}
use Rattle.cache_rules.specs.Calls.{Call, peek, read_tail_ids, refusal, refused}
use Rattle.cache_rules.specs.Effects.{effect, peek_entry, tail_ids_entry}
use Rattle.cache_rules.specs.Model.{Model, empty_model, first_applied}

pub yes_to_all_on : (c : Cache) (call : Call) → first_no (questions_on c call) ≡ None → refusal (call_on c call).answer ≡ None
unfolding call_on
yes_to_all_on c call h = rw h (effect_yes (view c) (length call.lent) call.request (all_yes (questions_on c call) h).1)

-- the refusal of a result
abbrev pub err_of : Result ⊤ Refusal → Option Refusal
err_of (Ok x) = None
err_of (Err r) = Some r

pub no_leaves : (c : Cache) (call : Call) (n : Refusal) → first_no (questions_on c call) ≡ Some n → call_on c call ≡ record { cache = c; answer = refused n; slice = call.lent }
unfolding call_on
no_leaves c call n h = rw h

pub unsound_answers_1 : (c : Cache) (call : Call) → sound_cache c ≡ false → call_on c call ≡ record { cache = c; answer = refused Unsound; slice = call.lent }
unfolding call_on
unsound_answers_1 c call h = rw h

-- a request whose effect changes nothing leaves any cache as it was
only_read : (c : Cache) (call : Call) (o : Option Refusal) → first_no (questions_on c call) ≡ o → (effect (view c) call.request).model ≡ view c → (answered_on o c call).cache ≡ c
only_read c call None h same = ap pack same ∙ sym (sound_cache_packed c (all_yes (questions_on c call) h).0).0
only_read c call (Some n) h same = refl

peeks : (o : Option Entry) (m : Model) → (peek_entry o m).model ≡ m
peeks None m = refl
peeks (Some M) m = refl

pub peek_leaves : (c : Cache) (f : ℕ) (lent : List BlockCacheEntry) → (call_on c (record { request = peek f; lent = lent })).cache ≡ c
unfolding call_on effect
peek_leaves c f lent = only_read c (record { request = peek f; lent = lent }) (first_no (questions_on c (record { request = peek f; lent = lent }))) refl (peeks (first_applied f (view c)) (view c))

reads_tails : (o : Option Entry) (m : Model) → (tail_ids_entry o m).model ≡ m
reads_tails None m = refl
reads_tails (Some M) m = refl

pub tail_ids_leave : (c : Cache) (k : BlockIdShort) (lent : List BlockCacheEntry) → (call_on c (record { request = read_tail_ids k; lent = lent })).cache ≡ c
unfolding call_on effect
tail_ids_leave c k lent =
    only_read c (record { request = read_tail_ids k; lent = lent }) (first_no (questions_on c (record { request = read_tail_ids k; lent = lent }))) refl
    (on (leb k.seqno (view c).zerostate) (λ t. rw t) (λ t. rw t (reads_tails (at_seqno k.seqno (view c).masters.entries) (view c))))

pub empty_cache_sound : (zerostate : ℕ) → sound_cache (pack (empty_model zerostate)) ≡ true
empty_cache_sound zerostate = pack_sound (empty_model zerostate) (empty_sound zerostate)
