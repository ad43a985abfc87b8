-- What is proved of the rules, each theorem whole in one place; the proofs are in the modules that it cites.
-- Assumes nothing.
use Rattle.block_records.specs.declared.questions.Refusal.{Refusal}
use Rattle.block_records.specs.declared.questions.Refusal.TheVariants.{AlreadyStored}
use Rattle.std.specs.List.{fold}
use Rattle.std.specs.Prelude.{None, Some, map}
use mathlib.Core.Bool.{true}
use mathlib.Core.List.{List, [], ◌∷◌}
use mathlib.Core.Logic.{◌≢◌}
use mathlib.Core.Path.{◌≡◌}
use Prim.Native.Nat.{◌+◌, ◌≤◌, ℕ}
use lib.ListN.{length}
use Rattle.block_records.specs.declared.entry.BlockCacheEntry.{BlockCacheEntry}
use Rattle.block_records.specs.layout.Listed.{Keys}
use Rattle.block_records.specs.declared.store_records.ReceivedBlock.{ReceivedBlock}
use Rattle.block_records.specs.rules.Entry.{Entry}
use Rattle.block_records.specs.rules.Limits.{rows_limit, slice_places, waiting_places}
use Rattle.block_records.specs.rules.Questions.{entry_fits, first_no}
use Rattle.cache_rules.proofs.ClaimProof.{steps_claim}
use Rattle.cache_rules.proofs.CollectLaws.{Untouched, collect_untouched, remove_untouched}
use Rattle.cache_rules.proofs.CountLaws.{places_suffice, records_suffice, taken_count}
use Rattle.cache_rules.proofs.MarkedSteps.{received_never_meets_7}
use Rattle.cache_rules.proofs.NeverRefused.{never_refused, refused_unchanged}
use Rattle.cache_rules.proofs.SoundSteps.{empty_sound, step_sound}
use Rattle.cache_rules.proofs.TailAnswer.{at_most_17, tails_literal, tails_same}
use Rattle.cache_rules.specs.Calls.{Call, TailRow, collect, refusal, refused, remove_next_collated, store_received}
use Rattle.cache_rules.specs.Claim.{StepsClaim, StepsHold}
use Rattle.cache_rules.specs.Effects.{after, effect, step}
use Rattle.cache_rules.specs.Extraction.{Walk, extraction_of, first_walk, previous_in, starting_ids, take_times}
use Rattle.cache_rules.specs.Model.{Model, empty_model}
use Rattle.cache_rules.specs.Refusals.{questions, sound_model}
use Rattle.cache_rules.specs.TailIds.{Fifo, first_row, hold, tails_of, top_ids, waits}
use Rattle.cache_rules.specs.TailIdsOnce.{tails_once}

-- ===== every list of steps =====

-- The claim: from any sound model, of every step of every list, refused ones included, what is handed out are exactly the reached blocks that name
-- the master, each once and as cached, and the other blocks stay; a step that hands out nothing leaves the slice; the range holds; the model stays sound.
pub the_claim : StepsClaim
the_claim = steps_claim

-- The same from the empty model of any zerostate seqno.
pub the_claim_from_empty : (zerostate : ℕ) (calls : List Call) → StepsHold (empty_model zerostate) calls
the_claim_from_empty zerostate calls = steps_claim (empty_model zerostate) (empty_sound zerostate) calls

-- The empty model is sound,
pub empty_is_sound : (zerostate : ℕ) → sound_model (empty_model zerostate) ≡ true
empty_is_sound = empty_sound

-- and every step leaves a sound model sound.
pub sound_stays : (m : Model) (call : Call) → sound_model m ≡ true → sound_model (step m call).model ≡ true
sound_stays = step_sound

-- ===== refusals =====

-- With no question answered by no, a step does not refuse.
pub yes_to_all : (m : Model) (call : Call) → first_no (questions m call) ≡ None → refusal (step m call).answer ≡ None
yes_to_all = never_refused

-- The first no is the answer, by its refusal; model and slice stay as they were.
pub refusal_changes_nothing : (m : Model) (call : Call) (r : Refusal) → first_no (questions m call) ≡ Some r → step m call ≡ record { model = m; answer = refused r; slice = call.lent }
refusal_changes_nothing = refused_unchanged

-- On no model that a list of calls makes of an empty one is a received store refused with 7.
pub seven_is_never_met : (zerostate : ℕ) (calls : List Call) (r : ReceivedBlock) (lent : List BlockCacheEntry) →
    (step (after (empty_model zerostate) calls) (record { request = store_received r; lent = lent })).answer ≢ refused AlreadyStored
seven_is_never_met = received_never_meets_7

-- ===== extraction =====

-- The waiting list needs no more than 264 places: after any number of turns, those taken and those that wait are no more.
pub waiting_places_suffice : (k : ℕ) (m : Model) (M : Entry) → sound_model m ≡ true → entry_fits M ≡ true →
    let w : Walk = take_times k M.id.seqno (first_walk (starting_ids m.zerostate M) m.shards) in
    w.taken + length w.waiting ≤ waiting_places
waiting_places_suffice = places_suffice

-- 128 records suffice for the blocks that join.
pub slice_places_suffice : (m : Model) (M : Entry) → sound_model m ≡ true → length (extraction_of M m).joined ≤ slice_places
slice_places_suffice = records_suffice

-- An id is taken for each starting item and for each previous id of a block that joined.
pub ids_taken : (m : Model) (M : Entry) → (extraction_of M m).taken ≡ length (starting_ids m.zerostate M) + previous_in (extraction_of M m).joined
ids_taken m M = taken_count M.id.seqno (starting_ids m.zerostate M) m.shards

-- ===== tail ids =====

module _ (m : Model) (ok : sound_model m ≡ true) (M : Entry) where
  -- The rows are those of the walk as a queue, however it is shown.
  pub tail_ids_are_the_walk's : (rows : List TailRow) → Fifo m.shards M.id.seqno (map (waits true) (top_ids M)) rows → fold hold (first_row M ∷ []) rows ≡ tails_of m.shards M
  tail_ids_are_the_walk's = tails_literal m ok M

  -- Each queued id once gives the same rows.
  pub each_queued_id_once : tails_once m.shards M ≡ tails_of m.shards M
  each_queued_id_once = tails_same m ok M

  -- They are at most 17.
  pub rows_suffice : entry_fits M ≡ true → length (tails_of m.shards M) ≤ rows_limit
  rows_suffice = at_most_17 m ok M

-- ===== collect and remove next collated =====

-- Neither touches the range or a mark.
pub collect_leaves_range_and_marks : (m : Model) → Untouched m (effect m collect).model
collect_leaves_range_and_marks = collect_untouched

pub removal_leaves_range_and_marks : (m : Model) (ks : Keys) → Untouched m (effect m (remove_next_collated ks)).model
removal_leaves_range_and_marks = remove_untouched
