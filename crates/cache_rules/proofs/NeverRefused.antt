-- A call refuses by the first no only, with its number, and then leaves model and slice.
-- Assumes nothing.
use Rattle.block_records.specs.declared.questions.Refusal.{Refusal}
use Rattle.std.specs.Prelude.{Option, None, Some, is_some}
use mathlib.Core.Bool.{true}
use mathlib.Core.Path.{◌≡◌, refl}
use Prim.Native.Nat.{ℕ}
use lib.Dec.{leb}
use lib.ListN.{length}
use Rattle.block_records.specs.declared.entry.BlockCacheEntryData.{BlockCacheEntryData}
use Rattle.block_records.proofs.rules.Tests.{clash, on}
use Rattle.block_records.specs.rules.Entry.{Entry}
use Rattle.block_records.specs.rules.Questions.{first_no}
use Rattle.blocks_group.specs.rules.Group.{at_seqno}
use Rattle.cache_rules.proofs.CountLaws.{places}
use Rattle.cache_rules.proofs.SoundSteps.{Yes, all_yes}
use Rattle.cache_rules.specs.Calls.{Call, Request, Validation, collect, peek, pop, read_tail_ids, refusal, refused, remove_next_collated, set_boundary, store_collated, store_received, store_validation, sync}
use Rattle.cache_rules.specs.Effects.{effect, peek_entry, pop_entry, step, sync_entry, tail_ids_entry, validate_entry, validate_kind, validated_kind}
use Rattle.cache_rules.specs.Model.{Model, first_applied}
use Rattle.cache_rules.specs.Refusals.{further, is_synced, questions}

validate_kind_yes : (v : Validation) (e : Entry) (o : Option BlockCacheEntryData) (m : Model) → refusal (validate_kind v e o m).answer ≡ None
validate_kind_yes v e None m = refl
validate_kind_yes v e (Some k) m = refl

validate_yes : (v : Validation) (o : Option Entry) (m : Model) → refusal (validate_entry v o m).answer ≡ None
validate_yes v None m = refl
validate_yes v (Some e) m = validate_kind_yes v e (validated_kind v e.kind) m

pop_yes : (o : Option Entry) (m : Model) → is_some o ≡ true → refusal (pop_entry o m).answer ≡ None
pop_yes None m h = clash h refl
pop_yes (Some e) m h = refl

sync_yes : (o : Option Entry) (m : Model) → refusal (sync_entry o m).answer ≡ None
sync_yes None m = refl
sync_yes (Some e) m = refl

peek_yes : (o : Option Entry) (m : Model) → refusal (peek_entry o m).answer ≡ None
peek_yes None m = refl
peek_yes (Some e) m = refl

tails_yes : (o : Option Entry) (m : Model) → is_some o ≡ true → refusal (tail_ids_entry o m).answer ≡ None
tails_yes None m h = clash h refl
tails_yes (Some e) m h = refl

pub effect_yes : (m : Model) (places : ℕ) (r : Request) → Yes (further m places r) → refusal (effect m r).answer ≡ None
unfolding effect further
effect_yes m places (store_collated c) y = refl
effect_yes m places (store_received r) y = on (is_synced r.block_id m) (λ t. rw t) (λ t. rw t)
effect_yes m places (store_validation i v) y = validate_yes v (at_seqno i.seqno m.masters.entries) m
effect_yes m places (pop f) y = pop_yes (first_applied f m) m y.1.1.0
effect_yes m places (sync i) y = sync_yes (at_seqno i.seqno m.masters.entries) m
effect_yes m places (peek f) y = peek_yes (first_applied f m) m
effect_yes m places (read_tail_ids k) y =
    on (leb k.seqno m.zerostate) (λ t. rw t)
    (λ t. let q : is_some (at_seqno k.seqno m.masters.entries) ≡ true = rw t at y.1.0 in rw t (tails_yes (at_seqno k.seqno m.masters.entries) m q))
effect_yes m places (set_boundary ks) y = refl
effect_yes m places collect y = refl
effect_yes m places (remove_next_collated ks) y = refl

pub never_refused : (m : Model) (call : Call) → first_no (questions m call) ≡ None → refusal (step m call).answer ≡ None
unfolding step
never_refused m call h = rw h (effect_yes m (length call.lent) call.request (all_yes (questions m call) h).1)

pub refused_unchanged : (m : Model) (call : Call) (n : Refusal) → first_no (questions m call) ≡ Some n → step m call ≡ record { model = m; answer = refused n; slice = call.lent }
unfolding step
refused_unchanged m call n h = rw h
