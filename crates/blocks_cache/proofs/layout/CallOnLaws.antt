-- A call on a sound cache is the rules' call, packed; its questions in two parts, those of the record itself and the rest.
-- Assumes nothing.
use Rattle.block_records.specs.layout.Listed.{packed}
use Rattle.block_records.specs.declared.questions.Refusal.{Refusal}
use Rattle.std.specs.Prelude.{Option, None, Some}
use Rattle.std.proofs.Common.{◌≡◌, true, List, ◌++◌, length, sym, refl, ap, ◌∙◌}
use Rattle.blocks_cache.specs.declared.cache.Cache.{Cache}
use Rattle.block_records.proofs.layout.QuestionLaws.{first_no_append, or_else}
use Rattle.block_records.specs.rules.Questions.{Question, first_no}
use Rattle.blocks_cache.proofs.layout.CacheLaws.{pack_sound, sound_cache_packed, view_pack}
use Rattle.blocks_cache.specs.layout.Cache.{HeldOutcome, answered_on, call_on, pack, pack_outcome, questions_on, sound_cache, view}
use Rattle.cache_rules.specs.Calls.{Call, refused}
use Rattle.cache_rules.specs.Effects.{answered, effect, outcome_of, step}
use Rattle.cache_rules.specs.Model.{Model}
use Rattle.cache_rules.specs.Refusals.{further, questions, sound_model}

-- ===== a packed cache =====

module _ (m : Model) (call : Call) (ok : sound_model m ≡ true) where
  asked_same : first_no (questions_on (pack m) call) ≡ first_no (questions m call)
  asked_same =
      let v = view_pack m ok in
      rw (pack_sound m ok, ok) (ap (λ (x : Model). first_no (further x (length call.lent) call.request)) v)

  answered_same : (o : Option Refusal) → answered_on o (pack m) call ≡ pack_outcome (answered o m call)
  answered_same None = ap (λ (x : Model). pack_outcome (outcome_of (effect x call.request) call.lent)) (view_pack m ok)
  answered_same (Some k) = refl

  pub call_packed : call_on (pack m) call ≡ pack_outcome (step m call)
  unfolding call_on step
  call_packed = rw asked_same (answered_same (first_no (questions m call)))

-- ===== a sound cache, its questions in two parts =====

module _ (c : Cache) (call : Call) (ok : sound_cache c ≡ true) (own rest : List Question)
    (split : further (view c) (length call.lent) call.request ≡ own ++ rest) where
  asked : first_no (questions_on c call) ≡ or_else (first_no own) (first_no rest)
  asked = rw ok (ap first_no split ∙ first_no_append own rest)

  -- a no in the first part leaves cache and slice
  pub first_part_refuses : (n : Refusal) → first_no own ≡ Some n → call_on c call ≡ record { cache = c; answer = refused n; slice = call.lent }
  unfolding call_on
  first_part_refuses n h = ap (λ (o : Option Refusal). answered_on o c call) (asked ∙ ap (λ (o : Option Refusal). or_else o (first_no rest)) h)

  -- else the second part decides
  pub second_part_decides : first_no own ≡ None → call_on c call ≡ answered_on (first_no rest) c call
  unfolding call_on
  second_part_decides h = ap (λ (o : Option Refusal). answered_on o c call) (asked ∙ ap (λ (o : Option Refusal). or_else o (first_no rest)) h)

-- What a function makes of a cache is the rules' answer on every sound cache, if it is on every packed one.
pub on_sound : (call : Call) (f : Cache → HeldOutcome) (rest : Model → List Question) →
    ((m : Model) → sound_model m ≡ true → f (pack m) ≡ pack_outcome (answered (first_no (rest m)) m call)) →
    (c : Cache) → sound_cache c ≡ true → f c ≡ answered_on (first_no (rest (view c))) c call
on_sound call f rest packed c ok =
    let p = sound_cache_packed c ok in
    ap f p.0 ∙ packed (view c) p.1 ∙ sym (answered_same (view c) call p.1 (first_no (rest (view c))))
    ∙ ap (λ (x : Cache). answered_on (first_no (rest (view c))) x call) (sym p.0)
