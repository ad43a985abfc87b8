-- What `?` says of a question asked by itself, and of what is looked for; and a refusal by a question is the call's.
-- Assumes nothing.
use Rattle.block_records.specs.declared.questions.Refusal.{Refusal}
use Rattle.block_records.specs.declared.questions.Refusal.TheVariants.{Unsound}
use Rattle.std.specs.Result.{IsErrAnd, result_ok}
use Rattle.std.proofs.lemmas.Result.{err_from_is_err_and}
use Rattle.std.specs.Prelude.{None, Option, Some, cond, Err, Ok, Result, ok_or, ⊤}
use Rattle.std.proofs.Common.{◌≡◌, Bool, true, false, List, [], ◌∷◌, length, sym, refl, ap, ◌∙◌, subst}
use Rattle.block_records.specs.rules.Questions.{Question, ask, passed}
use Rattle.blocks_cache.specs.declared.cache.Cache.{Cache}
use Rattle.blocks_cache.proofs.layout.CallLaws.{unsound_answers_1}
use Rattle.blocks_cache.proofs.layout.CallOnLaws.{first_part_refuses}
use Rattle.blocks_cache.specs.layout.Cache.{call_on, sound_cache, view}
use Rattle.cache_rules.specs.Calls.{Call, refused}
use Rattle.cache_rules.specs.Refusals.{further}

-- what `?` returns of a refusal
pub passed_on : {T : Type 0} (r : Result T Refusal) (x : Refusal) → IsErrAnd r (λ y. y ≡ x) → r ≡ Err x
passed_on r x e = let f = err_from_is_err_and r e in f.1 ∙ ap Err f.2

-- the answer of one question
abbrev pub checked : Bool → Refusal → Result ⊤ Refusal
checked b r = cond b (Ok tt) (Err r)

module _ {T : Type 0} where
  abbrev IsPassed : Result T Refusal → Type 0
  IsPassed (Ok u) = Unit {0}
  IsPassed (Err x) = ⊥

  abbrev refusal_or : Refusal → Result T Refusal → Refusal
  refusal_or r (Ok u) = r
  refusal_or r (Err x) = x

  -- nothing was found, and its refusal is the answer
  pub not_found : (o : Option T) (r x : Refusal) → Err x ≡ ok_or o r → (o ≡ None) × (x ≡ r)
  not_found None r x e = (refl, ap (refusal_or r) e)
  not_found (Some t) r x e = absurd (subst IsPassed (sym e) tt)

  pub was_found : (o : Option T) (r : Refusal) (t : T) → ok_or o r ≡ Ok t → o ≡ Some t
  was_found (Some x) r t e = ap result_ok e
  was_found None r t e = absurd (subst IsPassed (sym e) tt)

pub checked_yes : (b : Bool) (r : Refusal) (u : ⊤) → Ok u ≡ checked b r → b ≡ true
checked_yes true r u e = refl
checked_yes false r u e = absurd (subst IsPassed e tt)

checked_no : (b : Bool) (r x : Refusal) → Err x ≡ checked b r → (b ≡ false) × (x ≡ r)
checked_no true r x e = absurd (subst IsPassed (sym e) tt)
checked_no false r x e = (refl, ap (refusal_or r) e)

-- a refusal in place of more than a yes is the question's too
pub refused_by : {A : Type 0} (a : A) (b : Bool) (r x : Refusal) → Err x ≡ cond b (Ok a) (Err r) → Err x ≡ checked b r
refused_by a true r x e = absurd (subst IsPassed (sym e) tt)
refused_by a false r x e = ap Err (ap (refusal_or r) e)

-- of several questions, the first no
pub passed_yes : (o : Option Refusal) (u : ⊤) → Ok u ≡ passed o → o ≡ None
passed_yes None u e = refl
passed_yes (Some r) u e = absurd (subst IsPassed e tt)

pub passed_no : (o : Option Refusal) (x : Refusal) → Err x ≡ passed o → o ≡ Some x
passed_no None x e = absurd (subst IsPassed (sym e) tt)
passed_no (Some r) x e = ap (λ (y : Refusal). Some y) (sym (ap (refusal_or r) e))

-- question 1 refuses
pub sound_refuses : (c : Cache) (call : Call) (x : Refusal) → Err x ≡ checked (sound_cache c) Unsound → record { cache = c; answer = refused x; slice = call.lent } ≡ call_on c call
sound_refuses c call x e =
    let n = checked_no (sound_cache c) Unsound x e in
    ap (λ (r : Refusal). record { cache = c; answer = refused r; slice = call.lent }) n.1 ∙ sym (unsound_answers_1 c call n.0)

-- the next question refuses
pub next_refuses : (c : Cache) (call : Call) (b : Bool) (r : Refusal) (rest : List Question) → sound_cache c ≡ true →
    further (view c) (length call.lent) call.request ≡ ask r b ∷ rest → (x : Refusal) → Err x ≡ checked b r →
    record { cache = c; answer = refused x; slice = call.lent } ≡ call_on c call
next_refuses c call b r rest ok asks x e =
    let n = checked_no b r x e in
    ap (λ (y : Refusal). record { cache = c; answer = refused y; slice = call.lent }) n.1
    ∙ sym (first_part_refuses c call ok (ask r b ∷ []) rest asks r (rw n.0))
