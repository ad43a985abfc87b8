-- A call to which no slice is lent, by what the code asks in turn: question 1, the record's own questions, the rest.
-- Assumes nothing.
use Rattle.block_records.specs.declared.questions.Refusal.{Refusal}
use Rattle.block_records.specs.declared.questions.Refusal.TheVariants.{Unsound}
use Rattle.std.specs.Prelude.{Err, None, Ok, Option, Result, Some, ⊤}
use Rattle.std.proofs.Common.{◌≡◌, true, List, ◌++◌, sym, refl, ap, ◌∙◌}
use Rattle.blocks_cache.specs.declared.cache.Cache.{Cache}
use Rattle.block_records.specs.rules.Questions.{Question, first_no, passed}
use Rattle.blocks_cache.proofs.layout.CallLaws.{err_of}
use Rattle.blocks_cache.proofs.layout.CheckLaws.{checked, checked_yes, sound_refuses}
use Rattle.blocks_cache.proofs.layout.CallOnLaws.{first_part_refuses, second_part_decides}
use Rattle.blocks_cache.specs.layout.Cache.{answered_on, call_on, sound_cache, unlent_outcome, view}
use Rattle.cache_rules.specs.Calls.{Request, refused, unlent}
use Rattle.cache_rules.specs.Refusals.{further}

-- what `check_sound` answers of a cache
abbrev pub asked_sound : Cache → Result ⊤ Refusal
asked_sound h = checked (sound_cache h) Unsound

-- an answer gives back what was packed into it
view_passed : (o : Option Refusal) → err_of (passed o) ≡ o
view_passed None = refl
view_passed (Some n) = refl

pub passed_is : (o : Option Refusal) (r : Result ⊤ Refusal) → passed o ≡ r → o ≡ err_of r
passed_is o r e = sym (view_passed o) ∙ ap err_of e

module _ (h : Cache) where
  pub sound_passes : asked_sound h ≡ Ok tt → sound_cache h ≡ true
  sound_passes e = checked_yes (sound_cache h) Unsound tt (sym e)

  module _ (q : Request) where
    pub unsound_refused : (n : Refusal) → asked_sound h ≡ Err n → unlent_outcome h (refused n) ≡ call_on h (unlent q)
    unsound_refused n e = sound_refuses h (unlent q) n (sym e)

    module _ (own rest : List Question) (split : further (view h) 0 q ≡ own ++ rest) (sound : asked_sound h ≡ Ok tt) where
      pub own_refused : (n : Refusal) → passed (first_no own) ≡ Err n → unlent_outcome h (refused n) ≡ call_on h (unlent q)
      own_refused n e = sym (first_part_refuses h (unlent q) (sound_passes sound) own rest split n (passed_is (first_no own) (Err n) e))

      pub rest_decides : passed (first_no own) ≡ Ok tt → answered_on (first_no rest) h (unlent q) ≡ call_on h (unlent q)
      rest_decides e = sym (second_part_decides h (unlent q) (sound_passes sound) own rest split (passed_is (first_no own) (Ok tt) e))
