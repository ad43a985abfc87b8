-- Questions 2 to 4: in which order they refuse, and that an entry as it is held is asked the same as what it stands for.
-- Assumes nothing.
use lib.Pointwise.{pointwise}
use Rattle.std.specs.Prelude.{Option, None, Some, is_ok}
use mathlib.Core.Bool.{Bool, ◌&&◌, false, true}
use mathlib.Core.List.{List, [], ◌++◌, ◌∷◌}
use mathlib.Core.Path.{◌∙◌, ◌≡◌, ap, ap₂, refl, sym}
use Prim.Native.Nat.{ℕ}
use borrow.Author.Tests.{eqb-true}
use lib.Dec.{eqb}
use lib.ListN.{length}
use Rattle.block_records.specs.declared.block_id.BlockId.{BlockId}
use Rattle.block_records.specs.declared.entry.BlockCacheEntry.{BlockCacheEntry}
use Rattle.block_records.specs.declared.questions.Refusal.{Refusal}
use Rattle.block_records.specs.declared.questions.Refusal.TheVariants.{SeqnoLimit, TooMany, WrongLink}
use Rattle.block_records.specs.layout.Listed.{PrevIds, TopBlocks}
use Rattle.block_records.proofs.layout.TidyLaws.{entry_tidy_is}
use Rattle.block_records.proofs.rules.Tests.{and_intro, on, some_not_none}
use Rattle.block_records.specs.layout.Entry.{entry_tidy, pack_prev_ids, pack_tops, prev_ids_tidy, tops_tidy, view_entry}
use Rattle.block_records.specs.layout.Equality.{same_top}
use Rattle.block_records.specs.layout.Questions.{held_entry_fits}
use Rattle.block_records.specs.rules.BlockId.{listed_prev_ids, listed_tops, same_id}
use Rattle.block_records.specs.rules.Questions.{Question, ask, check_record, counts_fit, entry_fits, first_no, links_fit, passed, record_questions, seqnos_fit}
use Rattle.std.specs.Cmp.{first_so, second_so}

-- ===== in the order asked =====

-- the questions of one list, then those of another
abbrev pub or_else : Option Refusal → Option Refusal → Option Refusal
or_else None o = o
or_else (Some n) o = Some n

pub first_no_append : (qs rs : List Question) → first_no (qs ++ rs) ≡ or_else (first_no qs) (first_no rs)
first_no_append [] rs = refl
first_no_append (q ∷ qs) rs = on q.yes? (λ t. rw t (first_no_append qs rs)) (λ t. rw t)

-- no refusal: the answer to all three is yes
pub record Passes (i : BlockId) (reference : ℕ) (previous : PrevIds) (tops : TopBlocks) : Type 0 where
  pub seqnos : seqnos_fit i reference (listed_prev_ids previous) (listed_tops tops) ≡ true
  pub counts : counts_fit i previous.count tops.count ≡ true
  pub links : links_fit i (listed_prev_ids previous) (listed_tops tops) ≡ true

three_yes : (a b c : Bool) → first_no (ask SeqnoLimit a ∷ ask TooMany b ∷ ask WrongLink c ∷ []) ≡ None → (a ≡ true) × ((b ≡ true) × (c ≡ true))
three_yes true true true h = (refl, (refl, refl))
three_yes true true false h = some_not_none refl h
three_yes true false c h = some_not_none refl h
three_yes false b c h = some_not_none refl h

pub record_passes : (i : BlockId) (reference : ℕ) (previous : PrevIds) (tops : TopBlocks) → first_no (record_questions i reference previous tops) ≡ None →
    Passes i reference previous tops
record_passes i reference previous tops h =
    let e =
    three_yes (seqnos_fit i reference (listed_prev_ids previous) (listed_tops tops)) (counts_fit i previous.count tops.count)
    (links_fit i (listed_prev_ids previous) (listed_tops tops)) h in
    record { seqnos = e.0; counts = e.1.0; links = e.1.1 }

-- ===== an entry as it is held =====

-- refused by none of them exactly if all are true of it
pub held_fits_passes : (b : BlockCacheEntry) (t : TopBlocks) → first_no (record_questions b.block_id b.ref_by_mc_seqno b.prev_ids t) ≡ None → held_entry_fits b t ≡ true
unfolding held_entry_fits
held_fits_passes b t h =
    let p = record_passes b.block_id b.ref_by_mc_seqno b.prev_ids t h in
    and_intro p.seqnos (and_intro p.counts p.links)

pub passes_held_fits : (b : BlockCacheEntry) (t : TopBlocks) → held_entry_fits b t ≡ true → first_no (record_questions b.block_id b.ref_by_mc_seqno b.prev_ids t) ≡ None
unfolding held_entry_fits
passes_held_fits b t h =
    let s = seqnos_fit b.block_id b.ref_by_mc_seqno (listed_prev_ids b.prev_ids) (listed_tops t) in
    let n = counts_fit b.block_id b.prev_ids.count t.count in
    let l = links_fit b.block_id (listed_prev_ids b.prev_ids) (listed_tops t) in
    rw (first_so s (n && l) h, first_so n l (second_so s (n && l) h), second_so n l (second_so s (n && l) h))

-- passed exactly if all are true of it
pub checked_fits : (b : BlockCacheEntry) (t : TopBlocks) → is_ok (check_record b.block_id b.ref_by_mc_seqno b.prev_ids t) ≡ held_entry_fits b t
unfolding held_entry_fits
checked_fits b t =
    three (seqnos_fit b.block_id b.ref_by_mc_seqno (listed_prev_ids b.prev_ids) (listed_tops t)) (counts_fit b.block_id b.prev_ids.count t.count)
    (links_fit b.block_id (listed_prev_ids b.prev_ids) (listed_tops t))
  where
    three : (s n l : Bool) → is_ok (passed (first_no (ask SeqnoLimit s ∷ ask TooMany n ∷ ask WrongLink l ∷ []))) ≡ s && (n && l)
    three true true true = refl
    three true true false = refl
    three true false l = refl
    three false n l = refl

-- of a tidy entry it is asked what is asked of the entry that it stands for
pub held_fits_is : (b : BlockCacheEntry) (t : TopBlocks) → entry_tidy b ≡ true → tops_tidy t ≡ true → held_entry_fits b t ≡ entry_fits (view_entry b (listed_tops t))
unfolding held_entry_fits
held_fits_is b t p q =
    let ids : prev_ids_tidy b.prev_ids ≡ true = sym (entry_tidy_is b) ∙ p in
    let n : b.prev_ids.count ≡ length (listed_prev_ids b.prev_ids) =
    eqb-true b.prev_ids.count (length (listed_prev_ids b.prev_ids))
    (first_so (eqb b.prev_ids.count (length (listed_prev_ids b.prev_ids))) (pointwise same_id b.prev_ids.items (pack_prev_ids (listed_prev_ids b.prev_ids)).items) ids) in
    let k : t.count ≡ length (listed_tops t) =
    eqb-true t.count (length (listed_tops t)) (first_so (eqb t.count (length (listed_tops t))) (pointwise same_top t.items (pack_tops (listed_tops t)).items) q) in
    let e : counts_fit b.block_id b.prev_ids.count t.count ≡ counts_fit b.block_id (length (listed_prev_ids b.prev_ids)) (length (listed_tops t)) =
    ap₂ (counts_fit b.block_id) n k in
    ap (λ (x : Bool). seqnos_fit b.block_id b.ref_by_mc_seqno (listed_prev_ids b.prev_ids) (listed_tops t)
    && (x && links_fit b.block_id (listed_prev_ids b.prev_ids) (listed_tops t))) e
