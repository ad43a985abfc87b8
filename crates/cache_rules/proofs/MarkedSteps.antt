-- Every call leaves each Received entry at or below its group's mark; so a received store meets question 7 on no cache that calls make.
-- Assumes nothing.
use Rattle.block_records.specs.declared.questions.Refusal.{Refusal}
use Rattle.block_records.specs.declared.questions.Refusal.TheVariants.{AlreadyStored}
use Rattle.std.specs.List.{list_all}
use Rattle.std.specs.Prelude.{Option, None, Some, is_some}
use mathlib.Core.Bool.{◌||◌, not, true}
use mathlib.Core.List.{List, [], ◌∷◌}
use mathlib.Core.Logic.{◌≢◌}
use mathlib.Core.Path.{◌∙◌, ◌≡◌, ap, refl}
use Prim.Native.Nat.{ℕ}
use borrow.Author.Tests.{eq-eqb, eqb-true}
use lib.Dec.{eqb, leb}
use lib.ListN.{length}
use Rattle.block_records.specs.declared.entry.BlockCacheEntry.{BlockCacheEntry}
use Rattle.block_records.specs.declared.store_records.ReceivedBlock.{ReceivedBlock}
use Rattle.block_records.proofs.rules.Finds.{find_passes}
use Rattle.block_records.proofs.rules.Tests.{and_intro, clash, on, some_not_none}
use Rattle.block_records.specs.rules.BlockId.{id_shard, listed_keys}
use Rattle.block_records.specs.rules.Entry.{Entry, is_received}
use Rattle.block_records.specs.rules.Questions.{refusal_number, Question, first_no}
use Rattle.blocks_group.specs.rules.Group.{GroupModel, at_seqno, given_mark, has_seqno, vacant_or}
use Rattle.cache_rules.proofs.MarkedLaws.{Marked, bound_marked, collated_marked, collect_marked, found_marked, group_for_marked, marked_parts, peek_marked, pop_marked, received_marks, remove_marked, sync_marked, tails_marked, validate_marked}
use Rattle.cache_rules.proofs.NeverRefused.{effect_yes}
use Rattle.cache_rules.proofs.SoundSteps.{all_yes}
use Rattle.cache_rules.specs.Calls.{Call, Request, collect, peek, pop, read_tail_ids, refusal, refused, remove_next_collated, set_boundary, store_collated, store_received, store_validation, sync}
use Rattle.cache_rules.specs.Effects.{after, answered, effect, step}
use Rattle.cache_rules.specs.Marked.{group_marked, received_marked}
use Rattle.cache_rules.specs.Model.{Model, empty_model, entry_for, first_applied, group_for}
use Rattle.cache_rules.specs.Refusals.{further, mark_reaches, questions}
use Rattle.std.proofs.Math.Bool.{or-true}
use Rattle.std.specs.Cmp.{first_so, second_so}

-- ===== every request, every call, every list of calls =====

effect_marked : (m : Model) (r : Request) → Marked m → Marked (effect m r).model
unfolding effect
effect_marked m (store_collated c) h = collated_marked c m h
effect_marked m (store_received r) h = received_marks r m h
effect_marked m (store_validation i v) h = validate_marked v (at_seqno i.seqno m.masters.entries) m h
effect_marked m (pop f) h = pop_marked (first_applied f m) m h
effect_marked m (sync i) h = sync_marked (at_seqno i.seqno m.masters.entries) m h
effect_marked m (peek f) h = peek_marked (first_applied f m) m h
effect_marked m (read_tail_ids k) h =
    on (leb k.seqno m.zerostate) (λ t. rw t h) (λ t. rw t (tails_marked (at_seqno k.seqno m.masters.entries) m h))
effect_marked m (set_boundary ks) h = bound_marked (listed_keys ks) m h
effect_marked m collect h = collect_marked m h
effect_marked m (remove_next_collated ks) h = remove_marked (listed_keys ks) m h

answered_marked : (m : Model) (call : Call) (o : Option Refusal) → Marked m → Marked (answered o m call).model
answered_marked m call None h = effect_marked m call.request h
answered_marked m call (Some n) h = h

pub empty_marked : (z : ℕ) → received_marked (empty_model z) ≡ true
empty_marked z = refl

-- refused or not, sound or not
pub step_marked : (m : Model) (call : Call) → received_marked m ≡ true → received_marked (step m call).model ≡ true
unfolding step
step_marked m call h =
    let k = answered_marked m call (first_no (questions m call)) (marked_parts m h) in and_intro k.masters k.shards

pub after_marked : (calls : List Call) (m : Model) → received_marked m ≡ true → received_marked (after m calls) ≡ true
unfolding after
after_marked [] m h = h
after_marked (call ∷ calls) m h = after_marked calls (step m call).model (step_marked m call h)

-- ===== a received store =====

reached_given : (n : ℕ) (k : Option ℕ) → mark_reaches n k ≡ true → is_some (given_mark n k) ≡ true
reached_given n None h = h
reached_given n (Some k) h = rw h

-- a Received entry in the way means that the mark has reached it: Synced
synced_or_free : (n : ℕ) (g : GroupModel) (o : Option Entry) → group_marked g ≡ true → at_seqno n g.entries ≡ o →
    is_some (given_mark n g.mark) || vacant_or (λ (e : Entry). not (is_received e)) o ≡ true
synced_or_free n g None h f = or-true (is_some (given_mark n g.mark))
synced_or_free n g (Some e) h f =
    let s : e.id.seqno ≡ n = eqb-true e.id.seqno n (find_passes (has_seqno n) g.entries f) in
    on (is_received e)
    (λ t. let k : mark_reaches e.id.seqno g.mark ≡ true = rw t at (found_marked n g h f) in rw (reached_given n g.mark (rw s at k)))
    (λ t. rw t (or-true (is_some (given_mark n g.mark))))

-- where every question of a number is answered by yes, that question is not the first no
not_first : (n : ℕ) (qs : List Question) → list_all (λ (q : Question). not (eqb (refusal_number q.refusal) n) || q.yes?) qs ≡ true →
    (r : Refusal) → refusal_number r ≡ n → first_no qs ≢ Some r
not_first n [] a r k h = some_not_none h refl
not_first n (q ∷ qs) a r k h =
    let of_q = not (eqb (refusal_number q.refusal) n) || q.yes? in
    let rest = list_all (λ (x : Question). not (eqb (refusal_number x.refusal) n) || x.yes?) qs in
    on q.yes?
    (λ t. not_first n qs (second_so of_q rest a) r k (rw t at h))
    (λ t. let e : Some q.refusal ≡ Some r = rw t at h in
    let s : q.refusal ≡ r = cc in
    let y : not (eqb (refusal_number q.refusal) n) || q.yes? ≡ true = first_so of_q rest a in
    clash (rw (t, eq-eqb (refusal_number q.refusal) n (ap refusal_number s ∙ k)) at y) refl)

module _ (m : Model) (h : received_marked m ≡ true) (r : ReceivedBlock) (lent : List BlockCacheEntry) where
  abbrev receive : Call
  receive = record { request = store_received r; lent = lent }

  not_7 : first_no (questions m receive) ≢ Some AlreadyStored
  unfolding further
  not_7 =
      not_first 7 (questions m receive)
      (and_intro (synced_or_free r.block_id.seqno (group_for (id_shard r.block_id) m) (entry_for r.block_id m)
      (group_for_marked (id_shard r.block_id) m (marked_parts m h)) refl) refl) AlreadyStored refl

  answered_not_7 : (o : Option Refusal) → first_no (questions m receive) ≡ o → (answered o m receive).answer ≢ refused AlreadyStored
  answered_not_7 None f e = some_not_none (ap refusal e) (effect_yes m (length lent) (store_received r) (all_yes (questions m receive) f).1)
  answered_not_7 (Some n) f e = let s : n ≡ AlreadyStored = cc in not_7 (f ∙ ap Some s)

  -- on any cache whose Received entries are marked, sound or not
  pub marked_never_meets_7 : (step m receive).answer ≢ refused AlreadyStored
  unfolding step
  marked_never_meets_7 = answered_not_7 (first_no (questions m receive)) refl

-- On the cache that any list of calls makes of any empty one, no received store is refused by question 7, whatever its record and lent slice.
pub received_never_meets_7 : (zerostate : ℕ) (calls : List Call) (r : ReceivedBlock) (lent : List BlockCacheEntry) →
    (step (after (empty_model zerostate) calls) (record { request = store_received r; lent = lent })).answer ≢ refused AlreadyStored
received_never_meets_7 zerostate calls r lent =
    marked_never_meets_7 (after (empty_model zerostate) calls) (after_marked calls (empty_model zerostate) (empty_marked zerostate)) r lent
