-- The claim over every list of steps.
-- Assumes nothing.
use Rattle.block_records.specs.declared.questions.Refusal.{Refusal}
use Rattle.std.specs.Prelude.{Option, None, Some, map}
use mathlib.Core.Bool.{true}
use mathlib.Core.List.{List, Memᴰ, [], ◌∷◌}
use mathlib.Core.Logic.{◌↔◌, ◌≢◌}
use mathlib.Core.Path.{◌∙◌, ◌≡◌, ap, refl, subst, sym}
use Prim.Native.Nat.{◌+◌, ◌≤◌, ℕ}
use native.Mathlib.Omega.{arith}
use borrow.Author.Tests.{leb-true}
use lib.Dec.{leb}
use lib.ListN.{drop, length, length-append, length-drop, take}
use lib.Seq.{drop_at, take_at}
use Rattle.block_records.specs.declared.block_id.BlockId.{BlockId}
use Rattle.block_records.specs.declared.block_id.BlockIdShort.{BlockIdShort}
use Rattle.block_records.specs.declared.entry.BlockCacheEntry.{BlockCacheEntry}
use Rattle.block_records.specs.declared.entry.BlockCacheEntryData.{BlockCacheEntryData}
use Rattle.block_records.proofs.rules.Finds.{find_member}
use Rattle.block_records.proofs.rules.Tests.{on, some_not_none}
use Rattle.block_records.specs.layout.Entry.{pack_entry}
use Rattle.block_records.specs.rules.BlockId.{key}
use Rattle.block_records.specs.rules.Entry.{Entry}
use Rattle.block_records.specs.rules.Lists.{total}
use Rattle.block_records.specs.rules.Questions.{first_no}
use Rattle.blocks_group.proofs.rules.GroupLaws.{member_without}
use Rattle.blocks_group.specs.rules.Group.{at_seqno, has_seqno, without}
use Rattle.cache_rules.proofs.CountLaws.{records_suffice, taken_count}
use Rattle.cache_rules.proofs.HandsOutLaws.{exactly, once_entries, once_packed, others_stay, reached_left}
use Rattle.cache_rules.proofs.SoundLaws.{cached_lookup, lookup_cached, parts}
use Rattle.cache_rules.proofs.SoundSteps.{Yes, all_yes, step_sound}
use Rattle.cache_rules.specs.Calls.{Call, Effect, Extract, Request, Validation, collect, handed, peek, pop, read_tail_ids, remove_next_collated, set_boundary, store_collated, store_received, store_validation, sync}
use Rattle.cache_rules.specs.Claim.{Cached, HandsOut, Joins, Once, Reached, ReachedKey, StepHolds, StepsClaim}
use Rattle.cache_rules.specs.Effects.{answered, at_front, do_store_received, effect, extract_of, peek_entry, pop_entry, step, sync_entry, tail_ids_entry, validate_entry, validate_kind, validated_kind}
use Rattle.cache_rules.specs.Extraction.{extraction_of, previous_in, starting_ids}
use Rattle.cache_rules.specs.Model.{Model, ShardModel, applied_from, block_under, first_applied}
use Rattle.cache_rules.specs.Refusals.{further, is_synced, questions, sound_model}
use Rattle.std.proofs.lemmas.List.{length-map}

-- ===== what a pop or a sync extraction hands out =====

packed_counts : (es : List Entry) → total (λ (b : BlockCacheEntry). b.prev_ids.count) (map pack_entry es) ≡ previous_in es
packed_counts [] = refl
packed_counts (e ∷ es) = ap (λ (n : ℕ). length e.previous + n) (packed_counts es)

module _ (m : Model) (M : Entry) (ok : sound_model m ≡ true) (was : Memᴰ M m.masters.entries) (lent : List BlockCacheEntry) (enough : 128 ≤ length lent)
    (after : Model) (ok' : sound_model after ≡ true) (shards' : after.shards ≡ (extraction_of M m).shards)
    (masters' : after.masters.entries ≡ without M.id.seqno m.masters.entries) where
  abbrev out : List BlockCacheEntry
  out = map pack_entry (extraction_of M m).joined

  abbrev n : ℕ
  n = length (extraction_of M m).joined

  out_length : length out ≡ n
  out_length = length-map (extraction_of M m).joined pack_entry

  front : take n (at_front out lent) ≡ out
  front = take_at out (drop (length out) lent) n out_length

  few : n ≤ length lent
  few = omega (arith, records_suffice m M ok)

  stays : (k : BlockIdShort) (e : Entry) → Cached after k e ↔ (Cached m k e × (ReachedKey m M k → ⊥))
  stays k e = (from, to)
    where
      unreached : Cached after k e → (i : BlockId) → Reached m M i → key i ≢ k
      unreached c i r s =
          let f : block_under (extraction_of M m).shards k ≡ Some e = subst (λ (gs : List ShardModel). block_under gs k ≡ Some e) shards' (cached_lookup after ok' k e c) in
          some_not_none f (subst (λ (x : BlockIdShort). block_under (extraction_of M m).shards x ≡ None) s (reached_left m M ok i r))

      from : Cached after k e → Cached m k e × (ReachedKey m M k → ⊥)
      from c =
          let f : block_under (extraction_of M m).shards k ≡ Some e = subst (λ (gs : List ShardModel). block_under gs k ≡ Some e) shards' (cached_lookup after ok' k e c) in
          (lookup_cached m k e (sym (others_stay m M ok k (unreached c)) ∙ f), λ r. unreached c r.0 r.1 r.2)

      to : Cached m k e × (ReachedKey m M k → ⊥) → Cached after k e
      to c =
          let f = others_stay m M ok k (λ i r s. c.1 (i, r, s)) ∙ cached_lookup m ok k e c.0 in
          lookup_cached after k e (subst (λ (gs : List ShardModel). block_under gs k ≡ Some e) (sym shards') f)

  pub hands_out : HandsOut m lent (extract_of M (extraction_of M m)) after (at_front out lent)
  hands_out =
      record {
        exactly = λ b. subst (λ (bs : List BlockCacheEntry). Memᴰ b bs ↔ Joins m M b) (sym front) (exactly m M ok b);
        once = subst Once (sym front) (once_packed (extraction_of M m).joined (once_entries m M ok));
        fits = few;
        same_length = length-append out (drop (length out) lent) ∙ omega (arith, length-drop (length out) lent, few, out_length);
        rest_untouched = drop_at out (drop (length out) lent) n out_length ∙ ap (λ (k : ℕ). drop k lent) out_length;
        was_cached = was;
        masters = λ e. subst (λ (es : List Entry). Memᴰ e es ↔ (Memᴰ e m.masters.entries × (e.id.seqno ≢ M.id.seqno))) (sym masters') (member_without M.id.seqno m.masters.entries e);
        shards = stays;
        ids_taken =
            taken_count M.id.seqno (starting_ids m.zerostate M) m.shards
            ∙ ap (λ (k : ℕ). length (starting_ids m.zerostate M) + k) (sym (packed_counts (extraction_of M m).joined) ∙ ap (total (λ (b : BlockCacheEntry). b.prev_ids.count)) (sym front));
      }

-- ===== one request that is not refused =====

-- what an effect hands out, if it hands out anything
abbrev EffectHands : Model → List BlockCacheEntry → Effect → Type 0
EffectHands m lent e = (x : Extract) → handed e.answer ≡ Some x → HandsOut m lent x e.model (at_front (map pack_entry e.blocks) lent)

abbrev NoBlocks : Effect → Type 0
NoBlocks e = handed e.answer ≡ None → e.blocks ≡ []

nothing_hands : (m : Model) (lent : List BlockCacheEntry) (e : Effect) → handed e.answer ≡ None → EffectHands m lent e
nothing_hands m lent e h x f = some_not_none f h

-- exactly the extract that is handed out
extract_hands : (m : Model) (lent : List BlockCacheEntry) (e : Effect) (y : Extract) → handed e.answer ≡ Some y →
    HandsOut m lent y e.model (at_front (map pack_entry e.blocks) lent) → EffectHands m lent e
extract_hands m lent e y h t x f =
    let s : Some y ≡ Some x = sym h ∙ f in
    let q : y ≡ x = cc in
    subst (λ (z : Extract). HandsOut m lent z e.model (at_front (map pack_entry e.blocks) lent)) q t

pop_hands : (m : Model) (f : ℕ) (lent : List BlockCacheEntry) (o : Option Entry) → sound_model m ≡ true → 128 ≤ length lent → first_applied f m ≡ o →
    sound_model (pop_entry o m).model ≡ true → EffectHands m lent (pop_entry o m)
pop_hands m f lent None ok enough e ok' = nothing_hands m lent (pop_entry None m) refl
pop_hands m f lent (Some M) ok enough e ok' =
    extract_hands m lent (pop_entry (Some M) m) (extract_of M (extraction_of M m)) refl
    (hands_out m M ok (find_member (applied_from f) m.masters.entries e) lent enough (pop_entry (Some M) m).model ok' refl refl)

sync_hands : (m : Model) (n : ℕ) (lent : List BlockCacheEntry) (o : Option Entry) → sound_model m ≡ true → 128 ≤ length lent → at_seqno n m.masters.entries ≡ o →
    sound_model (sync_entry o m).model ≡ true → EffectHands m lent (sync_entry o m)
sync_hands m n lent None ok enough e ok' = nothing_hands m lent (sync_entry None m) refl
sync_hands m n lent (Some M) ok enough e ok' =
    extract_hands m lent (sync_entry (Some M) m) (extract_of M (extraction_of M m)) refl
    (hands_out m M ok (find_member (has_seqno n) m.masters.entries e) lent enough (sync_entry (Some M) m).model ok' refl refl)

record Plain (e : Effect) : Type 0 where
  hands_none : handed e.answer ≡ None
  no_blocks : e.blocks ≡ []

validate_kind_plain : (v : Validation) (e : Entry) (o : Option BlockCacheEntryData) (m : Model) → Plain (validate_kind v e o m)
validate_kind_plain v e None m = record { hands_none = refl; no_blocks = refl }
validate_kind_plain v e (Some k) m = record { hands_none = refl; no_blocks = refl }

validate_plain : (v : Validation) (o : Option Entry) (m : Model) → Plain (validate_entry v o m)
validate_plain v None m = record { hands_none = refl; no_blocks = refl }
validate_plain v (Some e) m = validate_kind_plain v e (validated_kind v e.kind) m

peek_plain : (o : Option Entry) (m : Model) → Plain (peek_entry o m)
peek_plain None m = record { hands_none = refl; no_blocks = refl }
peek_plain (Some e) m = record { hands_none = refl; no_blocks = refl }

tails_plain : (o : Option Entry) (m : Model) → Plain (tail_ids_entry o m)
tails_plain None m = record { hands_none = refl; no_blocks = refl }
tails_plain (Some e) m = record { hands_none = refl; no_blocks = refl }

pop_blocks : (o : Option Entry) (m : Model) → NoBlocks (pop_entry o m)
pop_blocks None m h = refl
pop_blocks (Some M) m h = some_not_none refl h

sync_blocks : (o : Option Entry) (m : Model) → NoBlocks (sync_entry o m)
sync_blocks None m h = refl
sync_blocks (Some M) m h = some_not_none refl h

record Hands (m : Model) (lent : List BlockCacheEntry) (e : Effect) : Type 0 where
  hands : EffectHands m lent e
  blocks : NoBlocks e

plainly : (m : Model) (lent : List BlockCacheEntry) (e : Effect) → Plain e → Hands m lent e
plainly m lent e p = record { hands = nothing_hands m lent e p.hands_none; blocks = λ h. p.no_blocks }

effect_hands : (m : Model) (r : Request) (lent : List BlockCacheEntry) → sound_model m ≡ true → Yes (further m (length lent) r) → sound_model (effect m r).model ≡ true → Hands m lent (effect m r)
unfolding effect further
effect_hands m (store_collated c) lent ok y ok' = plainly m lent _ (record { hands_none = refl; no_blocks = refl })
effect_hands m (store_received r) lent ok y ok' =
    plainly m lent (do_store_received r m)
    (on (is_synced r.block_id m) (λ t. rw t (record { hands_none = refl; no_blocks = refl })) (λ t. rw t (record { hands_none = refl; no_blocks = refl })))
effect_hands m (store_validation i v) lent ok y ok' = plainly m lent _ (validate_plain v (at_seqno i.seqno m.masters.entries) m)
effect_hands m (pop f) lent ok y ok' =
    record { hands = pop_hands m f lent (first_applied f m) ok (leb-true 128 (length lent) y.1.0) refl ok'; blocks = pop_blocks (first_applied f m) m }
effect_hands m (sync i) lent ok y ok' =
    record {
      hands = sync_hands m i.seqno lent (at_seqno i.seqno m.masters.entries) ok (leb-true 128 (length lent) y.1.0) refl ok';
      blocks = sync_blocks (at_seqno i.seqno m.masters.entries) m;
    }
effect_hands m (peek f) lent ok y ok' = plainly m lent _ (peek_plain (first_applied f m) m)
effect_hands m (read_tail_ids k) lent ok y ok' =
    plainly m lent (effect m (read_tail_ids k))
    (on (leb k.seqno m.zerostate) (λ t. rw t (record { hands_none = refl; no_blocks = refl })) (λ t. rw t (tails_plain (at_seqno k.seqno m.masters.entries) m)))
effect_hands m (set_boundary ks) lent ok y ok' = plainly m lent _ (record { hands_none = refl; no_blocks = refl })
effect_hands m collect lent ok y ok' = plainly m lent _ (record { hands_none = refl; no_blocks = refl })
effect_hands m (remove_next_collated ks) lent ok y ok' = plainly m lent _ (record { hands_none = refl; no_blocks = refl })

-- ===== one step =====

answered_holds : (m : Model) (call : Call) (o : Option Refusal) → first_no (questions m call) ≡ o → sound_model m ≡ true → sound_model (answered o m call).model ≡ true → StepHolds m call (answered o m call)
answered_holds m call None e ok ok' =
    let h = effect_hands m call.request call.lent ok (all_yes (questions m call) e).1 ok' in
    record {
      hands_out = h.hands;
      nothing_out = λ f. ap (λ (bs : List Entry). at_front (map pack_entry bs) call.lent) (h.blocks f);
      range = (parts (answered None m call).model ok').range;
      sound_still = ok';
    }
answered_holds m call (Some k) e ok ok' =
    record { hands_out = λ x f. some_not_none f refl; nothing_out = λ f. refl; range = (parts m ok).range; sound_still = ok }

pub step_holds : (m : Model) (call : Call) → sound_model m ≡ true → StepHolds m call (step m call)
unfolding step
step_holds m call ok = answered_holds m call (first_no (questions m call)) refl ok (step_sound m call ok)

-- ===== every list of steps =====

pub steps_claim : StepsClaim
steps_claim start ok [] = tt
steps_claim start ok (call ∷ calls) = (step_holds start call ok, steps_claim (step start call).model (step_sound start call ok) calls)
