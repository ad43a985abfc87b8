-- An empty cache is sound, and a sound one is sound after any call.
-- Assumes nothing.
use Rattle.block_records.specs.declared.range.AppliedRange.{AppliedRange}
use Rattle.block_records.specs.declared.questions.Refusal.{Refusal}
use Rattle.std.specs.List.{fold}
use Rattle.std.specs.Prelude.{Option, None, Some, map, cond, filter}
use mathlib.Core.Bool.{not, true}
use mathlib.Core.List.{List, [], ◌∷◌}
use mathlib.Core.Path.{◌≡◌, refl, subst, sym}
use Prim.Native.Nat.{◌+◌, ℕ}
use borrow.Author.Tests.{eqb-true}
use lib.Dec.{eqb, leb}
use lib.ListN.{length}
use Rattle.block_records.specs.declared.block_id.BlockId.{BlockId}
use Rattle.block_records.specs.declared.block_id.BlockIdShort.{BlockIdShort}
use Rattle.block_records.specs.declared.entry.BlockCacheEntryData.{BlockCacheEntryData}
use Rattle.block_records.proofs.rules.BlockIdLaws.{same_shard_refl}
use Rattle.block_records.proofs.rules.Finds.{find_passes}
use Rattle.block_records.proofs.rules.ListLaws.{every_each, rising_each}
use Rattle.block_records.proofs.rules.Tests.{and_intro, on, some_not_none}
use Rattle.block_records.specs.rules.BlockId.{id_shard, is_masterchain, key, key_shard, listed_keys}
use Rattle.block_records.specs.rules.Entry.{Entry, is_applied, with_kind}
use Rattle.block_records.specs.rules.Questions.{Question, first_no}
use Rattle.blocks_group.proofs.rules.GroupLaws.{at_seqno_fits, group_bound, group_change, group_select}
use Rattle.blocks_group.specs.rules.Group.{GroupModel, at_seqno, below_boundary, collated_above, has_seqno, refresh, with_boundary, without_collated_above}
use Rattle.blocks_group.specs.rules.Soundness.{of_shard, sound_group_model}
use Rattle.cache_rules.proofs.CountLaws.{places}
use Rattle.cache_rules.proofs.RangeLaws.{effect_range}
use Rattle.cache_rules.proofs.ShardLaws.{ShardsOk, shards_change}
use Rattle.cache_rules.proofs.SoundLaws.{IdsOk, Parts, Rest, parts, whole}
use Rattle.cache_rules.proofs.StoreLaws.{candidate_fits, collated_rest, ids_select, receipt_fits, received_rest}
use Rattle.cache_rules.specs.Calls.{Call, Request, Validation, collect, peek, pop, read_tail_ids, remove_next_collated, set_boundary, store_collated, store_received, store_validation, sync}
use Rattle.cache_rules.specs.Effects.{answered, bound_one, collect_ids, collect_shard, do_collect, effect, extracted_model, masters_without, peek_entry, pop_entry, remove_ids, remove_one, step, sync_entry, tail_ids_entry, validate_entry, validate_kind, validated_kind}
use Rattle.cache_rules.specs.Extraction.{Walk, extraction_of, first_walk, previous_cached, starting_ids, take_found, take_times}
use Rattle.cache_rules.specs.Model.{Model, ShardModel, empty_model, first_applied, moved_start, remove_block, shard_before}
use Rattle.cache_rules.specs.Refusals.{further, questions, sound_model, sound_shard_model}
use Rattle.cache_rules.proofs.WalkLaws.{walk_keeps}
use Rattle.std.proofs.lemmas.List.{length-map}
use Rattle.std.specs.Cmp.{first_so, second_so}

-- ===== validation =====

validate_kind_rest : (v : Validation) (e : Entry) (o : Option BlockCacheEntryData) (m : Model) → Rest m → at_seqno e.id.seqno m.masters.entries ≡ Some e → Rest (validate_kind v e o m).model
validate_kind_rest v e None m h f = h
validate_kind_rest v e (Some k) m h f =
    record {
      masters = group_change is_masterchain e.id.seqno (Some (with_kind k e)) m.masters h.masters (at_seqno_fits is_masterchain e.id.seqno m.masters (Some e) h.masters f) (rw f);
      ids = h.ids;
      shards = h.shards;
    }

place_at : (n : ℕ) (es : List Entry) {e : Entry} → at_seqno n es ≡ Some e → at_seqno e.id.seqno es ≡ Some e
place_at n es {e} f = subst (λ (k : ℕ). at_seqno k es ≡ Some e) (sym (eqb-true e.id.seqno n (find_passes (has_seqno n) es f))) f

validate_rest : (v : Validation) (n : ℕ) (o : Option Entry) (m : Model) → Rest m → at_seqno n m.masters.entries ≡ o → Rest (validate_entry v o m).model
validate_rest v n None m h f = h
validate_rest v n (Some e) m h f = validate_kind_rest v e (validated_kind v e.kind) m h (place_at n m.masters.entries f)

-- ===== extraction =====

found_shards : (mm : ℕ) (i : BlockId) (q : List BlockId) (w : Walk) (o : Option Entry) → ShardsOk w.shards → ShardsOk (take_found mm i q w o).shards
found_shards mm i q w None h = h
found_shards mm i q w (Some e) h =
    let l : ShardsOk (remove_block (key i) w.shards) =
    shards_change (id_shard i) _ w.shards (λ g k. group_select (of_shard (id_shard i)) (λ (x : Entry). not (has_seqno i.seqno x)) g k) h in
    on (eqb e.reference mm) (λ t. rw t (shards_change (id_shard i) (refresh i.seqno) (remove_block (key i) w.shards) (λ g k. k) l)) (λ t. rw t l)

times_shards : (k mm : ℕ) (w : Walk) → ShardsOk w.shards → ShardsOk (take_times k mm w).shards
times_shards k mm w h = walk_keeps mm (λ w. ShardsOk w.shards) (λ w i rest o e f c. found_shards mm i rest w o c) k w h

extracted_shards : (M : Entry) (m : Model) → ShardsOk m.shards → ShardsOk (extraction_of M m).shards
extracted_shards M m h =
    let ids = starting_ids m.zerostate M in times_shards (length ids + previous_cached m.shards) M.id.seqno (first_walk ids m.shards) h

extracted_rest : (M : Entry) (m : Model) (masters : GroupModel) (range : Option AppliedRange) → Rest m → sound_group_model is_masterchain masters ≡ true →
    Rest (extracted_model M (extraction_of M m) masters range m)
extracted_rest M m masters range h ok =
    record { masters = ok; ids = ids_select (λ (i : BlockId). leb M.id.seqno i.seqno) m.ids h.ids; shards = extracted_shards M m h.shards }

masters_left : (M : Entry) (m : Model) → Rest m → sound_group_model is_masterchain (masters_without M m) ≡ true
masters_left M m h = group_select is_masterchain (λ (x : Entry). not (has_seqno M.id.seqno x)) m.masters h.masters

pop_rest : (o : Option Entry) (m : Model) → Rest m → Rest (pop_entry o m).model
pop_rest None m h = h
pop_rest (Some M) m h = extracted_rest M m (masters_without M m) (moved_start M.id.seqno m.range) h (masters_left M m h)

sync_rest : (o : Option Entry) (m : Model) → Rest m → Rest (sync_entry o m).model
sync_rest None m h = h
sync_rest (Some M) m h =
    extracted_rest M m (refresh M.id.seqno (masters_without M m)) (cond (is_applied M) (moved_start M.id.seqno m.range) m.range) h (masters_left M m h)

peek_rest : (o : Option Entry) (m : Model) → Rest m → Rest (peek_entry o m).model
peek_rest None m h = h
peek_rest (Some e) m h = h

tails_rest : (o : Option Entry) (m : Model) → Rest m → Rest (tail_ids_entry o m).model
tails_rest None m h = h
tails_rest (Some e) m h = h

-- ===== boundary, collect, remove next collated =====

bound_one_rest : (m : Model) (k : BlockIdShort) → Rest m → Rest (bound_one m k)
bound_one_rest m k h =
    on (is_masterchain (key_shard k))
    (λ t. rw t (record { masters = group_bound is_masterchain k m.masters t h.masters; ids = h.ids; shards = h.shards }))
    (λ t. rw t (record {
      masters = h.masters;
      ids = h.ids;
      shards = shards_change (key_shard k) (with_boundary k) m.shards (λ g s. group_bound (of_shard (key_shard k)) k g (same_shard_refl (key_shard k)) s) h.shards;
    }))

bound_rest : (ks : List BlockIdShort) (m : Model) → Rest m → Rest (fold bound_one m ks)
bound_rest [] m h = h
bound_rest (k ∷ ks) m h = bound_rest ks (bound_one m k) (bound_one_rest m k h)

collect_ids_ok : (es : List Entry) (ids : List BlockId) → IdsOk ids → IdsOk (fold collect_ids ids es)
collect_ids_ok [] ids h = h
collect_ids_ok (e ∷ es) ids h = collect_ids_ok es (collect_ids ids e) (ids_select _ ids h)

remove_ids_ok : (es : List Entry) (ids : List BlockId) → IdsOk ids → IdsOk (fold remove_ids ids es)
remove_ids_ok [] ids h = h
remove_ids_ok (e ∷ es) ids h = remove_ids_ok es (remove_ids ids e) (ids_select _ ids h)

collect_shards : (gs : List ShardModel) → ShardsOk gs → ShardsOk (map collect_shard gs)
collect_shards gs h =
    record {
      count = rw (length-map gs collect_shard) h.count;
      order = rising_each collect_shard shard_before shard_before gs (λ x y l. l) h.order;
      each_ok = every_each collect_shard sound_shard_model sound_shard_model gs
          (λ x ok. and_intro (first_so (not (is_masterchain x.shard)) (sound_group_model (of_shard x.shard) x.group) ok)
          (group_select (of_shard x.shard) (λ (e : Entry). not (below_boundary x.group.boundary e)) x.group
          (second_so (not (is_masterchain x.shard)) (sound_group_model (of_shard x.shard) x.group) ok))) h.each_ok;
    }

collect_rest : (m : Model) → Rest m → Rest (do_collect m)
collect_rest m h =
    record {
      masters = group_select is_masterchain (λ (e : Entry). not (below_boundary m.masters.boundary e)) m.masters h.masters;
      ids = collect_ids_ok (filter (below_boundary m.masters.boundary) m.masters.entries) m.ids h.ids;
      shards = collect_shards m.shards h.shards;
    }

remove_one_rest : (m : Model) (k : BlockIdShort) → Rest m → Rest (remove_one m k)
remove_one_rest m k h =
    on (is_masterchain (key_shard k))
    (λ t. rw t (record {
      masters = group_select is_masterchain (λ (e : Entry). not (collated_above k.seqno e)) m.masters h.masters;
      ids = remove_ids_ok (filter (collated_above k.seqno) m.masters.entries) m.ids h.ids;
      shards = h.shards;
    }))
    (λ t. rw t (record {
      masters = h.masters;
      ids = h.ids;
      shards = shards_change (key_shard k) (without_collated_above k.seqno) m.shards (λ g s. group_select (of_shard (key_shard k)) (λ (e : Entry). not (collated_above k.seqno e)) g s) h.shards;
    }))

remove_rest : (ks : List BlockIdShort) (m : Model) → Rest m → Rest (fold remove_one m ks)
remove_rest [] m h = h
remove_rest (k ∷ ks) m h = remove_rest ks (remove_one m k) (remove_one_rest m k h)

-- ===== every request =====

abbrev pub Yes : List Question → Type 0
Yes [] = Unit {0}
Yes (q ∷ qs) = (q.yes? ≡ true) × Yes qs

pub all_yes : (qs : List Question) → first_no qs ≡ None → Yes qs
all_yes [] h = tt
all_yes (q ∷ qs) h =
    on q.yes? (λ t. (t, all_yes qs (rw t at h))) (λ t. let z : Some q.refusal ≡ None = rw t at h in some_not_none refl z)

effect_rest : (m : Model) (places : ℕ) (r : Request) → Rest m → Yes (further m places r) → Rest (effect m r).model
unfolding effect further
effect_rest m places (store_collated c) h y = collated_rest m c h (candidate_fits c y.0 y.1.0 y.1.1.0) y.1.1.1.1.0 y.1.1.1.1.1.0
effect_rest m places (store_received r) h y = received_rest m r h (receipt_fits m.zerostate r y.0 y.1.0 y.1.1.0) y.1.1.1.1.1.1.0
effect_rest m places (store_validation i v) h y = validate_rest v i.seqno (at_seqno i.seqno m.masters.entries) m h refl
effect_rest m places (pop f) h y = pop_rest (first_applied f m) m h
effect_rest m places (sync i) h y = sync_rest (at_seqno i.seqno m.masters.entries) m h
effect_rest m places (peek f) h y = peek_rest (first_applied f m) m h
effect_rest m places (read_tail_ids k) h y =
    on (leb k.seqno m.zerostate) (λ t. rw t h) (λ t. rw t (tails_rest (at_seqno k.seqno m.masters.entries) m h))
effect_rest m places (set_boundary ks) h y = bound_rest (listed_keys ks) m h
effect_rest m places collect h y = collect_rest m h
effect_rest m places (remove_next_collated ks) h y = remove_rest (listed_keys ks) m h

-- ===== every call =====

pub empty_sound : (z : ℕ) → sound_model (empty_model z) ≡ true
unfolding sound_model
empty_sound z = refl

answered_parts : (m : Model) (call : Call) (o : Option Refusal) → first_no (questions m call) ≡ o → Parts m → Parts (answered o m call).model
answered_parts m call None e h =
    let y = all_yes (questions m call) e in
    record { range = effect_range m call.request h.range; rest = effect_rest m (length call.lent) call.request h.rest y.1 }
answered_parts m call (Some n) e h = h

pub step_sound : (m : Model) (call : Call) → sound_model m ≡ true → sound_model (step m call).model ≡ true
unfolding step
step_sound m call h = whole (answered (first_no (questions m call)) m call).model (answered_parts m call (first_no (questions m call)) refl (parts m h))
