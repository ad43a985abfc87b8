-- Set boundary, collect and remove next collated on a cache as it is held are the rules, packed; and each is the call.
-- Assumes nothing.
use Rattle.blocks_cache.proofs.layout.AskedLaws.{asked_sound, own_refused, rest_decides, sound_passes}
use Rattle.block_records.specs.layout.Listed.{packed}
use Rattle.blocks_group.proofs.arrays.QueryLaws.{below_go, collect_group_packed, from_go, highest_below_boundary_packed, kept_by, lowest_collated_above_packed, remove_collated_above_packed}
use Rattle.blocks_group.proofs.rules.GroupLaws.{entry_seqno}
use Rattle.blocks_group.specs.arrays.Queries.{highest_below_boundary, highest_seqno, lowest_collated_above, lowest_seqno, remove_collated_above}
use Rattle.blocks_group.specs.layout.Block.{master_laws, master_parts, shard_laws, shard_parts}
use Rattle.blocks_group.specs.layout.Group.{ShardBlocks, pack_group}
use Rattle.blocks_group.specs.rules.Group.{GroupModel, below_boundary, collated_above, with_boundary, without_collated_above}
use Rattle.blocks_group.specs.arrays.Group.{set_boundary}
use Rattle.blocks_group.specs.arrays.Queries.{collect_group}
use Rattle.std.specs.List.{list_all, fold}
use Rattle.std.specs.Prelude.{Option, None, Some, map, cond, filter, Err, Ok, Result}
use Rattle.std.proofs.Common.{◌≡◌, ℕ, suc, ◌+◌, ◌-◌, ◌<◌, true, false, not, ltb, leb, List, [], ◌∷◌, ◌++◌, length, drop, get_or, take, set, replicate, sym, refl, ap, ◌∙◌, subst, ap₂, append_assoc, arith, length-append}
use Rattle.std.proofs.lemmas.Grind.{common_steps}
use lib.Seq.{drop-append_seam, get_or_at, set_at}
use Rattle.block_records.specs.declared.block_id.BlockId.{BlockId}
use Rattle.block_records.specs.declared.block_id.BlockIdShort.{BlockIdShort}
use Rattle.block_records.specs.declared.block_id.ShardIdent.{ShardIdent}
use Rattle.block_records.specs.declared.questions.Refusal.{Refusal}
use Rattle.block_records.specs.layout.Listed.{Keys}
use Rattle.blocks_cache.specs.declared.cache.Cache.{Cache}
use Rattle.blocks_cache.specs.declared.cache.ShardGroup.{ShardGroup}
use Rattle.std.proofs.lemmas.List.{get_or_default, length-map}
use Rattle.std.proofs.lemmas.List.Edits.{map_over_more}
use Rattle.block_records.proofs.rules.BlockIdLaws.{shard_order}
use Rattle.block_records.proofs.rules.ListLaws.{every_weaken, rising_each}
use Rattle.block_records.proofs.rules.OrderLaws.{differs, less_not_same}
use Rattle.block_records.proofs.rules.Tests.{clash, on}
use Rattle.block_records.specs.arrays.Place.{place, place_from}
use Rattle.block_records.specs.rules.BlockId.{is_masterchain, key_shard, less_shard, listed_keys, same_shard}
use Rattle.block_records.specs.rules.Lists.{padded, rising}
use Rattle.block_records.specs.rules.Questions.{Question, first_no, keys_questions, passed, check_keys}
use Rattle.blocks_cache.proofs.arrays.MasterDataLaws.{drop_ids_below_packed, drop_ids_from_packed}
use Rattle.blocks_cache.proofs.arrays.ShardsLaws.{shard_place_packed}
use Rattle.blocks_cache.proofs.layout.CallOnLaws.{on_sound}
use Rattle.blocks_cache.specs.arrays.Collection.{collect_shards, collect_shard_group, drop_collected, drop_removed, held_bound_one, held_collect, held_remove_masters, held_remove_one, on_place, on_shard_group}
use Rattle.blocks_cache.specs.layout.Cache.{call_on, pack, pack_outcome, pack_shard, view, zero_shard_group, unlent_outcome}
use Rattle.cache_rules.proofs.SoundLaws.{parts}
use Rattle.cache_rules.specs.Calls.{Effect, Request, collect, done, remove_next_collated, set_boundary as set_boundary_of, unlent, refused}
use Rattle.cache_rules.specs.Effects.{answered, bound_one, collect_shard, do_collect, effect, outcome_of, plain, remove_ids, remove_one}
use Rattle.cache_rules.specs.Model.{Model, ShardModel, is_shard, on_shard, shard_before, with_ids_and_range, with_shards}
use Rattle.cache_rules.specs.Refusals.{further, sound_model}
use Rattle.std.proofs.lemmas.Bool.{not-true}
use Rattle.block_records.proofs.layout.EntryLaws.{take_padded}
use Rattle.std.specs.Cmp.{first_so, second_so}

-- ===== a change of the group of one shard =====

module _ (s : ShardIdent) (f : ShardBlocks → ShardBlocks) (h : GroupModel → GroupModel) (same : (g : GroupModel) → f (pack_group shard_parts g) ≡ pack_group shard_parts (h g)) where
  -- nothing changes where no group is of the shard
  none_changes : (gs : List ShardModel) → list_all (λ (g : ShardModel). not (is_shard s g)) gs ≡ true → on_shard s h gs ≡ gs
  none_changes [] a = refl
  none_changes (g ∷ gs) a =
      rw (not-true (is_shard s g) (first_so (not (is_shard s g)) (list_all (λ (g : ShardModel). not (is_shard s g)) gs) a))
      (ap (λ (r : List ShardModel). g ∷ r) (none_changes gs (second_so (not (is_shard s g)) (list_all (λ (g : ShardModel). not (is_shard s g)) gs) a)))

  -- in rising groups none after one that is not below the shard
  later_unchanged : (g : ShardModel) (gs : List ShardModel) → less_shard g.shard s ≡ false → list_all (shard_before g) gs ≡ true → on_shard s h gs ≡ gs
  later_unchanged g gs t a =
      none_changes gs
      (every_weaken (shard_before g) (λ (y : ShardModel). not (is_shard s y)) gs
      (λ y l. rw (differs shard_order y.shard s (λ e. clash (subst (λ (x : ShardIdent). less_shard g.shard x ≡ true) e l) t))) a)

  -- the groups from place i on, those before it in front and zeros after them
  place_changes : (gs : List ShardModel) (front rest : List ShardGroup) (i : ℕ) → length front ≡ i → rising shard_before gs ≡ true →
      on_place f (place_from (λ (g : ShardModel). less_shard g.shard s) (is_shard s) i gs) (front ++ (map pack_shard gs ++ rest)) ≡ front ++ (map pack_shard (on_shard s h gs) ++ rest)
  place_changes [] front rest i n r = refl
  place_changes (g ∷ gs) front rest i n r = let ih = place_changes gs (front ++ (pack_shard g ∷ [])) rest (suc i) in on (less_shard g.shard s) (before ih) after
    where
      a : list_all (shard_before g) gs ≡ true
      a = first_so (list_all (shard_before g) gs) (rising shard_before gs) r

      before : (length (front ++ (pack_shard g ∷ [])) ≡ suc i → rising shard_before gs ≡ true →
          on_place f (place_from (λ (g : ShardModel). less_shard g.shard s) (is_shard s) (suc i) gs) ((front ++ (pack_shard g ∷ [])) ++ (map pack_shard gs ++ rest))
          ≡ (front ++ (pack_shard g ∷ [])) ++ (map pack_shard (on_shard s h gs) ++ rest)) → less_shard g.shard s ≡ true →
          on_place f (place_from (λ (g : ShardModel). less_shard g.shard s) (is_shard s) i (g ∷ gs)) (front ++ (map pack_shard (g ∷ gs) ++ rest))
          ≡ front ++ (map pack_shard (on_shard s h (g ∷ gs)) ++ rest)
      before ih t =
          let l : length (front ++ (pack_shard g ∷ [])) ≡ suc i = omega (arith, length-append front (pack_shard g ∷ [])) in
          let e = ih l (second_so (list_all (shard_before g) gs) (rising shard_before gs) r) in
          rw (t, less_not_same shard_order g.shard s t)
          (ap (on_place f (place_from (λ (g : ShardModel). less_shard g.shard s) (is_shard s) (suc i) gs)) (sym (append_assoc front (pack_shard g ∷ []) (map pack_shard gs ++ rest)))
          ∙ e ∙ append_assoc front (pack_shard g ∷ []) (map pack_shard (on_shard s h gs) ++ rest))

      here : less_shard g.shard s ≡ false →
          set (front ++ (pack_shard g ∷ (map pack_shard gs ++ rest))) i (record { shard = g.shard; group = f (pack_group shard_parts g.group) })
          ≡ front ++ (pack_shard (record { shard = g.shard; group = h g.group }) ∷ (map pack_shard (on_shard s h gs) ++ rest))
      here t =
          set_at front (pack_shard g) (map pack_shard gs ++ rest) (record { shard = g.shard; group = f (pack_group shard_parts g.group) }) i n
          ∙ ap₂ (λ (x : ShardBlocks) (ys : List ShardModel). front ++ (record { shard = g.shard; group = x } ∷ (map pack_shard ys ++ rest))) (same g.group) (sym (later_unchanged g gs t a))

      after : less_shard g.shard s ≡ false →
          on_place f (place_from (λ (g : ShardModel). less_shard g.shard s) (is_shard s) i (g ∷ gs)) (front ++ (map pack_shard (g ∷ gs) ++ rest))
          ≡ front ++ (map pack_shard (on_shard s h (g ∷ gs)) ++ rest)
      after t =
          rw t
          (on (same_shard g.shard s)
          (λ u. rw u (rw (get_or_at front (pack_shard g) (map pack_shard gs ++ rest) zero_shard_group i n) (here t)))
          (λ u. rw u (ap (λ (ys : List ShardModel). front ++ (pack_shard g ∷ (map pack_shard ys ++ rest))) (sym (later_unchanged g gs t a)))))

  on_place_packed : (gs : List ShardModel) → rising shard_before gs ≡ true →
      on_place f (place (λ (g : ShardModel). less_shard g.shard s) (is_shard s) gs) (padded 8 zero_shard_group (map pack_shard gs))
      ≡ padded 8 zero_shard_group (map pack_shard (on_shard s h gs))
  unfolding padded place
  on_place_packed gs r =
      let l : length (map pack_shard (on_shard s h gs)) ≡ length (map pack_shard gs) =
      length-map (on_shard s h gs) pack_shard ∙ length-map gs _ ∙ sym (length-map gs pack_shard) in
      place_changes gs [] (replicate (8 - length (map pack_shard gs)) zero_shard_group) 0 refl r
      ∙ ap (λ (n : ℕ). map pack_shard (on_shard s h gs) ++ replicate (8 - n) zero_shard_group) (sym l)

  -- on packed groups it is the model's change, packed
  pub on_shard_packed : (m : Model) → rising shard_before m.shards ≡ true → on_shard_group s f (pack m) ≡ pack (with_shards (on_shard s h m.shards) m)
  on_shard_packed m r =
      let e = ap (λ (p : Result ℕ ℕ). on_place f p (pack m).shards.items) (shard_place_packed s m) ∙ on_place_packed m.shards r in
      let n : length (map pack_shard m.shards) ≡ length (map pack_shard (on_shard s h m.shards)) =
      length-map m.shards pack_shard ∙ sym (length-map m.shards _) ∙ sym (length-map (on_shard s h m.shards) pack_shard) in
      λ i. record { zerostate_mc_seqno = m.zerostate; masters = (pack m).masters; «data» = (pack m).«data»; shards = record { count = n i; items = e i } }

  -- the groups rise as before
  pub on_shard_rises : (gs : List ShardModel) → rising shard_before gs ≡ true → rising shard_before (on_shard s h gs) ≡ true
  on_shard_rises gs r =
      rising_each (λ (g : ShardModel). cond (is_shard s g) (record { shard = g.shard; group = h g.group }) g) shard_before shard_before gs
      (λ x y l. rw (kept x, kept y) l) r
    where
      kept : (g : ShardModel) → (cond (is_shard s g) (record { shard = g.shard; group = h g.group }) g).shard ≡ g.shard
      kept g = on (is_shard s g) (λ t. rw t) (λ t. rw t)

-- ===== each key in turn =====

-- a change by one key that is the rule's on every packed cache of rising groups is so by all
module _ (f : Cache → BlockIdShort → Cache) (g : Model → BlockIdShort → Model)
    (one : (m : Model) (k : BlockIdShort) → rising shard_before m.shards ≡ true → f (pack m) k ≡ pack (g m k))
    (rises : (m : Model) (k : BlockIdShort) → rising shard_before m.shards ≡ true → rising shard_before (g m k).shards ≡ true) where
  keys_packed : (ks : List BlockIdShort) (m : Model) → rising shard_before m.shards ≡ true → fold f (pack m) ks ≡ pack (fold g m ks)
  keys_packed [] m r = refl
  keys_packed (k ∷ ks) m r = ap (λ (c : Cache). fold f c ks) (one m k r) ∙ keys_packed ks (g m k) (rises m k r)

-- ===== set boundary =====

bound_one_packed : (m : Model) (k : BlockIdShort) → rising shard_before m.shards ≡ true → held_bound_one (pack m) k ≡ pack (bound_one m k)
unfolding held_bound_one
bound_one_packed m k r =
    on (is_masterchain (key_shard k))
    (λ t. rw t)
    (λ t. rw t (on_shard_packed (key_shard k) (set_boundary k) (with_boundary k) (λ g. refl) m r))

bound_one_rises : (m : Model) (k : BlockIdShort) → rising shard_before m.shards ≡ true → rising shard_before (bound_one m k).shards ≡ true
bound_one_rises m k r =
    on (is_masterchain (key_shard k)) (λ t. rw t r) (λ t. rw t (on_shard_rises (key_shard k) (set_boundary k) (with_boundary k) (λ g. refl) m.shards r))

pub bound_packed : (ks : List BlockIdShort) (m : Model) → sound_model m ≡ true → fold held_bound_one (pack m) ks ≡ pack (fold bound_one m ks)
bound_packed ks m ok = keys_packed held_bound_one bound_one bound_one_packed bound_one_rises ks m (parts m ok).rest.shards.order

-- ===== collect =====

all_changed : {A B : Type 0} (f : A → A) (p : B → A) (h : B → B) → ((x : B) → f (p x) ≡ p (h x)) → (xs : List B) → map f (map p xs) ≡ map p (map h xs)
all_changed f p h same [] = refl
all_changed f p h same (x ∷ xs) = ap₂ ◌∷◌ (same x) (all_changed f p h same xs)

collected_shards : (gs : List ShardModel) →
    collect_shards (packed 8 zero_shard_group (map pack_shard gs)) ≡ packed 8 zero_shard_group (map pack_shard (map collect_shard gs))
unfolding padded
collected_shards gs =
    let l : length (map pack_shard (map collect_shard gs)) ≡ length (map pack_shard gs) =
    length-map (map collect_shard gs) pack_shard ∙ length-map gs collect_shard ∙ sym (length-map gs pack_shard) in
    let n = length (map pack_shard gs) in
    let rest : drop n (map pack_shard gs ++ replicate (8 - n) zero_shard_group) ≡ replicate (8 - n) zero_shard_group =
    drop-append_seam (map pack_shard gs) (replicate (8 - n) zero_shard_group) in
    let front =
    ap (map collect_shard_group) (take_padded 8 zero_shard_group (map pack_shard gs))
    ∙ all_changed collect_shard_group pack_shard collect_shard (λ g. ap (λ (x : ShardBlocks). record { shard = g.shard; group = x }) (collect_group_packed shard_parts shard_laws g.group)) gs in
    let e = ap₂ (λ (x y : List ShardGroup). x ++ y) front rest ∙ ap (λ (k : ℕ). map pack_shard (map collect_shard gs) ++ replicate (8 - k) zero_shard_group) (sym l) in
    let k = sym l in
    λ i. record { count = k i; items = e i }

module _ (m : Model) where
  collected_by_highest : (o : Option ℕ) → drop_collected (o) (pack m).«data» ≡ (pack (with_ids_and_range (kept_by (λ (n : ℕ) (i : BlockId). leb n i.seqno) o m.ids) m.range m)).«data»
  collected_by_highest None = refl
  collected_by_highest (Some n) = drop_ids_below_packed n m

  removed_by_lowest : (o : Option ℕ) → drop_removed (o) (pack m).«data» ≡ (pack (with_ids_and_range (kept_by (λ (n : ℕ) (i : BlockId). ltb i.seqno n) o m.ids) m.range m)).«data»
  removed_by_lowest None = refl
  removed_by_lowest (Some n) = drop_ids_from_packed n m

  collected_ids : drop_collected (highest_below_boundary master_parts (pack m).masters) (pack m).«data» ≡ (pack (do_collect m)).«data»
  collected_ids =
      let gone = filter (below_boundary m.masters.boundary) m.masters.entries in
      ap (λ (o : Option ℕ). drop_collected o (pack m).«data») (highest_below_boundary_packed master_parts master_laws m.masters)
      ∙ collected_by_highest (highest_seqno (map entry_seqno gone))
      ∙ ap (λ (ids : List BlockId). (pack (with_ids_and_range ids m.range m)).«data») (sym (below_go entry_seqno (λ (i : BlockId). i.seqno) gone m.ids))

  removed_ids : (n : ℕ) → drop_removed (lowest_collated_above master_parts n (pack m).masters) (pack m).«data»
      ≡ (pack (with_ids_and_range (fold remove_ids m.ids (filter (collated_above n) m.masters.entries)) m.range m)).«data»
  removed_ids n =
      let gone = filter (collated_above n) m.masters.entries in
      ap (λ (o : Option ℕ). drop_removed o (pack m).«data») (lowest_collated_above_packed master_parts master_laws n m.masters)
      ∙ removed_by_lowest (lowest_seqno (map entry_seqno gone))
      ∙ ap (λ (ids : List BlockId). (pack (with_ids_and_range ids m.range m)).«data») (sym (from_go entry_seqno (λ (i : BlockId). i.seqno) gone m.ids))

  pub collect_packed : held_collect (pack m) ≡ pack (do_collect m)
  unfolding held_collect
  collect_packed =
      let g = collect_group_packed master_parts master_laws m.masters in
      let d = collected_ids in
      let e = collected_shards m.shards in
      λ i. record { zerostate_mc_seqno = m.zerostate; masters = g i; «data» = d i; shards = e i }

-- ===== remove next collated =====

removed_masters : (n : ℕ) (m : Model) →
    held_remove_masters n (pack m)
    ≡ pack (record {
      zerostate = m.zerostate;
      masters = without_collated_above n m.masters;
      ids = fold remove_ids m.ids (filter (collated_above n) m.masters.entries);
      range = m.range;
      shards = m.shards;
    })
removed_masters n m =
    let g = remove_collated_above_packed master_parts master_laws m.masters n in
    let d = removed_ids m n in
    λ i. record { zerostate_mc_seqno = m.zerostate; masters = g i; «data» = d i; shards = (pack m).shards }

remove_one_packed : (m : Model) (k : BlockIdShort) → rising shard_before m.shards ≡ true → held_remove_one (pack m) k ≡ pack (remove_one m k)
unfolding held_remove_one
remove_one_packed m k r =
    on (is_masterchain (key_shard k))
    (λ t. rw t (removed_masters k.seqno m))
    (λ t. rw t (on_shard_packed (key_shard k) (remove_collated_above shard_parts k.seqno) (without_collated_above k.seqno) (λ g. remove_collated_above_packed shard_parts shard_laws g k.seqno) m r))

remove_one_rises : (m : Model) (k : BlockIdShort) → rising shard_before m.shards ≡ true → rising shard_before (remove_one m k).shards ≡ true
remove_one_rises m k r =
    on (is_masterchain (key_shard k))
    (λ t. rw t r)
    (λ t. rw t (on_shard_rises (key_shard k) (remove_collated_above shard_parts k.seqno) (without_collated_above k.seqno) (λ g. remove_collated_above_packed shard_parts shard_laws g k.seqno) m.shards r))

pub remove_packed : (ks : List BlockIdShort) (m : Model) → sound_model m ≡ true → fold held_remove_one (pack m) ks ≡ pack (fold remove_one m ks)
remove_packed ks m ok = keys_packed held_remove_one remove_one remove_one_packed remove_one_rises ks m (parts m ok).rest.shards.order

-- ===== the calls =====

-- A change of a cache that is the rule's on every packed sound one is the call, after the questions of the call.
module _ (q : Request) (own : List Question) (asks : (m : Model) → further m 0 q ≡ own ++ []) (f : Cache → Cache) (g : Model → Model)
    (does : (m : Model) → effect m q ≡ plain done (g m)) (packed : (m : Model) → sound_model m ≡ true → f (pack m) ≡ pack (g m)) where
  change_packed : (m : Model) → sound_model m ≡ true → unlent_outcome (f (pack m)) done ≡ pack_outcome (answered None m (unlent q))
  change_packed m ok =
      ap (λ (x : Cache). unlent_outcome x done) (packed m ok) ∙ ap (λ (e : Effect). pack_outcome (outcome_of e [])) (sym (does m))

  change_is : (c : Cache) → asked_sound c ≡ Ok tt → passed (first_no own) ≡ Ok tt → unlent_outcome (f c) done ≡ call_on c (unlent q)
  change_is c sound e =
      on_sound (unlent q) (λ (x : Cache). unlent_outcome (f x) done) (λ m. []) change_packed c (sound_passes c sound)
      ∙ rest_decides c q own [] (asks (view c)) sound e

module _ (ks : Keys) where
  asks_boundary : (m : Model) → further m 0 (set_boundary_of ks) ≡ keys_questions ks ++ []
  unfolding further
  asks_boundary m = refl

  sets_boundary : (m : Model) → effect m (set_boundary_of ks) ≡ plain done (fold bound_one m (listed_keys ks))
  unfolding effect
  sets_boundary m = refl

  asks_removal : (m : Model) → further m 0 (remove_next_collated ks) ≡ keys_questions ks ++ []
  unfolding further
  asks_removal m = refl

  removes : (m : Model) → effect m (remove_next_collated ks) ≡ plain done (fold remove_one m (listed_keys ks))
  unfolding effect
  removes m = refl

  module _ (c : Cache) (sound : asked_sound c ≡ Ok tt) where
    pub boundary_refuses : (n : Refusal) → check_keys ks ≡ Err n → unlent_outcome c (refused n) ≡ call_on c (unlent (set_boundary_of ks))
    boundary_refuses n e = own_refused c (set_boundary_of ks) (keys_questions ks) [] (asks_boundary (view c)) sound n e

    pub boundary_is : check_keys ks ≡ Ok tt → unlent_outcome (fold held_bound_one c (listed_keys ks)) done ≡ call_on c (unlent (set_boundary_of ks))
    boundary_is e =
        change_is (set_boundary_of ks) (keys_questions ks) asks_boundary (λ (x : Cache). fold held_bound_one x (listed_keys ks))
        (λ (m : Model). fold bound_one m (listed_keys ks)) sets_boundary (bound_packed (listed_keys ks)) c sound e

    pub removal_refuses : (n : Refusal) → check_keys ks ≡ Err n → unlent_outcome c (refused n) ≡ call_on c (unlent (remove_next_collated ks))
    removal_refuses n e = own_refused c (remove_next_collated ks) (keys_questions ks) [] (asks_removal (view c)) sound n e

    pub removal_is : check_keys ks ≡ Ok tt → unlent_outcome (fold held_remove_one c (listed_keys ks)) done ≡ call_on c (unlent (remove_next_collated ks))
    removal_is e =
        change_is (remove_next_collated ks) (keys_questions ks) asks_removal (λ (x : Cache). fold held_remove_one x (listed_keys ks))
        (λ (m : Model). fold remove_one m (listed_keys ks)) removes (remove_packed (listed_keys ks)) c sound e

asks_nothing : (m : Model) → further m 0 collect ≡ [] ++ []
unfolding further
asks_nothing m = refl

collects : (m : Model) → effect m collect ≡ plain done (do_collect m)
unfolding effect
collects m = refl

pub collect_is : (c : Cache) → asked_sound c ≡ Ok tt → unlent_outcome (held_collect c) done ≡ call_on c (unlent collect)
collect_is c sound = change_is collect [] asks_nothing held_collect do_collect collects (λ m ok. collect_packed m) c sound refl

-- ===== the steps of the code =====

-- one group more is collected; d is what would be read past the places
pub collected_next : (xs ys : List ShardGroup) (i : ℕ) (d : ShardGroup) (g : ShardBlocks) → i < length xs →
    ys ≡ map collect_shard_group (take i xs) ++ drop i xs → g ≡ collect_group shard_parts (get_or ys i d).group →
    set ys i (record { shard = (get_or ys i d).shard; group = g }) ≡ map collect_shard_group (take (i + 1) xs) ++ drop (i + 1) xs
collected_next xs ys i d g h e eg =
    rw eg (map_over_more collect_shard_group xs ys i (get_or ys i d) h e (get_or_default ys i d (get_or ys i d) (grind (arith, common_steps))))
