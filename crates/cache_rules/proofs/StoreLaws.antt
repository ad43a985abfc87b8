-- The two stores leave a sound cache sound.
-- Assumes nothing.
use Rattle.std.specs.List.{list_all, find}
use Rattle.std.specs.Prelude.{Option, None, Some, cond, is_some, filter}
use mathlib.Core.Bool.{Bool, ◌&&◌, ◌||◌, false, not, true}
use mathlib.Core.List.{List, [], ◌∷◌}
use mathlib.Core.Path.{◌∙◌, ◌≡◌, refl, subst, sym}
use Prim.Native.Nat.{◌≤◌, suc, zero, ℕ}
use native.Mathlib.Nat.{le_refl}
use native.Mathlib.Omega.{arith}
use borrow.Author.Tests.{eq-eqb, eqb-true, le-leb, le-ltb, leb-true, ltb-true}
use lib.Dec.{eqb, leb, ltb}
use lib.ListN.{length, take}
use Rattle.block_records.specs.declared.block_id.BlockId.{BlockId}
use Rattle.block_records.specs.declared.block_id.ShardIdent.{ShardIdent}
use Rattle.block_records.specs.declared.store_records.BlockCandidate.{BlockCandidate}
use Rattle.block_records.specs.layout.Listed.{PrevIds}
use Rattle.block_records.specs.declared.store_records.ReceivedBlock.{ReceivedBlock}
use Rattle.block_records.specs.declared.top_block.TopBlock.{TopBlock}
use Rattle.block_records.specs.layout.Listed.{TopBlocks}
use Rattle.block_records.proofs.rules.BlockIdLaws.{same_shard_refl}
use Rattle.block_records.proofs.rules.Finds.{find_member, find_passes}
use Rattle.block_records.proofs.rules.ListLaws.{by_number, every_put, every_select, length_put, length_put_same, length_select, rising_put, rising_select}
use Rattle.block_records.proofs.rules.Tests.{and_intro, clash, on}
use Rattle.block_records.specs.rules.BlockId.{id_shard, is_masterchain, listed_prev_ids, listed_tops, same_id}
use Rattle.block_records.specs.rules.Entry.{Entry, fresh_collated, fresh_received}
use Rattle.block_records.specs.rules.Lists.{put}
use Rattle.block_records.specs.rules.Questions.{counts_fit, entry_fits, id_fits, links_fit, seqno_fits, seqnos_fit, top_fits, top_outside}
use Rattle.blocks_group.proofs.rules.GroupLaws.{FitsAt, at_seqno_fits, collated_fits, group_change, received_fits}
use Rattle.blocks_group.specs.rules.Group.{Stored, at_seqno, changed_entries, store_collated_at, store_received_at, with_entries}
use Rattle.blocks_group.specs.rules.Soundness.{of_shard, sound_group_model}
use Rattle.cache_rules.proofs.ShardLaws.{group_of_sound, shards_set}
use Rattle.cache_rules.proofs.SoundLaws.{IdsOk, Rest}
use Rattle.cache_rules.specs.Effects.{collated_data, do_store_collated, do_store_received, received_stored, store_change}
use Rattle.cache_rules.specs.Model.{Model, ShardModel, entry_for, find_shard, group_in, group_of, id_before, ids_below}
use Rattle.cache_rules.specs.Refusals.{has_id_room, has_room, id_masterchain, inserts_or_updates, is_synced}
use Rattle.std.proofs.lemmas.Bool.{not-true}
use Rattle.std.specs.Cmp.{first_so, second_so}

-- ===== the last collated ids =====

abbrev id_seqno : BlockId → ℕ
id_seqno i = i.seqno

pub ids_select : (q : BlockId → Bool) (ids : List BlockId) → IdsOk ids → IdsOk (filter q ids)
ids_select q ids h =
    record {
      count = le-leb (length (filter q ids)) 32 (omega (arith, length_select q ids, leb-true (length ids) 32 h.count));
      order = rising_select id_before q ids h.order;
      side = every_select id_masterchain q ids h.side;
    }

abbrev at_id : ℕ → BlockId → Bool
at_id n j = eqb j.seqno n

pub ids_length : (i : BlockId) (o : Option BlockId) (ids : List BlockId) → IdsOk ids → find (at_id i.seqno) ids ≡ o →
    is_some o || ltb (length ids) 32 ≡ true → length (put id_before i ids) ≤ 32
ids_length i None ids h f room = omega (arith, length_put id_before i ids, ltb-true (length ids) 32 room)
ids_length i (Some x) ids h f room =
    let t = eqb-true x.seqno i.seqno (find_passes (at_id i.seqno) ids f) in
    omega (
      arith,
      leb-true (length ids) 32 h.count,
      length_put_same id_before (by_number id_seqno) i x ids h.order (find_member (at_id i.seqno) ids f)
          (le-ltb i.seqno x.seqno (omega arith)) (le-ltb x.seqno i.seqno (omega arith)),
    )

ids_put : (i : BlockId) (ids : List BlockId) → IdsOk ids → id_masterchain i ≡ true → is_some (find (at_id i.seqno) ids) || ltb (length ids) 32 ≡ true → IdsOk (put id_before i ids)
ids_put i ids h side room =
    record {
      count = le-leb (length (put id_before i ids)) 32 (ids_length i (find (at_id i.seqno) ids) ids h refl room);
      order = rising_put id_before (by_number id_seqno) i ids h.order;
      side = every_put id_masterchain id_before i ids side h.side;
    }

-- ===== questions 8 and 9, as a group needs them =====

pub or_false : (a b : Bool) → a || b ≡ true → a ≡ false → b ≡ true
or_false true b h f = clash refl f
or_false false b h f = h

or_split : (a b c : Bool) → a || (b && c) ≡ true → a || b ≡ true
or_split true b c h = refl
or_split false b c h = first_so b c h

present_shard : (n : ℕ) (o : Option ShardModel) → is_some (at_seqno n (group_in o).entries) ≡ true → is_some o ≡ true
present_shard n None h = h
present_shard n (Some x) h = refl

room_master : (i : BlockId) (m : Model) → is_masterchain (id_shard i) ≡ true → has_room i m ≡ true →
    is_some (at_seqno i.seqno m.masters.entries) || ltb (length m.masters.entries) 16 ≡ true
room_master i m t h = or_split (is_some (at_seqno i.seqno m.masters.entries)) (ltb (length m.masters.entries) 16) true (rw t at h)

module _ (i : BlockId) (m : Model) (t : is_masterchain (id_shard i) ≡ false) (h : has_room i m ≡ true) where
  abbrev its_entries : List Entry
  its_entries = (group_of (id_shard i) m.shards).entries

  abbrev shard_room : Bool
  shard_room = is_some (find_shard (id_shard i) m.shards) || ltb (length m.shards) 8

  room_group : is_some (at_seqno i.seqno its_entries) || ltb (length its_entries) 16 ≡ true
  room_group = or_split (is_some (at_seqno i.seqno its_entries)) (ltb (length its_entries) 16) shard_room (rw t at h)

  room_shard : shard_room ≡ true
  room_shard =
      on (is_some (at_seqno i.seqno its_entries))
      (λ u. rw (present_shard i.seqno (find_shard (id_shard i) m.shards) u))
      (λ u. second_so (ltb (length its_entries) 16) shard_room (or_false (is_some (at_seqno i.seqno its_entries)) _ (rw t at h) u))

-- a collated store inserts or updates exactly where it has no mismatch
pub inserts_is : (c : BlockCandidate) (o : Option Entry) → not (inserts_or_updates c o) ≡ (store_collated_at c o).mismatch
inserts_is c None = refl
inserts_is c (Some e) = on (same_id e.id c.block_id) (λ t. rw t) (λ t. rw t)

both_yes : (a b : Bool) → a ≡ true → not b ≡ false → not (a && b) ≡ false
both_yes a b t u = rw t u

id_room : (c : BlockCandidate) (m : Model) → has_id_room c m ≡ true → id_masterchain c.block_id ≡ true → (store_collated_at c (entry_for c.block_id m)).mismatch ≡ false →
    is_some (find (at_id c.block_id.seqno) m.ids) || ltb (length m.ids) 32 ≡ true
id_room c m h t u =
    let o = entry_for c.block_id m in
    or_false (not (id_masterchain c.block_id && inserts_or_updates c o)) _ h (both_yes (id_masterchain c.block_id) (inserts_or_updates c o) t (inserts_is c o ∙ u))

place_master : (i : BlockId) (m : Model) → Rest m → is_masterchain (id_shard i) ≡ true → FitsAt is_masterchain i.seqno (entry_for i m)
place_master i m h t = rw t (at_seqno_fits is_masterchain i.seqno m.masters _ h.masters refl)

place_shard : (i : BlockId) (m : Model) → Rest m → is_masterchain (id_shard i) ≡ false → FitsAt (of_shard (id_shard i)) i.seqno (entry_for i m)
place_shard i m h t = rw t (at_seqno_fits (of_shard (id_shard i)) i.seqno (group_of (id_shard i) m.shards) _ (group_of_sound (id_shard i) m.shards h.shards) refl)

-- ===== collated store =====

shard_stored : (m : Model) (i : BlockId) (change : Option Entry) → Rest m → is_masterchain (id_shard i) ≡ false → FitsAt (of_shard (id_shard i)) i.seqno change → has_room i m ≡ true →
    sound_group_model (of_shard (id_shard i)) (with_entries (changed_entries change (group_of (id_shard i) m.shards).entries) (group_of (id_shard i) m.shards)) ≡ true
shard_stored m i change h t f rm =
    group_change (of_shard (id_shard i)) i.seqno change (group_of (id_shard i) m.shards) (group_of_sound (id_shard i) m.shards h.shards) f (room_group i m t rm)

change_rest : (m : Model) (i : BlockId) (o : Option Entry) → Rest m → has_room i m ≡ true → (id_masterchain i ≡ true → FitsAt is_masterchain i.seqno o) →
    (id_masterchain i ≡ false → FitsAt (of_shard (id_shard i)) i.seqno o) → Rest (store_change (id_shard i) o m)
change_rest m i None h rm f g = h
change_rest m i (Some e) h rm f g =
    on (is_masterchain (id_shard i))
    (λ t. rw t
    (record {
      masters = group_change is_masterchain i.seqno (Some e) m.masters h.masters (f t) (room_master i m t rm);
      ids = h.ids;
      shards = h.shards;
    }))
    (λ t. rw t
    (record {
      masters = h.masters;
      ids = h.ids;
      shards = shards_set (id_shard i) _ m.shards h.shards t (shard_stored m i (Some e) h t (g t) rm) (room_shard i m t rm);
    }))

-- a store does not touch the ids
change_ids : (s : ShardIdent) (o : Option Entry) (m : Model) → (store_change s o m).ids ≡ m.ids
change_ids s None m = refl
change_ids s (Some e) m = on (is_masterchain s) (λ t. rw t) (λ t. rw t)

data_rest : (i : BlockId) (mismatch : Bool) (m : Model) → Rest m →
    (id_masterchain i ≡ true → mismatch ≡ false → is_some (find (at_id i.seqno) m.ids) || ltb (length m.ids) 32 ≡ true) → Rest (collated_data i mismatch m)
data_rest i mismatch m h room =
    on (is_masterchain (id_shard i) && not mismatch)
    (λ t. let a = first_so (is_masterchain (id_shard i)) (not mismatch) t in
    let b = not-true mismatch (second_so (is_masterchain (id_shard i)) (not mismatch) t) in
    rw t (record { masters = h.masters; ids = ids_put i m.ids h.ids a (room a b); shards = h.shards }))
    (λ t. rw t h)

pub collated_rest : (m : Model) (c : BlockCandidate) → Rest m → entry_fits (fresh_collated c) ≡ true → has_room c.block_id m ≡ true → has_id_room c m ≡ true →
    Rest (do_store_collated c m).model
collated_rest m c h fit rm idr =
    let i = c.block_id in
    let s = store_collated_at c (entry_for c.block_id m) in
    let stored = change_rest m i s.change h rm (λ t. collated_fits is_masterchain c (entry_for c.block_id m) t fit (place_master c.block_id m h t))
    (λ t. collated_fits (of_shard (id_shard i)) c (entry_for c.block_id m) (same_shard_refl (id_shard i)) fit (place_shard i m h t)) in
    data_rest i s.mismatch (store_change (id_shard i) s.change m) stored
    (λ t u. subst (λ (ids : List BlockId). is_some (find (at_id i.seqno) ids) || ltb (length ids) 32 ≡ true) (sym (change_ids (id_shard i) s.change m)) (id_room c m idr t u))

-- ===== received store =====

forgets : (b : Bool) (s : ℕ) (ids : List BlockId) → IdsOk ids → IdsOk (cond b (ids_below s ids) ids)
forgets true s ids h = ids_select _ ids h
forgets false s ids h = h

received_master : (m : Model) (r : ReceivedBlock) (s : Stored) → Rest m → is_masterchain (id_shard r.block_id) ≡ true → FitsAt is_masterchain r.block_id.seqno s.change →
    has_room r.block_id m ≡ true → Rest (received_stored r s m).model
received_master m r s h t f rm =
    rw t
    (record {
      masters = group_change is_masterchain r.block_id.seqno s.change m.masters h.masters f (room_master r.block_id m t rm);
      ids = forgets s.mismatch r.block_id.seqno m.ids h.ids;
      shards = h.shards;
    })

received_shard : (m : Model) (r : ReceivedBlock) (s : Stored) → Rest m → is_masterchain (id_shard r.block_id) ≡ false →
    FitsAt (of_shard (id_shard r.block_id)) r.block_id.seqno s.change → has_room r.block_id m ≡ true → Rest (received_stored r s m).model
received_shard m r s h t f rm =
    rw t
    (record {
      masters = h.masters;
      ids = forgets s.mismatch r.ref_block_id.seqno m.ids h.ids;
      shards = shards_set (id_shard r.block_id) _ m.shards h.shards t (shard_stored m r.block_id s.change h t f rm) (room_shard r.block_id m t rm);
    })

pub received_rest : (m : Model) (r : ReceivedBlock) → Rest m → entry_fits (fresh_received m.zerostate r) ≡ true → is_synced r.block_id m || has_room r.block_id m ≡ true →
    Rest (do_store_received r m).model
received_rest m r h fit rm =
    let s = store_received_at m.zerostate r (entry_for r.block_id m) in
    on (is_synced r.block_id m)
    (λ t. rw t h)
    (λ t. let rm' = or_false (is_synced r.block_id m) (has_room r.block_id m) rm t in
    rw t
    (on (is_masterchain (id_shard r.block_id))
    (λ u. received_master m r s h u (received_fits is_masterchain m.zerostate r (entry_for r.block_id m) u fit (place_master r.block_id m h u)) rm')
    (λ u. received_shard m r s h u
    (received_fits (of_shard (id_shard r.block_id)) m.zerostate r (entry_for r.block_id m) (same_shard_refl (id_shard r.block_id)) fit (place_shard r.block_id m h u)) rm')))

-- ===== questions 2 to 4 of a record make its fresh entry fit =====

take_length : {A : Type 0} (n : ℕ) (xs : List A) → length (take n xs) ≤ n
take_length zero xs = le_refl 0
take_length (suc n) [] = omega arith
take_length (suc n) (x ∷ xs) = let ih = take_length n xs in omega arith

counts_listed : (i : BlockId) (previous : PrevIds) (tops : TopBlocks) → counts_fit i previous.count tops.count ≡ true →
    counts_fit i (length (listed_prev_ids previous)) (length (listed_tops tops)) ≡ true
counts_listed i previous tops h =
    let a : leb previous.count 2 ≡ true = search first_so in
    let b : leb tops.count 8 ≡ true = search (first_so, second_so) in
    let c : is_masterchain (id_shard i) || eqb tops.count 0 ≡ true = search (first_so, second_so) in
    and_intro (le-leb (length (listed_prev_ids previous)) 2 (omega (arith, take_length previous.count previous.items, leb-true previous.count 2 a)))
    (and_intro (le-leb (length (listed_tops tops)) 8 (omega (arith, take_length tops.count tops.items, leb-true tops.count 8 b)))
    (on (is_masterchain (id_shard i)) (λ t. rw t)
    (λ t. let z = eqb-true tops.count 0 (or_false (is_masterchain (id_shard i)) (eqb tops.count 0) c t) in
    rw t (eq-eqb (length (listed_tops tops)) 0 (omega (arith, take_length tops.count tops.items))))))

pub candidate_fits : (c : BlockCandidate) → seqnos_fit c.block_id c.ref_by_mc_seqno (listed_prev_ids c.prev_ids) (listed_tops c.top_blocks) ≡ true →
    counts_fit c.block_id c.prev_ids.count c.top_blocks.count ≡ true → links_fit c.block_id (listed_prev_ids c.prev_ids) (listed_tops c.top_blocks) ≡ true →
    entry_fits (fresh_collated c) ≡ true
candidate_fits c x y z = and_intro x (and_intro (counts_listed c.block_id c.prev_ids c.top_blocks y) z)

-- previous ids that are not stored do no harm
entry_drop : (b : Bool) (i : BlockId) (ref : ℕ) (ps : List BlockId) (ts : List TopBlock) →
    seqnos_fit i ref ps ts ≡ true → counts_fit i (length ps) (length ts) ≡ true → links_fit i ps ts ≡ true →
    seqnos_fit i ref (cond b [] ps) ts && (counts_fit i (length (cond b [] ps)) (length ts) && links_fit i (cond b [] ps) ts) ≡ true
entry_drop false i ref ps ts x y z = and_intro x (and_intro y z)
entry_drop true i ref ps ts x y z =
    let a : id_fits i ≡ true = search first_so in
    let b : seqno_fits ref ≡ true = search (first_so, second_so) in
    let c : list_all top_fits ts ≡ true = search (first_so, second_so) in
    let d : leb (length ts) 8 && (is_masterchain (id_shard i) || eqb (length ts) 0) ≡ true = search (first_so, second_so) in
    let e : list_all top_outside ts ≡ true = search (first_so, second_so) in
    and_intro (and_intro a (and_intro b (and_intro refl c))) (and_intro (and_intro refl d) (and_intro refl e))

pub receipt_fits : (z : ℕ) (r : ReceivedBlock) → seqnos_fit r.block_id r.ref_block_id.seqno (listed_prev_ids r.prev_ids) (listed_tops r.top_blocks) ≡ true →
    counts_fit r.block_id r.prev_ids.count r.top_blocks.count ≡ true → links_fit r.block_id (listed_prev_ids r.prev_ids) (listed_tops r.top_blocks) ≡ true →
    entry_fits (fresh_received z r) ≡ true
receipt_fits z r x y w =
    entry_drop (eqb r.ref_block_id.seqno z) r.block_id r.ref_block_id.seqno (listed_prev_ids r.prev_ids) (listed_tops r.top_blocks) x
    (counts_listed r.block_id r.prev_ids r.top_blocks y) w
