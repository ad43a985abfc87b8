-- Each Received entry lies at or below its group's mark: what a store, a validation, an extraction or a removal makes of it.
-- Assumes nothing.
use Rattle.block_records.specs.declared.range.AppliedRange.{AppliedRange}
use Rattle.std.specs.List.{list_all, fold}
use Rattle.std.specs.Prelude.{Option, None, Some, cond, filter}
use mathlib.Core.Bool.{Bool, ◌&&◌, ◌||◌, false, not, true}
use mathlib.Core.List.{List, [], ◌∷◌}
use mathlib.Core.Path.{◌≡◌, refl}
use Prim.Native.Nat.{◌+◌, ℕ}
use native.Mathlib.Nat.{le_refl}
use native.Mathlib.Omega.{arith}
use borrow.Author.Tests.{le-leb, leb-false, leb-true}
use lib.Dec.{eqb, leb}
use lib.ListN.{length}
use Rattle.block_records.specs.declared.block_id.BlockId.{BlockId}
use Rattle.block_records.specs.declared.block_id.BlockIdShort.{BlockIdShort}
use Rattle.block_records.specs.declared.block_id.ShardIdent.{ShardIdent}
use Rattle.block_records.specs.declared.entry.BlockCacheEntryData.{BlockCacheEntryData}
use Rattle.block_records.specs.declared.entry.BlockCacheEntryData.TheVariants.{Collated as collated, Received as received}
use Rattle.block_records.specs.declared.entry.CandidateStatus.TheVariants.{Synced}
use Rattle.block_records.specs.declared.store_records.BlockCandidate.{BlockCandidate}
use Rattle.block_records.specs.declared.store_records.ReceivedBlock.{ReceivedBlock}
use Rattle.block_records.proofs.rules.Finds.{find_member}
use Rattle.block_records.proofs.rules.ListLaws.{every_each, every_member, every_put, every_select, every_weaken}
use Rattle.block_records.proofs.rules.Tests.{clash, on, some_not_none}
use Rattle.block_records.specs.rules.BlockId.{id_shard, is_masterchain, key, key_shard, same_id, same_shard}
use Rattle.block_records.specs.rules.Entry.{Entry, is_applied, is_received, kind_received, same_status, with_kind}
use Rattle.block_records.specs.rules.Lists.{put}
use Rattle.blocks_group.specs.rules.Group.{GroupModel, at_seqno, below_boundary, changed_entries, collated_above, collated_kind, entry_before, has_seqno, received_kind, refresh, refreshed_mark, store_collated_at, store_received_at, with_boundary, with_entries, without_collated_above}
use Rattle.cache_rules.specs.Calls.{Validation}
use Rattle.cache_rules.specs.Effects.{after, bound_one, collated_data, collect_shard, do_collect, do_store_collated, do_store_received, extracted_model, masters_without, peek_entry, pop_entry, remove_one, result_handle, result_status, result_weight, store_change, sync_entry, tail_ids_entry, validate_entry, validate_kind, validated_kind}
use Rattle.cache_rules.specs.Extraction.{Walk, extraction_of, first_walk, previous_cached, starting_ids, take_found, take_times}
use Rattle.cache_rules.specs.Marked.{entry_marked, group_marked, received_marked, shard_marked}
use Rattle.cache_rules.specs.Model.{Model, ShardModel, entry_for, find_shard, group_for, group_in, is_shard, moved_start, on_shard, remove_block, shard_before, with_group}
use Rattle.cache_rules.specs.Refusals.{is_synced, mark_reaches}
use Rattle.cache_rules.proofs.WalkLaws.{walk_keeps}
use Rattle.std.specs.Cmp.{first_so, second_so}

-- ===== one group =====

-- the mark only rises
reaches_refreshed : (n s : ℕ) (k : Option ℕ) → mark_reaches n k ≡ true → mark_reaches n (refreshed_mark s k) ≡ true
reaches_refreshed n s None h = clash h refl
reaches_refreshed n s (Some k) h =
    on (leb s k) (λ t. rw t h) (λ t. rw t (le-leb n s (omega (arith, leb-true n k h, leb-false s k t))))

-- .. and it reaches the seqno that it was refreshed by
refreshed_reaches : (s : ℕ) (k : Option ℕ) → mark_reaches s (refreshed_mark s k) ≡ true
refreshed_reaches s None = le-leb s s (le_refl s)
refreshed_reaches s (Some k) = on (leb s k) (λ t. rw t t) (λ t. rw t (le-leb s s (le_refl s)))

entry_refreshed : (s : ℕ) (k : Option ℕ) (e : Entry) → entry_marked k e ≡ true → entry_marked (refreshed_mark s k) e ≡ true
entry_refreshed s k e h =
    on (is_received e) (λ t. rw t (reaches_refreshed e.id.seqno s k (rw t at h))) (λ t. rw t)

group_refreshed : (s : ℕ) (g : GroupModel) → group_marked g ≡ true → group_marked (refresh s g) ≡ true
group_refreshed s g h = every_weaken (entry_marked g.mark) (entry_marked (refreshed_mark s g.mark)) g.entries (entry_refreshed s g.mark) h

group_filtered : (q : Entry → Bool) (g : GroupModel) → group_marked g ≡ true → group_marked (with_entries (filter q g.entries) g) ≡ true
group_filtered q g h = every_select (entry_marked g.mark) q g.entries h

-- what a store changes, if anything, is marked
abbrev ChangeMarked : Option ℕ → Option Entry → Type 0
ChangeMarked k None = Unit {0}
ChangeMarked k (Some e) = entry_marked k e ≡ true

group_changed : (c : Option Entry) (g : GroupModel) → ChangeMarked g.mark c → group_marked g ≡ true → group_marked (with_entries (changed_entries c g.entries) g) ≡ true
group_changed None g f h = h
group_changed (Some e) g f h = every_put (entry_marked g.mark) entry_before e g.entries f h

pub found_marked : (n : ℕ) (g : GroupModel) {e : Entry} → group_marked g ≡ true → at_seqno n g.entries ≡ Some e → entry_marked g.mark e ≡ true
found_marked n g h f = every_member (entry_marked g.mark) g.entries h (find_member (has_seqno n) g.entries f)

-- ===== what the two stores change =====

collated_same : (c : BlockCandidate) (k : BlockCacheEntryData) → kind_received (collated_kind c k) ≡ kind_received k
collated_same c (collated st after handle weight processed) = refl
collated_same c (received after more) = refl

received_same : (k : BlockCacheEntryData) → kind_received (received_kind k) ≡ kind_received k
received_same (collated st after handle weight processed) = refl
received_same (received after more) = refl

collated_change : (c : BlockCandidate) (n : ℕ) (g : GroupModel) (o : Option Entry) → group_marked g ≡ true → at_seqno n g.entries ≡ o →
    ChangeMarked g.mark (store_collated_at c o).change
collated_change c n g None h f = refl
collated_change c n g (Some e) h f =
    on (same_id e.id c.block_id) (λ t. rw (t, collated_same c e.kind) (found_marked n g h f)) (λ t. rw t tt)

received_change : (z : ℕ) (r : ReceivedBlock) (n : ℕ) (g : GroupModel) (o : Option Entry) → group_marked g ≡ true → at_seqno n g.entries ≡ o →
    ChangeMarked (refreshed_mark r.block_id.seqno g.mark) (store_received_at z r o).change
received_change z r n g None h f = refreshed_reaches r.block_id.seqno g.mark
received_change z r n g (Some e) h f =
    on (same_id e.id r.block_id)
    (λ t. rw (t, received_same e.kind) (entry_refreshed r.block_id.seqno g.mark e (found_marked n g h f)))
    (λ t. rw t (refreshed_reaches r.block_id.seqno g.mark))

-- ===== the shard groups =====

on_marked : (s : ShardIdent) (f : GroupModel → GroupModel) (gs : List ShardModel) → ((g : GroupModel) → group_marked g ≡ true → group_marked (f g) ≡ true) →
    list_all shard_marked gs ≡ true → list_all shard_marked (on_shard s f gs) ≡ true
on_marked s f gs keeps h =
    every_each (λ (g : ShardModel). cond (is_shard s g) (record { shard = g.shard; group = f g.group }) g) shard_marked shard_marked gs
    (λ g ok. on (same_shard g.shard s) (λ t. rw t (keeps g.group ok)) (λ t. rw t ok)) h

group_in_marked : (s : ShardIdent) (o : Option ShardModel) (gs : List ShardModel) → list_all shard_marked gs ≡ true → find_shard s gs ≡ o → group_marked (group_in o) ≡ true
group_in_marked s None gs h f = refl
group_in_marked s (Some g) gs h f = every_member shard_marked gs h (find_member (is_shard s) gs f)

-- ===== the model =====

pub record Marked (m : Model) : Type 0 where
  pub masters : group_marked m.masters ≡ true
  pub shards : list_all shard_marked m.shards ≡ true

pub marked_parts : (m : Model) → received_marked m ≡ true → Marked m
marked_parts m h =
    record { masters = first_so (group_marked m.masters) (list_all shard_marked m.shards) h; shards = second_so (group_marked m.masters) (list_all shard_marked m.shards) h }

-- the group that a block of a shard is stored in
pub group_for_marked : (s : ShardIdent) (m : Model) → Marked m → group_marked (group_for s m) ≡ true
group_for_marked s m h =
    on (is_masterchain s) (λ t. rw t h.masters) (λ t. rw t (group_in_marked s (find_shard s m.shards) m.shards h.shards refl))

with_group_marked : (s : ShardIdent) (g : GroupModel) (m : Model) → Marked m → group_marked g ≡ true → Marked (with_group s g m)
with_group_marked s g m h ok =
    on (is_masterchain s)
    (λ t. rw t (record { masters = ok; shards = h.shards }))
    (λ t. rw t (record { masters = h.masters; shards = every_put shard_marked shard_before (record { shard = s; group = g }) m.shards ok h.shards }))

-- ===== the two stores =====

change_marked : (s : ShardIdent) (o : Option Entry) (m : Model) → Marked m → ChangeMarked (group_for s m).mark o → Marked (store_change s o m)
change_marked s None m h f = h
change_marked s (Some e) m h f =
    with_group_marked s (with_entries (put entry_before e (group_for s m).entries) (group_for s m)) m h
    (group_changed (Some e) (group_for s m) f (group_for_marked s m h))

data_marked : (i : BlockId) (mismatch : Bool) (m : Model) → Marked m → Marked (collated_data i mismatch m)
data_marked i mismatch m h =
    on (is_masterchain (id_shard i) && not mismatch) (λ t. rw t (record { masters = h.masters; shards = h.shards })) (λ t. rw t h)

pub collated_marked : (c : BlockCandidate) (m : Model) → Marked m → Marked (do_store_collated c m).model
collated_marked c m h =
    let s = store_collated_at c (entry_for c.block_id m) in
    data_marked c.block_id s.mismatch (store_change (id_shard c.block_id) s.change m)
    (change_marked (id_shard c.block_id) s.change m h
    (collated_change c c.block_id.seqno (group_for (id_shard c.block_id) m) (entry_for c.block_id m) (group_for_marked (id_shard c.block_id) m h) refl))

pub received_marks : (r : ReceivedBlock) (m : Model) → Marked m → Marked (do_store_received r m).model
received_marks r m h =
    let i = r.block_id in
    let g = group_for (id_shard r.block_id) m in
    let ok : group_marked g ≡ true = group_for_marked (id_shard i) m h in
    let c = (store_received_at m.zerostate r (entry_for r.block_id m)).change in
    let f : ChangeMarked (refreshed_mark i.seqno g.mark) c = received_change m.zerostate r i.seqno g (entry_for r.block_id m) ok refl in
    let k = with_group_marked (id_shard i) (refresh i.seqno (with_entries (changed_entries c g.entries) g)) m h
    (group_changed c (refresh i.seqno g) f (group_refreshed i.seqno g ok)) in
    on (is_synced i m) (λ t. rw t h) (λ t. rw t (record { masters = k.masters; shards = k.shards }))

-- ===== validation =====

validated_collated : (v : Validation) (k : BlockCacheEntryData) {k' : BlockCacheEntryData} → validated_kind v k ≡ Some k' → kind_received k' ≡ false
validated_collated v (received after more) h = some_not_none h refl
validated_collated v (collated st after handle weight processed) {k'} h =
    on (same_status st Synced || same_status st (result_status v))
    (λ t. some_not_none (rw t at h) refl)
    (λ t. let q : Some (collated (result_status v) after (result_handle v) (result_weight v) processed) ≡ Some k' = rw t at h in
    let e : k' ≡ collated (result_status v) after (result_handle v) (result_weight v) processed = cc in
    rw e)

validate_kind_marked : (v : Validation) (e : Entry) (o : Option BlockCacheEntryData) (m : Model) → Marked m → validated_kind v e.kind ≡ o → Marked (validate_kind v e o m).model
validate_kind_marked v e None m h f = h
validate_kind_marked v e (Some k) m h f =
    record { masters = group_changed (Some (with_kind k e)) m.masters (rw (validated_collated v e.kind f)) h.masters; shards = h.shards }

pub validate_marked : (v : Validation) (o : Option Entry) (m : Model) → Marked m → Marked (validate_entry v o m).model
validate_marked v None m h = h
validate_marked v (Some e) m h = validate_kind_marked v e (validated_kind v e.kind) m h refl

-- ===== extraction =====

found_shards : (mm : ℕ) (i : BlockId) (q : List BlockId) (w : Walk) (o : Option Entry) → list_all shard_marked w.shards ≡ true → list_all shard_marked (take_found mm i q w o).shards ≡ true
found_shards mm i q w None h = h
found_shards mm i q w (Some e) h =
    let l : list_all shard_marked (remove_block (key i) w.shards) ≡ true =
    on_marked (id_shard i) _ w.shards (group_filtered (λ (x : Entry). not (has_seqno i.seqno x))) h in
    on (eqb e.reference mm) (λ t. rw t (on_marked (id_shard i) (refresh i.seqno) (remove_block (key i) w.shards) (group_refreshed i.seqno) l)) (λ t. rw t l)

times_shards : (k mm : ℕ) (w : Walk) → list_all shard_marked w.shards ≡ true → list_all shard_marked (take_times k mm w).shards ≡ true
times_shards k mm w h = walk_keeps mm (λ w. list_all shard_marked w.shards ≡ true) (λ w i rest o e f c. found_shards mm i rest w o c) k w h

extracted_marked : (M : Entry) (m : Model) (masters : GroupModel) (range : Option AppliedRange) → Marked m → group_marked masters ≡ true →
    Marked (extracted_model M (extraction_of M m) masters range m)
extracted_marked M m masters range h ok =
    let ids = starting_ids m.zerostate M in
    record { masters = ok; shards = times_shards (length ids + previous_cached m.shards) M.id.seqno (first_walk ids m.shards) h.shards }

masters_left : (M : Entry) (m : Model) → Marked m → group_marked (masters_without M m) ≡ true
masters_left M m h = group_filtered (λ (x : Entry). not (has_seqno M.id.seqno x)) m.masters h.masters

pub pop_marked : (o : Option Entry) (m : Model) → Marked m → Marked (pop_entry o m).model
pop_marked None m h = h
pop_marked (Some M) m h = extracted_marked M m (masters_without M m) (moved_start M.id.seqno m.range) h (masters_left M m h)

pub sync_marked : (o : Option Entry) (m : Model) → Marked m → Marked (sync_entry o m).model
sync_marked None m h = h
sync_marked (Some M) m h =
    extracted_marked M m (refresh M.id.seqno (masters_without M m)) (cond (is_applied M) (moved_start M.id.seqno m.range) m.range) h
    (group_refreshed M.id.seqno (masters_without M m) (masters_left M m h))

pub peek_marked : (o : Option Entry) (m : Model) → Marked m → Marked (peek_entry o m).model
peek_marked None m h = h
peek_marked (Some e) m h = h

pub tails_marked : (o : Option Entry) (m : Model) → Marked m → Marked (tail_ids_entry o m).model
tails_marked None m h = h
tails_marked (Some e) m h = h

-- ===== boundary, collect, remove next collated =====

pub bound_marked : (ks : List BlockIdShort) (m : Model) → Marked m → Marked (fold bound_one m ks)
bound_marked [] m h = h
bound_marked (k ∷ ks) m h =
    bound_marked ks (bound_one m k)
    (on (is_masterchain (key_shard k))
    (λ t. rw t (record { masters = h.masters; shards = h.shards }))
    (λ t. rw t (record { masters = h.masters; shards = on_marked (key_shard k) (with_boundary k) m.shards (λ g ok. ok) h.shards })))

pub collect_marked : (m : Model) → Marked m → Marked (do_collect m)
collect_marked m h =
    record {
      masters = group_filtered (λ (e : Entry). not (below_boundary m.masters.boundary e)) m.masters h.masters;
      shards = every_each collect_shard shard_marked shard_marked m.shards
          (λ x ok. group_filtered (λ (e : Entry). not (below_boundary x.group.boundary e)) x.group ok) h.shards;
    }

pub remove_marked : (ks : List BlockIdShort) (m : Model) → Marked m → Marked (fold remove_one m ks)
remove_marked [] m h = h
remove_marked (k ∷ ks) m h =
    let stay : (g : GroupModel) → group_marked g ≡ true → group_marked (without_collated_above k.seqno g) ≡ true =
    group_filtered (λ (e : Entry). not (collated_above k.seqno e)) in
    remove_marked ks (remove_one m k)
    (on (is_masterchain (key_shard k))
    (λ t. rw t (record { masters = stay m.masters h.masters; shards = h.shards }))
    (λ t. rw t (record { masters = h.masters; shards = on_marked (key_shard k) (without_collated_above k.seqno) m.shards stay h.shards })))
