-- After every request the applied range is absent, or its start does not pass its end, nor its end the master mark.
-- Assumes nothing.
use Rattle.block_records.specs.declared.range.AppliedRange.{AppliedRange}
use Rattle.std.specs.List.{fold}
use Rattle.std.specs.Prelude.{Option, None, Some, is_some}
use mathlib.Core.Bool.{Bool, ◌&&◌, false, not}
use mathlib.Core.List.{List, [], ◌∷◌}
use mathlib.Core.Path.{◌≡◌, refl}
use Prim.Native.Nat.{ℕ}
use native.Mathlib.Nat.{le_refl}
use native.Mathlib.Omega.{arith}
use borrow.Author.Tests.{leb-false, ltb-true}
use lib.Dec.{leb, ltb}
use Rattle.block_records.specs.declared.block_id.BlockId.{BlockId}
use Rattle.block_records.specs.declared.block_id.BlockIdShort.{BlockIdShort}
use Rattle.block_records.specs.declared.block_id.ShardIdent.{ShardIdent}
use Rattle.block_records.specs.declared.entry.BlockCacheEntryData.{BlockCacheEntryData}
use Rattle.block_records.specs.declared.store_records.BlockCandidate.{BlockCandidate}
use Rattle.block_records.specs.declared.store_records.ReceivedBlock.{ReceivedBlock}
use Rattle.block_records.proofs.rules.Tests.{clash, on}
use Rattle.block_records.specs.rules.BlockId.{id_shard, is_masterchain, key_shard, listed_keys}
use Rattle.block_records.specs.rules.Entry.{Entry, is_applied}
use Rattle.blocks_group.specs.rules.Group.{Stored, at_seqno, given_mark, refreshed_mark, store_collated_at, store_received_at}
use Rattle.cache_rules.specs.Calls.{Request, Validation, collect, peek, pop, read_tail_ids, remove_next_collated, set_boundary, store_collated, store_received, store_validation, sync}
use Rattle.cache_rules.specs.Claim.{AtMost, RangeHolds, RangeOk}
use Rattle.cache_rules.specs.Effects.{bound_one, collated_data, collated_stored, effect, peek_entry, pop_entry, received_stored, remove_one, store_change, sync_entry, tail_ids_entry, validate_entry, validate_kind, validated_kind}
use Rattle.cache_rules.specs.Model.{Model, entry_for, first_applied, moved_end, moved_start}
use Rattle.cache_rules.specs.Refusals.{is_synced}

start_holds : (s : ℕ) (k : Option ℕ) (r : Option AppliedRange) → RangeHolds k r → RangeHolds k (moved_start s r)
start_holds s k None h = tt
start_holds s k (Some r) h =
    on (leb r.start s)
    (λ t. rw t (on (ltb s r.end) (λ u. rw u (ltb-true s r.end u, h.1)) (λ u. rw u tt)))
    (λ t. rw t h)

-- the mark only rises
at_most_refreshed : (n s : ℕ) (k : Option ℕ) → AtMost n k → AtMost n (refreshed_mark s k)
at_most_refreshed n s None h = absurd h
at_most_refreshed n s (Some k) h = on (leb s k) (λ t. rw t h) (λ t. rw t (omega (arith, leb-false s k t)))

mark_holds : (s : ℕ) (k : Option ℕ) (r : Option AppliedRange) → RangeHolds k r → RangeHolds (refreshed_mark s k) r
mark_holds s k None h = tt
mark_holds s k (Some r) h = (h.0, at_most_refreshed r.end s k h.1)

-- the end moves to a seqno that no mark reached
end_holds : (s : ℕ) (k : Option ℕ) (r : Option AppliedRange) → is_some (given_mark s k) ≡ false → RangeHolds k r → RangeHolds (refreshed_mark s k) (moved_end s r)
end_holds s None None g h = (le_refl s, le_refl s)
end_holds s None (Some r) g h = absurd h.1
end_holds s (Some k) None g h = on (leb s k) (λ t. clash refl (rw t at g)) (λ t. rw t (le_refl s, le_refl s))
end_holds s (Some k) (Some r) g h =
    on (leb s k) (λ t. clash refl (rw t at g)) (λ t. let l = leb-false s k t in rw t (omega arith, le_refl s))

change_range : (s : ShardIdent) (o : Option Entry) (m : Model) → RangeOk m → RangeOk (store_change s o m)
change_range s None m h = h
change_range s (Some e) m h = on (is_masterchain s) (λ t. rw t h) (λ t. rw t h)

data_range : (i : BlockId) (mismatch : Bool) (m : Model) → RangeOk m → RangeOk (collated_data i mismatch m)
data_range i mismatch m h =
    on (is_masterchain (id_shard i) && not mismatch) (λ t. rw t (start_holds i.seqno m.masters.mark m.range h)) (λ t. rw t h)

collated_range : (c : BlockCandidate) (s : Stored) (m : Model) → RangeOk m → RangeOk (collated_stored c s m).model
collated_range c s m h =
    data_range c.block_id s.mismatch (store_change (id_shard c.block_id) s.change m) (change_range (id_shard c.block_id) s.change m h)

received_range : (r : ReceivedBlock) (s : Stored) (m : Model) → is_synced r.block_id m ≡ false → RangeOk m → RangeOk (received_stored r s m).model
received_range r s m n h =
    on (is_masterchain (id_shard r.block_id))
    (λ t. rw t (end_holds r.block_id.seqno m.masters.mark m.range (rw t at n) h))
    (λ t. rw t h)

validate_range : (v : Validation) (e : Entry) (o : Option BlockCacheEntryData) (m : Model) → RangeOk m → RangeOk (validate_kind v e o m).model
validate_range v e None m h = h
validate_range v e (Some k) m h = h

validate_entry_range : (v : Validation) (o : Option Entry) (m : Model) → RangeOk m → RangeOk (validate_entry v o m).model
validate_entry_range v None m h = h
validate_entry_range v (Some e) m h = validate_range v e (validated_kind v e.kind) m h

pop_range : (o : Option Entry) (m : Model) → RangeOk m → RangeOk (pop_entry o m).model
pop_range None m h = h
pop_range (Some e) m h = start_holds e.id.seqno m.masters.mark m.range h

sync_range : (o : Option Entry) (m : Model) → RangeOk m → RangeOk (sync_entry o m).model
sync_range None m h = h
sync_range (Some e) m h =
    on (is_applied e)
    (λ t. rw t (mark_holds e.id.seqno m.masters.mark (moved_start e.id.seqno m.range) (start_holds e.id.seqno m.masters.mark m.range h)))
    (λ t. rw t (mark_holds e.id.seqno m.masters.mark m.range h))

peek_range : (o : Option Entry) (m : Model) → RangeOk m → RangeOk (peek_entry o m).model
peek_range None m h = h
peek_range (Some e) m h = h

tails_range : (o : Option Entry) (m : Model) → RangeOk m → RangeOk (tail_ids_entry o m).model
tails_range None m h = h
tails_range (Some e) m h = h

bound_range : (ks : List BlockIdShort) (m : Model) → RangeOk m → RangeOk (fold bound_one m ks)
bound_range [] m h = h
bound_range (k ∷ ks) m h = bound_range ks (bound_one m k) (on (is_masterchain (key_shard k)) (λ t. rw t h) (λ t. rw t h))

remove_range : (ks : List BlockIdShort) (m : Model) → RangeOk m → RangeOk (fold remove_one m ks)
remove_range [] m h = h
remove_range (k ∷ ks) m h = remove_range ks (remove_one m k) (on (is_masterchain (key_shard k)) (λ t. rw t h) (λ t. rw t h))

pub effect_range : (m : Model) (r : Request) → RangeOk m → RangeOk (effect m r).model
unfolding effect
effect_range m (store_collated c) h = collated_range c (store_collated_at c (entry_for c.block_id m)) m h
effect_range m (store_received r) h =
    on (is_synced r.block_id m)
    (λ t. rw t h)
    (λ t. let q = received_range r (store_received_at m.zerostate r (entry_for r.block_id m)) m t h in rw t q)
effect_range m (store_validation i v) h = validate_entry_range v (at_seqno i.seqno m.masters.entries) m h
effect_range m (pop f) h = pop_range (first_applied f m) m h
effect_range m (sync i) h = sync_range (at_seqno i.seqno m.masters.entries) m h
effect_range m (peek f) h = peek_range (first_applied f m) m h
effect_range m (read_tail_ids k) h =
    on (leb k.seqno m.zerostate) (λ t. rw t h) (λ t. rw t (tails_range (at_seqno k.seqno m.masters.entries) m h))
effect_range m (set_boundary ks) h = bound_range (listed_keys ks) m h
effect_range m collect h = h
effect_range m (remove_next_collated ks) h = remove_range (listed_keys ks) m h
