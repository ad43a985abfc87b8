-- RULES.md, Collated store, Received store and Master data: what the two stores answer, and what they do to a cache as it is held, sound or not. On a
-- sound cache this is the rule of the model, packed (proofs/arrays/CollatedStoreLaws, ReceivedStoreLaws).
-- Assumes nothing.
use Rattle.block_records.specs.declared.questions.Refusal.{Refusal}
use Rattle.block_records.specs.declared.range.AppliedRange.{AppliedRange}
use Rattle.block_records.specs.declared.questions.Refusal.TheVariants.{BeforeZerostate, ForeignReference, NoIdRoom, NoRoom}
use Rattle.std.specs.Prelude.{Some, ℕ, Bool, nat_le, nat_lt, length, None, cond, Err, Ok, Result, Option}
use Rattle.block_records.specs.declared.block_id.BlockId.{BlockId}
use Rattle.block_records.specs.declared.block_id.ShardIdent.{ShardIdent}
use Rattle.block_records.specs.declared.entry.BlockCacheEntry.{BlockCacheEntry}
use Rattle.block_records.specs.declared.entry.MasterBlock.{MasterBlock}
use Rattle.block_records.specs.declared.store_records.BlockCandidate.{BlockCandidate}
use Rattle.block_records.specs.declared.store_records.ReceivedBlock.{ReceivedBlock}
use Rattle.blocks_group.specs.declared.store.GroupStore.{GroupStore}
use Rattle.blocks_group.specs.declared.store.StoreAnswer.{StoreAnswer}
use Rattle.blocks_group.specs.declared.store.StoreAnswer.TheVariants.{Stored as stored_answer, Synced as synced_answer}
use Rattle.blocks_cache.specs.declared.cache.Cache.{Cache}
use Rattle.blocks_cache.specs.declared.cache.ShardGroup.{ShardGroup}
use Rattle.blocks_cache.specs.declared.master_data.MasterData.{MasterData}
use Rattle.blocks_cache.specs.declared.stores.BlockCacheStoreResult.{BlockCacheStoreResult}
use Rattle.blocks_cache.specs.declared.stores.BlockCacheStoreResult.TheVariants.{Stored as stored_result, Synced as synced_result}
use Rattle.block_records.specs.layout.Listed.{listed}
use Rattle.block_records.specs.rules.BlockId.{id_shard, is_masterchain, same_id}
use Rattle.block_records.specs.rules.Limits.{shards_limit}
use Rattle.blocks_cache.specs.layout.Parts.{CacheStep, with_master_data, with_master_group}
use Rattle.blocks_cache.specs.arrays.MasterData.{drop_ids_from, has_place_for_id, highest_id, put_id}
use Rattle.blocks_cache.specs.arrays.Shards.{listed_shard, put_shard}
use Rattle.blocks_cache.specs.layout.Cache.{Shards}
use Rattle.blocks_group.specs.arrays.Store.{collated_store, received_store}
use Rattle.blocks_group.specs.layout.Block.{master_parts, shard_parts}
use Rattle.blocks_group.specs.layout.Group.{MasterGroup, ShardBlocks, held_empty_group}
use Rattle.cache_rules.specs.Calls.{Answer, refused, stored, synced}
use Rattle.cache_rules.specs.Model.{moved_end, moved_start}

-- ===== the answer =====

-- stored, with the flags, id and range of the result; Synced; or the refusal
abbrev pub store_says : Result BlockCacheStoreResult Refusal → Answer
store_says (Ok (stored_result both mismatch l r)) = stored both mismatch l r
store_says (Ok synced_result) = synced
store_says (Err n) = refused n

-- what a store answers, and the cache that it leaves
abbrev pub StoreStep : Type 0
StoreStep = CacheStep (Result BlockCacheStoreResult Refusal)

-- stored: the flags, with the last id and the range of a cache; or Synced
abbrev pub store_result : StoreAnswer → Cache → BlockCacheStoreResult
store_result (stored_answer both mismatch) c = stored_result both mismatch (highest_id c.«data») c.«data».range
store_result synced_answer c = synced_result

-- answered, of the cache as it is left
abbrev pub answered_in : StoreAnswer → Cache → StoreStep
answered_in a c = record { answer = Ok (store_result a c); cache = c }

-- refused: the cache as it was
abbrev pub refused_in : Refusal → Cache → StoreStep
refused_in n c = record { answer = Err n; cache = c }

-- what is made of a value; where it is refused, the cache as it was
abbrev pub unless_refused : {A : Type 0} → Result A Refusal → (A → StoreStep) → Cache → StoreStep
unless_refused (Ok x) made h = made x
unless_refused (Err n) made h = refused_in n h

-- by the answer of a group's store: of a block that is stored, what is made of the mismatch; Synced, the cache as it was
abbrev pub where_stored : StoreAnswer → (Bool → StoreStep) → Cache → StoreStep
where_stored (stored_answer both mismatch) made h = made mismatch
where_stored synced_answer made h = answered_in synced_answer h

-- ===== parts of the cache put in =====

-- the master group and master data put in
abbrev pub with_masters_and_data : MasterGroup → MasterData → Cache → Cache
with_masters_and_data g d c = with_master_data d (with_master_group g c)

-- the group of a shard put in, and master data
abbrev pub with_shard_group : ShardGroup → MasterData → Cache → Cache
with_shard_group g d c = record { zerostate_mc_seqno = c.zerostate_mc_seqno; masters = c.masters; «data» = d; shards = put_shard g c.shards }

-- ===== the group of a shard =====

-- the group of the one that is found; else an empty one, or 8 where no further group fits
abbrev pub held_in : Option ShardGroup → Shards → Result ShardBlocks Refusal
held_in None gs = cond (nat_lt (length (listed gs)) shards_limit) (Ok (held_empty_group shard_parts)) (Err NoRoom)
held_in (Some g) gs = Ok g.group

-- the shard's group if it has one; else an empty one, or 8
unfoldable pub shard_held : ShardIdent → Shards → Result ShardBlocks Refusal
shard_held s gs = held_in (listed_shard s gs) gs

-- ===== master data =====

-- the applied range put in
abbrev pub with_range : Option AppliedRange → MasterData → MasterData
with_range r d = record { ids = d.ids; range = r }

-- after a master that a collated store takes in: the range moved on past it, and its id put in
abbrev pub collated_ids : BlockId → MasterData → MasterData
collated_ids i d = put_id i (with_range (moved_start i.seqno d.range) d)

-- after a received store: on a mismatch the ids below s are left
abbrev pub ids_after : Bool → ℕ → MasterData → MasterData
ids_after mismatch s d = cond mismatch (drop_ids_from s d) d

-- after a received master: the range with its seqno as the end
abbrev pub range_end_moved : ℕ → MasterData → MasterData
range_end_moved s d = with_range (moved_end s d.range) d

-- ===== the collated store =====

-- A master, by what the group's store answers. A mismatch leaves the cache; else 9 is asked, and group and master data go in.
abbrev pub master_candidate_stored : BlockCandidate → Cache → GroupStore MasterBlock → StoreStep
master_candidate_stored c h s =
    where_stored s.answer
    (λ (mismatch : Bool). cond mismatch (answered_in s.answer h)
    (cond (has_place_for_id c.block_id.seqno h.«data»)
    (answered_in s.answer (with_masters_and_data s.group (collated_ids c.block_id h.«data») h))
    (refused_in NoIdRoom h)))
    h

-- the store of the master group, and what is made of its answer
unfoldable pub store_master_candidate : BlockCandidate → Cache → StoreStep
store_master_candidate c h = unless_refused (collated_store master_parts c h.masters) (master_candidate_stored c h) h

-- A shard block, by what its group's store answers. A mismatch leaves the cache; else the group goes in.
abbrev pub shard_candidate_stored : ShardIdent → Cache → GroupStore BlockCacheEntry → StoreStep
shard_candidate_stored i h s =
    where_stored s.answer
    (λ (mismatch : Bool). answered_in s.answer (cond mismatch h (with_shard_group (record { shard = i; group = s.group }) h.«data» h)))
    h

-- the store of its group, and what is made of its answer
abbrev pub shard_candidate_in : BlockCandidate → Cache → ShardBlocks → StoreStep
shard_candidate_in c h g = unless_refused (collated_store shard_parts c g) (shard_candidate_stored (id_shard c.block_id) h) h

-- a shard block, with the group of its shard
unfoldable pub store_shard_candidate : BlockCandidate → Cache → StoreStep
store_shard_candidate c h = unless_refused (shard_held (id_shard c.block_id) h.shards) (shard_candidate_in c h) h

-- questions 7 to 9, and the store
unfoldable pub store_candidate : BlockCandidate → Cache → StoreStep
store_candidate c h = cond (is_masterchain (id_shard c.block_id)) (store_master_candidate c h) (store_shard_candidate c h)

-- ===== the received store =====

-- A master, by what the group's store answers: group and range go in, and on a mismatch the ids below its seqno are left.
abbrev pub master_receipt_stored : ReceivedBlock → Cache → GroupStore MasterBlock → StoreStep
master_receipt_stored r h s =
    where_stored s.answer
    (λ (mismatch : Bool). answered_in s.answer (with_masters_and_data s.group (range_end_moved r.block_id.seqno (ids_after mismatch r.block_id.seqno h.«data»)) h))
    h

-- the store of the master group, and what is made of its answer
unfoldable pub store_master_receipt : ReceivedBlock → Cache → StoreStep
store_master_receipt r h = unless_refused (received_store master_parts h.zerostate_mc_seqno r h.masters) (master_receipt_stored r h) h

-- A shard block, by what its group's store answers: the group goes in, and on a mismatch the ids below its reference seqno are left.
abbrev pub shard_receipt_stored : ReceivedBlock → Cache → GroupStore BlockCacheEntry → StoreStep
shard_receipt_stored r h s =
    where_stored s.answer
    (λ (mismatch : Bool). answered_in s.answer (with_shard_group (record { shard = id_shard r.block_id; group = s.group }) (ids_after mismatch r.ref_block_id.seqno h.«data») h))
    h

-- the store of its group, and what is made of its answer
abbrev pub shard_receipt_in : ReceivedBlock → Cache → ShardBlocks → StoreStep
shard_receipt_in r h g = unless_refused (received_store shard_parts h.zerostate_mc_seqno r g) (shard_receipt_stored r h) h

-- a shard block, with the group of its shard
unfoldable pub store_shard_receipt : ReceivedBlock → Cache → StoreStep
store_shard_receipt r h = unless_refused (shard_held (id_shard r.block_id) h.shards) (shard_receipt_in r h) h

-- 5, that its reference is not below the zerostate; 6, that a master is its own reference; then 7 and 8, and the store
unfoldable pub store_receipt : ReceivedBlock → Cache → StoreStep
store_receipt r h =
    cond (nat_le h.zerostate_mc_seqno r.ref_block_id.seqno)
    (cond (is_masterchain (id_shard r.block_id))
    (cond (same_id r.block_id r.ref_block_id) (store_master_receipt r h) (refused_in ForeignReference h))
    (store_shard_receipt r h))
    (refused_in BeforeZerostate h)
