-- RULES.md, Soundness: counts past their capacity in a cache as it is held, where a cache that no list of calls makes is given to a call.
-- Assumes nothing.
use Rattle.block_records.specs.declared.questions.Refusal.TheVariants.{Unsound}
use Rattle.std.specs.Prelude.{◌≡◌, ℕ, List, [], ◌∷◌, ◌++◌, replicate, refl, map}
use Rattle.block_records.specs.declared.entry.BlockCacheEntry.{BlockCacheEntry}
use Rattle.block_records.specs.declared.entry.MasterBlock.{MasterBlock}
use Rattle.blocks_cache.specs.declared.cache.Cache.{Cache}
use Rattle.blocks_cache.specs.declared.cache.ShardGroup.{ShardGroup}
use Rattle.blocks_group.specs.declared.group.Group.{Group}
use Rattle.block_records.specs.layout.Equality.{same_entry}
use Rattle.block_records.specs.layout.Zeros.{zero_entry, zero_hash, zero_id, zero_prev_ids, zero_shard, zero_top, zero_tops}
use Rattle.block_records.specs.rules.BlockId.{less_id, less_shard}
use Rattle.block_records.specs.rules.Lists.{padded}
use Rattle.blocks_cache.specs.layout.Parts.{with_master_group, with_shard_groups}
use Rattle.blocks_cache.specs.layout.Cache.{call_on, pack, same_cache, same_data, same_shard_group, sound_cache, zero_shard_group}
use Rattle.blocks_group.specs.layout.Group.{ShardBlocks, held_empty_group, same_group}
use Rattle.cache_rules.specs.Calls.{Answer, nothing, peek, refused}
use Rattle.cache_rules.specs.CaseCalls.{ask_call, block, cand, candidate, coll, hash, mc, sc}
use Rattle.cache_rules.specs.Effects.{after, effect, step}
use Rattle.cache_rules.specs.Model.{empty_model}
use Rattle.cache_rules.specs.Refusals.{further, sound_model}

-- m5 and s1, as they are held
pub held_cache : Cache
held_cache = pack (after (empty_model 0) (coll (mc 5) ∷ coll (sc 1) ∷ []))

-- the first element changed
pub on_first : {A : Type 0} → (A → A) → List A → List A
on_first f [] = []
on_first f (x ∷ xs) = f x ∷ xs

-- an entry with this count of previous ids
pub with_prev_count : ℕ → BlockCacheEntry → BlockCacheEntry
with_prev_count n b =
    record {
      block_id = b.block_id;
      prev_ids = record { items = b.prev_ids.items; count = n };
      top_anchor = b.top_anchor;
      ref_by_mc_seqno = b.ref_by_mc_seqno;
      payload = b.payload;
      «data» = b.«data»;
    }

-- a master block with its entry changed
pub on_entry : (BlockCacheEntry → BlockCacheEntry) → MasterBlock → MasterBlock
on_entry f b = record { entry = f b.entry; tops = b.tops }

-- a master block with this count of top items
pub with_tops_count : ℕ → MasterBlock → MasterBlock
with_tops_count n b = record { entry = b.entry; tops = record { items = b.tops.items; count = n } }

-- a group with its first block changed
pub on_first_block : {B : Type 0} → (B → B) → Group B → Group B
on_first_block f g = record { mark = g.mark; boundary = g.boundary; entries = record { count = g.entries.count; items = on_first f g.entries.items } }

-- a group with this count
pub with_count : {B : Type 0} → ℕ → Group B → Group B
with_count n g = record { mark = g.mark; boundary = g.boundary; entries = record { count = n; items = g.entries.items } }

-- a shard's group changed
pub on_group : (ShardBlocks → ShardBlocks) → ShardGroup → ShardGroup
on_group f g = record { shard = g.shard; group = f g.group }

-- a master's and a shard block's previous ids with a count of 3, a master's top items with a count of 9, a count of 1 over zeros, a group's
-- count of 17, and one of 0; and the cache as it was
pub altered : List Cache
altered =
    with_master_group (on_first_block (on_entry (with_prev_count 3)) held_cache.masters) held_cache
    ∷ with_master_group (on_first_block (with_tops_count 9) held_cache.masters) held_cache
    ∷ with_shard_groups (on_first (on_group (on_first_block (with_prev_count 3))) held_cache.shards.items) held_cache
    ∷ with_master_group (on_first_block (on_entry (with_prev_count 1)) held_cache.masters) held_cache
    ∷ with_master_group (with_count 17 held_cache.masters) held_cache
    ∷ with_master_group (with_count 0 held_cache.masters) held_cache
    ∷ held_cache ∷ []

-- what a peek from 0 answers
pub peek_answer : Cache → Answer
peek_answer c = (call_on c (ask_call (peek 0))).answer

-- all but the last are refused by question 1
pub cached_edges : map peek_answer altered ≡ replicate 6 (refused Unsound) ++ (nothing ∷ [])
unfolding step less_shard less_id after sound_model effect further call_on sound_cache same_cache same_data same_shard_group same_group same_entry padded zero_shard zero_hash zero_id zero_prev_ids zero_top zero_tops zero_entry held_empty_group zero_shard_group hash block mc sc candidate ask_call cand coll held_cache on_first with_prev_count on_entry with_tops_count on_first_block with_count on_group altered peek_answer
cached_edges = refl
