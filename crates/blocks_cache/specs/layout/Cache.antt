-- RULES.md, How it is held and Soundness: the cache in arrays with counts; how the model is packed into it, what it stands for, when it is sound, and
-- a call on it.
-- Assumes nothing.
use Rattle.blocks_group.specs.layout.Block.{master_parts, shard_parts}
use Rattle.blocks_group.specs.layout.Group.{held_empty_group, pack_group, same_group, sound_group, view_group}
use Rattle.blocks_group.specs.rules.Soundness.{of_shard}
use Rattle.block_records.specs.layout.Listed.{listed, packed, tidy_listed}
use Rattle.block_records.specs.declared.listed.Listed.{Listed}
use Rattle.block_records.specs.declared.questions.Refusal.{Refusal}
use Rattle.std.specs.Option.{option_eq}
use Rattle.block_records.specs.declared.range.AppliedRange.{AppliedRange}
use Rattle.block_records.specs.declared.questions.Refusal.TheVariants.{SeqnoLimit, Unsound}
use lib.Pointwise.{pointwise}
use Rattle.std.specs.List.{list_all}
use Rattle.std.specs.Prelude.{ℕ, suc, Bool, not, ◌&&◌, List, [], ◌∷◌, length, replicate, ◌==◌, Option, None, Some, map, cond, Err, Ok}
use Rattle.block_records.specs.declared.entry.BlockCacheEntry.{BlockCacheEntry}
use Rattle.blocks_cache.specs.declared.cache.Cache.{Cache}
use Rattle.blocks_cache.specs.declared.cache.NewCache.{NewCache}
use Rattle.blocks_cache.specs.declared.cache.ShardGroup.{ShardGroup}
use Rattle.blocks_cache.specs.declared.master_data.MasterData.{MasterData}
use Rattle.block_records.specs.layout.Zeros.{is_zero_id, zero_id, zero_shard}
use Rattle.block_records.specs.rules.BlockId.{is_masterchain, less_shard, same_id, same_shard}
use Rattle.block_records.specs.rules.Limits.{ids_limit, shards_limit}
use Rattle.block_records.specs.rules.Lists.{rising}
use Rattle.block_records.specs.rules.Questions.{Question, ask, first_no, seqno_fits}
use Rattle.cache_rules.specs.Calls.{Answer, Call, Outcome, refused}
use Rattle.cache_rules.specs.Effects.{effect, outcome_of}
use Rattle.cache_rules.specs.Model.{Model, ShardModel, empty_model, id_before}
use Rattle.cache_rules.specs.Refusals.{further, id_masterchain, sound_model, sound_range}

-- shard groups, 8 at most
abbrev pub Shards : Type 0
Shards = Listed ShardGroup shards_limit

-- a shard's group as it is held
abbrev pub pack_shard : ShardModel → ShardGroup
pack_shard g = record { shard = g.shard; group = pack_group shard_parts g.group }

-- what a shard's group stands for
abbrev pub view_shard : ShardGroup → ShardModel
view_shard g = record { shard = g.shard; group = view_group shard_parts g.group }

-- an unused place: the zero shard and the zero group
unfoldable pub zero_shard_group : ShardGroup
zero_shard_group = record { shard = zero_shard; group = held_empty_group shard_parts }

-- the lists first, zeros after them
abbrev pub pack : Model → Cache
pack m =
    record {
      zerostate_mc_seqno = m.zerostate;
      masters = pack_group master_parts m.masters;
      «data» = record { ids = packed ids_limit zero_id m.ids; range = m.range };
      shards = packed shards_limit zero_shard_group (map pack_shard m.shards);
    }

-- the first places of each array, as many as its count says
abbrev pub view : Cache → Model
view c =
    record {
      zerostate = c.zerostate_mc_seqno;
      masters = view_group master_parts c.masters;
      ids = listed c.«data».ids;
      range = c.«data».range;
      shards = map view_shard (listed c.shards);
    }

-- ===== equality, as tests =====

-- the same start and end
abbrev pub same_seqnos : AppliedRange → AppliedRange → Bool
same_seqnos a b = a.start == b.start && a.end == b.end

-- both absent, or the same start and end
abbrev pub same_range : Option AppliedRange → Option AppliedRange → Bool
same_range a b = option_eq same_seqnos a b

-- the same count and range, and the same id in every place
unfoldable pub same_data : MasterData → MasterData → Bool
same_data a b = a.ids.count == b.ids.count && (same_range a.range b.range && pointwise same_id a.ids.items b.ids.items)

-- the same shard and group
unfoldable pub same_shard_group : ShardGroup → ShardGroup → Bool
same_shard_group a b = same_shard a.shard b.shard && same_group shard_parts a.group b.group

-- the place is unused
abbrev pub is_zero_shard_group : ShardGroup → Bool
is_zero_shard_group g = same_shard_group g zero_shard_group

-- the same in every field and every place
unfoldable pub same_cache : Cache → Cache → Bool
same_cache a b =
    (a.shards.count == b.shards.count) && (a.zerostate_mc_seqno == b.zerostate_mc_seqno
    && (same_data a.«data» b.«data» && (same_group master_parts a.masters b.masters && pointwise same_shard_group a.shards.items b.shards.items)))

-- tidy: a cache is the packing of what it stands for
abbrev pub cache_tidy : Cache → Bool
cache_tidy c = same_cache c (pack (view c))

-- ===== soundness, and a call =====

-- 1: the cache is tidy, and the model that it stands for is sound
unfoldable pub sound_cache : Cache → Bool
sound_cache c = cache_tidy c && sound_model (view c)

-- ===== the same, part by part, as the code asks it (proofs/layout/SoundnessLaws: `sound_cache` is this) =====

-- groups stand by shard
abbrev pub shard_group_before : ShardGroup → ShardGroup → Bool
shard_group_before a b = less_shard a.shard b.shard

-- a shard's group: not of the masterchain, and sound for its shard
abbrev pub sound_shard_group : ShardGroup → Bool
sound_shard_group g = not (is_masterchain g.shard) && sound_group shard_parts (of_shard g.shard) g.group

-- last collated ids: no more than their places, zeros after them, rising by seqno, all of the masterchain
abbrev pub sound_ids : MasterData → Bool
sound_ids d = tidy_listed ids_limit is_zero_id d.ids && (rising id_before (listed d.ids) && list_all id_masterchain (listed d.ids))

-- shard groups: no more than their places, zeros after them, rising by shard, each sound
abbrev pub sound_shards : Shards → Bool
sound_shards s =
    tidy_listed shards_limit is_zero_shard_group s && (rising shard_group_before (listed s) && list_all sound_shard_group (listed s))

-- the master group, the range by its mark, the last collated ids and the shard groups
abbrev pub sound_cache_by_parts : Cache → Bool
sound_cache_by_parts c =
    sound_group master_parts is_masterchain c.masters && (sound_range c.masters.mark c.«data».range
    && (sound_ids c.«data» && sound_shards c.shards))

-- what a call leaves and answers, with the slice that was lent
pub record HeldOutcome : Type 0 where
  pub cache : Cache
  pub answer : Answer
  pub slice : List BlockCacheEntry

-- what a call to which no slice is lent leaves and answers
abbrev pub unlent_outcome : Cache → Answer → HeldOutcome
unlent_outcome c a = record { cache = c; answer = a; slice = [] }

-- an outcome of the rules as it is held
abbrev pub pack_outcome : Outcome → HeldOutcome
pack_outcome o = record { cache = pack o.model; answer = o.answer; slice = o.slice }

-- all questions of a call on a cache
abbrev pub questions_on : Cache → Call → List Question
questions_on c call = ask Unsound (sound_cache c) ∷ further (view c) (length call.lent) call.request

-- a refusal: cache and slice are as they were; else the rules' outcome on the model, packed
abbrev pub answered_on : Option Refusal → Cache → Call → HeldOutcome
answered_on None c call = pack_outcome (outcome_of (effect (view c) call.request) call.lent)
answered_on (Some n) c call = record { cache = c; answer = refused n; slice = call.lent }

-- one call on a cache
unfoldable pub call_on : Cache → Call → HeldOutcome
call_on c call = answered_on (first_no (questions_on c call)) c call

-- a list of calls on one cache, each given the cache that the last one left
unfoldable pub run_on : Cache → List Call → List HeldOutcome
run_on c [] = []
run_on c (call ∷ calls) = call_on c call ∷ run_on (call_on c call).cache calls

-- ===== empty =====

-- zeros, but for the zerostate seqno and the count of shard groups
unfoldable pub zero_cache : ℕ → ℕ → Cache
zero_cache zerostate count =
    record {
      zerostate_mc_seqno = zerostate;
      masters = held_empty_group master_parts;
      «data» = record { ids = packed ids_limit zero_id []; range = None };
      shards = record { count = count; items = replicate shards_limit zero_shard_group };
    }

-- Beside a refusal stands a cache that is not sound: its count of shard groups is 9.
abbrev pub no_cache : Cache
no_cache = zero_cache 0 (suc shards_limit)

-- a new cache for a zerostate seqno that passes question 2; else the refusal, beside `no_cache`
abbrev pub empty : ℕ → NewCache
empty zerostate =
    cond (seqno_fits zerostate) (record { answer = Ok tt; cache = pack (empty_model zerostate) }) (record { answer = Err SeqnoLimit; cache = no_cache })
