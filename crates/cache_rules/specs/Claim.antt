-- RULES.md, The claim: of every list of calls, in the rules' own terms.
-- Assumes nothing.
use Rattle.block_records.specs.declared.range.AppliedRange.{AppliedRange}
use Rattle.std.specs.Prelude.{true, ◌↔◌, ◌≢◌, ◌≡◌, ◌+◌, ◌<◌, ◌≤◌, ℕ, drop, length, take, Option, None, Some}
use mathlib.Core.List.{List, Memᴰ, [], ◌∷◌}
use Rattle.block_records.specs.declared.block_id.BlockId.{BlockId}
use Rattle.block_records.specs.declared.block_id.BlockIdShort.{BlockIdShort}
use Rattle.block_records.specs.declared.entry.BlockCacheEntry.{BlockCacheEntry}
use Rattle.block_records.specs.declared.top_block.TopBlock.{TopBlock}
use Rattle.block_records.specs.layout.Entry.{pack_entry}
use Rattle.block_records.specs.rules.BlockId.{key, key_shard}
use Rattle.block_records.specs.rules.Entry.{Entry}
use Rattle.block_records.specs.rules.Lists.{total}
use Rattle.cache_rules.specs.Calls.{Call, Extract, Outcome, handed}
use Rattle.cache_rules.specs.Effects.{step}
use Rattle.cache_rules.specs.Extraction.{starting_ids}
use Rattle.cache_rules.specs.Model.{Model, ShardModel}
use Rattle.cache_rules.specs.Refusals.{sound_model}

-- ===== what is cached: membership =====

-- the entry is one of the masters
abbrev pub CachedMaster : Model → Entry → Type 0
CachedMaster m e = Memᴰ e m.masters.entries

-- a shard block under a key: a group of the key's shard is among the shards, and an entry of its seqno is in it
pub record Cached (m : Model) (k : BlockIdShort) (e : Entry) : Type 0 where
  pub group : ShardModel
  pub among : Memᴰ group m.shards
  pub of_its_shard : group.shard ≡ key_shard k
  pub inside : Memᴰ e group.group.entries
  pub at_its_seqno : e.id.seqno ≡ k.seqno

-- ===== what is reached from M =====

-- The ids that an extraction of M comes to: those of its starting items, and the previous ids of each block that is cached under the key of such an
-- id and names M.
pub data Reached (before : Model) (M : Entry) : BlockId → Type 0 where
  by_top : (t : TopBlock) → Memᴰ t M.tops → t.updated ≡ true → before.zerostate < t.ref_by_mc_seqno → Reached before M t.block_id
  by_previous : (i : BlockId) (e : Entry) (p : BlockId) → Reached before M i → Cached before (key i) e → e.reference ≡ M.id.seqno
      → Memᴰ p e.previous → Reached before M p

-- the key of an id that is reached
abbrev pub ReachedKey : Model → Entry → BlockIdShort → Type 0
ReachedKey before M k = (i : BlockId) × Reached before M i × (key i ≡ k)

-- a record that belongs beside M: a block cached under the key of a reached id that names M, packed
pub record Joins (before : Model) (M : Entry) (b : BlockCacheEntry) : Type 0 where
  pub under : BlockId
  pub reached : Reached before M under
  pub block : Entry
  pub cached : Cached before (key under) block
  pub names : block.reference ≡ M.id.seqno
  pub as_cached : b ≡ pack_entry block

-- no two of the records have one key
abbrev pub Once : List BlockCacheEntry → Type 0
Once [] = Unit {0}
Once (b ∷ bs) = ((d : BlockCacheEntry) → Memᴰ d bs → key d.block_id ≢ key b.block_id) × Once bs

-- ===== what a pop or a sync extraction hands out, and leaves =====

-- of an extraction of x from `before` with the slice `lent`, which left `after` and `slice`
pub record HandsOut (before : Model) (lent : List BlockCacheEntry) (x : Extract) (after : Model) (slice : List BlockCacheEntry) : Type 0 where
  -- the first `joined` records of the slice are all that belong beside M, nothing else, and no two under one key
  pub exactly : (b : BlockCacheEntry) → Memᴰ b (take x.joined slice) ↔ Joins before x.block b
  pub once : Once (take x.joined slice)
  pub fits : x.joined ≤ length lent
  pub same_length : length slice ≡ length lent
  pub rest_untouched : drop x.joined slice ≡ drop x.joined lent
  -- M stood among the masters; the others are left, unchanged
  pub was_cached : CachedMaster before x.block
  pub masters : (e : Entry) → CachedMaster after e ↔ (CachedMaster before e × (e.id.seqno ≢ x.block.id.seqno))
  -- no shard block is left under a reached key, whatever it names; the others are unchanged
  pub shards : (k : BlockIdShort) (e : Entry) → Cached after k e ↔ (Cached before k e × (ReachedKey before x.block k → ⊥))
  -- an id is taken for each starting item and for each previous id of a record handed out
  pub ids_taken : x.taken ≡ length (starting_ids before.zerostate x.block) + total (λ (b : BlockCacheEntry). b.prev_ids.count) (take x.joined slice)

-- ===== the applied range does not pass the master mark =====

-- there is a mark, and n does not pass it
abbrev pub AtMost : ℕ → Option ℕ → Type 0
AtMost n None = ⊥
AtMost n (Some k) = n ≤ k

-- no range; or its start does not pass its end, nor its end the mark
abbrev pub RangeHolds : Option ℕ → Option AppliedRange → Type 0
RangeHolds mark None = Unit {0}
RangeHolds mark (Some r) = (r.start ≤ r.end) × AtMost r.end mark

-- of a model's range and master mark
abbrev pub RangeOk : Model → Type 0
RangeOk m = RangeHolds m.masters.mark m.range

-- ===== one step, and every list of steps =====

-- of a step from model m that came to o
pub record StepHolds (m : Model) (call : Call) (o : Outcome) : Type 0 where
  pub hands_out : (x : Extract) → handed o.answer ≡ Some x → HandsOut m call.lent x o.model o.slice
  pub nothing_out : handed o.answer ≡ None → o.slice ≡ call.lent
  pub range : RangeOk o.model
  pub sound_still : sound_model o.model ≡ true

-- of every step of a list, refused ones included, each from the model that the last one left
abbrev pub StepsHold : Model → List Call → Type 0
StepsHold m [] = Unit {0}
StepsHold m (call ∷ calls) = StepHolds m call (step m call) × StepsHold (step m call).model calls

-- from any sound model
abbrev pub StepsClaim : Type 0
StepsClaim = (start : Model) → sound_model start ≡ true → (calls : List Call) → StepsHold start calls
