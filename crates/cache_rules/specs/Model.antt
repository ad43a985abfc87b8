-- RULES.md, Master data and The whole cache: the cache as lists, and what is read from it.
-- Assumes nothing.
use Rattle.block_records.specs.declared.range.AppliedRange.{AppliedRange}
use Rattle.std.specs.List.{find}
use Rattle.std.specs.Prelude.{Bool, ◌&&◌, not, List, [], ◌∷◌, suc, ℕ, leb, ltb, Option, None, Some, map, cond, is_some, filter}
use Rattle.block_records.specs.declared.block_id.BlockId.{BlockId}
use Rattle.block_records.specs.declared.block_id.BlockIdShort.{BlockIdShort}
use Rattle.block_records.specs.declared.block_id.ShardIdent.{ShardIdent}
use Rattle.block_records.specs.rules.BlockId.{id_shard, is_masterchain, key_shard, less_shard, same_shard}
use Rattle.block_records.specs.rules.Entry.{Entry, is_applied}
use Rattle.block_records.specs.rules.Lists.{put}
use Rattle.blocks_group.specs.rules.Group.{GroupModel, at_seqno, empty_group, refresh, with_entries, without}

-- ===== Master data =====

-- the seqnos up to s taken out of a range that s has reached: it goes on at the next, or is gone if s was its end or past it; an s before the range
-- takes nothing
abbrev pub moved_start : ℕ → Option AppliedRange → Option AppliedRange
moved_start s None = None
moved_start s (Some r) = cond (leb r.start s) (cond (ltb s r.end) (Some (record { start = suc s; end = r.end })) None) (Some r)

-- the range with s as its end; without a range, s alone
abbrev pub moved_end : ℕ → Option AppliedRange → Option AppliedRange
moved_end s None = Some (record { start = s; end = s })
moved_end s (Some r) = Some (record { start = r.start; end = s })

-- ids stand by seqno
abbrev pub id_before : BlockId → BlockId → Bool
id_before a b = ltb a.seqno b.seqno

-- the ids of seqno s or higher
abbrev pub ids_from : ℕ → List BlockId → List BlockId
ids_from s ids = filter (λ (i : BlockId). leb s i.seqno) ids

-- the ids of a seqno below s
abbrev pub ids_below : ℕ → List BlockId → List BlockId
ids_below s ids = filter (λ (i : BlockId). ltb i.seqno s) ids

-- ===== Shard groups =====

-- a shard with its group
pub record ShardModel : Type 0 where
  pub shard : ShardIdent
  pub group : GroupModel

-- groups stand by shard
abbrev pub shard_before : ShardModel → ShardModel → Bool
shard_before a b = less_shard a.shard b.shard

-- the group is the shard's
abbrev pub is_shard : ShardIdent → ShardModel → Bool
is_shard s g = same_shard g.shard s

-- the shard with its group, if it has one
abbrev pub find_shard : ShardIdent → List ShardModel → Option ShardModel
find_shard s gs = find (is_shard s) gs

-- the group found, else an empty one
abbrev pub group_in : Option ShardModel → GroupModel
group_in None = empty_group
group_in (Some g) = g.group

-- the group of a shard: empty where there is none yet
abbrev pub group_of : ShardIdent → List ShardModel → GroupModel
group_of s gs = group_in (find_shard s gs)

-- the shard's group put in, in the place of the one that it had
abbrev pub set_group : ShardIdent → GroupModel → List ShardModel → List ShardModel
set_group s g gs = put shard_before (record { shard = s; group = g }) gs

-- a change of the group of one shard, if it has one
abbrev pub on_shard : ShardIdent → (GroupModel → GroupModel) → List ShardModel → List ShardModel
on_shard s f gs = map (λ (g : ShardModel). cond (is_shard s g) (record { shard = g.shard; group = f g.group }) g) gs

-- the shard block cached under a key
abbrev pub block_under : List ShardModel → BlockIdShort → Option Entry
block_under [] k = None
block_under (g ∷ gs) k = cond (is_shard (key_shard k) g) (at_seqno k.seqno g.group.entries) (block_under gs k)

-- the shard block under a key taken out
abbrev pub remove_block : BlockIdShort → List ShardModel → List ShardModel
remove_block k gs = on_shard (key_shard k) (λ (g : GroupModel). with_entries (without k.seqno g.entries) g) gs

-- the mark of the key's group refreshed by the key's seqno
abbrev pub refresh_shard : BlockIdShort → List ShardModel → List ShardModel
refresh_shard k gs = on_shard (key_shard k) (refresh k.seqno) gs

-- ===== The whole cache =====

-- the whole cache: zerostate seqno, master group, last collated ids, applied range, shard groups
pub record Model : Type 0 where
  pub zerostate : ℕ
  pub masters : GroupModel
  pub ids : List BlockId
  pub range : Option AppliedRange
  pub shards : List ShardModel

-- a zerostate seqno, and all else empty or absent
abbrev pub empty_model : ℕ → Model
empty_model z = record { zerostate = z; masters = empty_group; ids = []; range = None; shards = [] }

-- the same with this master group
abbrev pub with_masters : GroupModel → Model → Model
with_masters g m = record { zerostate = m.zerostate; masters = g; ids = m.ids; range = m.range; shards = m.shards }

-- the same with these shard groups
abbrev pub with_shards : List ShardModel → Model → Model
with_shards gs m = record { zerostate = m.zerostate; masters = m.masters; ids = m.ids; range = m.range; shards = gs }

-- the same with this master data
abbrev pub with_ids_and_range : List BlockId → Option AppliedRange → Model → Model
with_ids_and_range ids range m = record { zerostate = m.zerostate; masters = m.masters; ids = ids; range = range; shards = m.shards }

-- the group that a block of a shard is stored in
abbrev pub group_for : ShardIdent → Model → GroupModel
group_for s m = cond (is_masterchain s) m.masters (group_of s m.shards)

-- the same with this group for a block of the shard
abbrev pub with_group : ShardIdent → GroupModel → Model → Model
with_group s g m = cond (is_masterchain s) (with_masters g m) (with_shards (set_group s g m.shards) m)

-- the entry where a block is to be stored
abbrev pub entry_for : BlockId → Model → Option Entry
entry_for i m = at_seqno i.seqno (group_for (id_shard i) m).entries

-- applied, of seqno f or higher
abbrev pub applied_from : ℕ → Entry → Bool
applied_from f e = leb f e.id.seqno && is_applied e

-- the first master of that sort: pop and peek choose it
abbrev pub first_applied : ℕ → Model → Option Entry
first_applied f m = find (applied_from f) m.masters.entries

-- applied, of a seqno higher than n
abbrev pub applied_above : ℕ → Entry → Bool
applied_above n e = ltb n e.id.seqno && is_applied e

-- no master is of that sort
abbrev pub is_last : ℕ → Model → Bool
is_last n m = not (is_some (find (applied_above n) m.masters.entries))
