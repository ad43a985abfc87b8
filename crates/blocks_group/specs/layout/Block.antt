-- RULES.md, Entries: what a group's blocks are: an entry each, beside which a master block has its top items; a shard block has none.
-- Assumes nothing.
use Rattle.std.specs.Prelude.{Bool, ◌&&◌, ◌≡◌, refl, [], ℕ, ltb}
use Rattle.block_records.specs.declared.block_id.ShardIdent.{ShardIdent}
use Rattle.block_records.specs.declared.entry.BlockCacheEntry.{BlockCacheEntry}
use Rattle.block_records.specs.declared.entry.BlockCacheEntryData.{BlockCacheEntryData}
use Rattle.block_records.specs.declared.entry.MasterBlock.{MasterBlock}
use Rattle.block_records.specs.layout.Entry.{entry_tidy, entry_tops, pack_entry, pack_tops, stored_tops, tops_tidy, view_entry, with_data}
use Rattle.block_records.specs.layout.Equality.{same_entry, same_tops}
use Rattle.block_records.specs.layout.Listed.{TopBlocks}
use Rattle.block_records.specs.layout.Questions.{held_entry_fits}
use Rattle.block_records.specs.layout.Zeros.{is_zero_entry, is_zero_tops, zero_entry, zero_tops}
use Rattle.block_records.specs.rules.BlockId.{id_shard, listed_tops}
use Rattle.block_records.specs.rules.Entry.{Entry}

-- how a block is taken apart, and put together again
pub record BlockParts (B : Type 0) : Type 0 where
  pub entry : B → BlockCacheEntry
  pub tops : B → TopBlocks
  pub of : BlockCacheEntry → TopBlocks → B

-- a shard block: its entry alone
abbrev pub shard_parts : BlockParts BlockCacheEntry
shard_parts = record { entry = λ b. b; tops = λ b. pack_tops []; of = λ b t. b }

-- a master block: its entry with its top items
abbrev pub master_parts : BlockParts MasterBlock
master_parts = record { entry = λ b. b.entry; tops = λ b. b.tops; of = λ b t. record { entry = b; tops = t } }

module _ {B : Type 0} (k : BlockParts B) where
  -- The parts make the block; it has the entry, and the top items where they can stand beside it; an entry in place of another leaves them.
  pub record BlockLaws : Type 0 where
    pub whole : (b : B) → k.of (k.entry b) (k.tops b) ≡ b
    pub entry_of : (e : BlockCacheEntry) (t : TopBlocks) → k.entry (k.of e t) ≡ e
    pub tops_stay : (e d : BlockCacheEntry) (t : TopBlocks) → k.of e (k.tops (k.of d t)) ≡ k.of e t
    pub no_tops : (e : BlockCacheEntry) → k.tops (k.of e zero_tops) ≡ zero_tops
    pub stored : (e : BlockCacheEntry) (b : B) → k.tops (k.of e (stored_tops (k.tops b))) ≡ stored_tops (k.tops b)

  -- its seqno, by which blocks are ordered
  abbrev pub block_seqno : B → ℕ
  block_seqno b = (k.entry b).block_id.seqno

  -- blocks stand by seqno
  abbrev pub block_before : B → B → Bool
  block_before a b = ltb (block_seqno a) (block_seqno b)

  -- its kind
  abbrev pub block_kind : B → BlockCacheEntryData
  block_kind b = (k.entry b).«data»

  -- the block with another kind, its top items kept
  abbrev pub with_block_data : BlockCacheEntryData → B → B
  with_block_data d b = k.of (with_data d (k.entry b)) (k.tops b)

  -- zeros, as they stand in an unused place
  abbrev pub zero_block : B
  zero_block = k.of zero_entry zero_tops

  -- an entry of the model as it is held
  abbrev pub pack_block : Entry → B
  pack_block e = k.of (pack_entry e) (entry_tops e)

  -- what a block stands for
  abbrev pub view_block : B → Entry
  view_block b = view_entry (k.entry b) (listed_tops (k.tops b))

  -- the same entry, and the same top items
  abbrev pub same_block : B → B → Bool
  same_block a b = same_entry (k.entry a) (k.entry b) && same_tops (k.tops a) (k.tops b)

  -- zeros in both
  abbrev pub is_zero_block : B → Bool
  is_zero_block b = is_zero_entry (k.entry b) && is_zero_tops (k.tops b)

  -- it is the packing of what it stands for, and passes questions 2 to 4
  abbrev pub block_fits : B → Bool
  block_fits b = entry_tidy (k.entry b) && (tops_tidy (k.tops b) && held_entry_fits (k.entry b) (k.tops b))

  -- the shard that it is of
  abbrev pub block_shard : B → ShardIdent
  block_shard b = id_shard (k.entry b).block_id

pub shard_laws : BlockLaws shard_parts
unfolding zero_tops
shard_laws = record { whole = λ b. refl; entry_of = λ e t. refl; tops_stay = λ e d t. refl; no_tops = λ e. refl; stored = λ e b. refl }

pub master_laws : BlockLaws master_parts
master_laws = record { whole = λ b. refl; entry_of = λ e t. refl; tops_stay = λ e d t. refl; no_tops = λ e. refl; stored = λ e b. refl }
