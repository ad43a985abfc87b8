-- A block made of an entry of the model has its seqno and its kind; a test of equality decides it; zeros and tidy blocks.
-- Assumes nothing.
use Rattle.std.proofs.Math.Bool.{and-true}
use Rattle.std.proofs.Common.{◌≡◌, ◌&&◌, Bool, [], ap, ap₂, sym, ◌∙◌, ltb}
use Rattle.block_records.specs.declared.entry.BlockCacheEntry.{BlockCacheEntry}
use Rattle.block_records.specs.declared.entry.BlockCacheEntryData.{BlockCacheEntryData}
use Rattle.block_records.proofs.layout.EntryLaws.{view_pack_entry, view_pack_shard_entry}
use Rattle.block_records.proofs.layout.EqualityLaws.{both_same, entry_same, tops_same}
use Rattle.block_records.specs.layout.Entry.{entry_tidy, entry_tops, pack_entry, tops_tidy, with_data}
use Rattle.block_records.specs.layout.Equality.{same_entry, same_tops}
use Rattle.block_records.specs.layout.Questions.{held_entry_fits, held_shard_entry_fits}
use Rattle.block_records.specs.layout.Zeros.{is_zero_entry, zero_entry, zero_tops}
use Rattle.block_records.specs.rules.Entry.{Entry, with_kind}
use Rattle.block_records.specs.rules.Order.{IsSame}
use Rattle.blocks_group.specs.layout.Block.{BlockLaws, BlockParts, block_before, block_fits, block_kind, block_seqno, is_zero_block, master_parts, pack_block, same_block, shard_parts, view_block, with_block_data, zero_block}
use Rattle.blocks_group.specs.rules.Group.{entry_before}

-- ===== a shard's block, beside which no top items stand =====

pub shard_zero : (b : BlockCacheEntry) → is_zero_entry b ≡ is_zero_block shard_parts b
unfolding zero_tops
shard_zero b = sym (and-true (is_zero_entry b)) ∙ ap (λ (t : Bool). is_zero_entry b && t) (sym (tops_same.same_refl zero_tops))

pub shard_fits : (b : BlockCacheEntry) → entry_tidy b && held_shard_entry_fits b ≡ block_fits shard_parts b
unfolding zero_tops
shard_fits b = ap (λ (t : Bool). entry_tidy b && (t && held_entry_fits b zero_tops)) (sym (tops_same.same_refl zero_tops))

-- ===== any block =====

module _ {B : Type 0} (k : BlockParts B) (h : BlockLaws k) where
  pub packed_entry : (e : Entry) → k.entry (pack_block k e) ≡ pack_entry e
  packed_entry e = h.entry_of (pack_entry e) (entry_tops e)

  pub packed_seqno : (e : Entry) → block_seqno k (pack_block k e) ≡ e.id.seqno
  packed_seqno e = ap (λ (b : BlockCacheEntry). b.block_id.seqno) (packed_entry e)

  pub packed_kind : (e : Entry) → block_kind k (pack_block k e) ≡ e.kind
  packed_kind e = ap (λ (b : BlockCacheEntry). b.«data») (packed_entry e)

  pub packed_before : (d e : Entry) → block_before k (pack_block k d) (pack_block k e) ≡ entry_before d e
  packed_before d e = ap₂ ltb (packed_seqno d) (packed_seqno e)

  pub packed_with_kind : (d : BlockCacheEntryData) (e : Entry) → with_block_data k d (pack_block k e) ≡ pack_block k (with_kind d e)
  packed_with_kind d e =
      ap (λ (b : BlockCacheEntry). k.of (with_data d b) (k.tops (pack_block k e))) (packed_entry e) ∙ h.tops_stay (pack_entry (with_kind d e)) (pack_entry e) (entry_tops e)

  -- equality of the parts is equality
  pub block_same : IsSame (same_block k)
  block_same = both_same k.entry k.tops (λ a b p q. sym (h.whole a) ∙ ap₂ k.of p q ∙ h.whole b) entry_same tops_same

  -- a block that is the zero block is zeros in both parts
  pub zero_same : (b : B) → same_block k b (zero_block k) ≡ is_zero_block k b
  zero_same b = ap₂ (λ (e : BlockCacheEntry) (t : _). same_entry (k.entry b) e && same_tops (k.tops b) t) (h.entry_of zero_entry zero_tops) (h.no_tops zero_entry)

  -- a block that is the packing of what it stands for is so in both parts
  pub tidy_same : (b : B) → same_block k b (pack_block k (view_block k b)) ≡ entry_tidy (k.entry b) && tops_tidy (k.tops b)
  tidy_same b =
      let e = pack_entry (view_block k b) in
      ap₂ (λ (d : BlockCacheEntry) (t : _). same_entry (k.entry b) d && same_tops (k.tops b) t) (h.entry_of e (entry_tops (view_block k b))) (h.stored e b)

-- packing an entry and viewing it again gives the entry: of a master, and of a shard block that has no top items
abbrev pub Kept : {B : Type 0} → BlockParts B → Entry → Type 0
Kept k e = view_block k (pack_block k e) ≡ e

pub kept_master : (e : Entry) → Kept master_parts e
kept_master e = view_pack_entry e

pub kept_shard : (e : Entry) → e.tops ≡ [] → Kept shard_parts e
kept_shard e h = view_pack_shard_entry e h
