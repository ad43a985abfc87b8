-- What is done to a sound group leaves it sound, whatever its blocks and the shards that it is for: each is a rule of the model, packed, and the rules
-- leave the model sound (rules/GroupLaws).
-- Assumes nothing.
use Rattle.std.specs.Prelude.{Option, None, Some, map, filter}
use mathlib.Core.Bool.{Bool, ◌&&◌, true}
use mathlib.Core.List.{List, [], ◌∷◌}
use mathlib.Core.Path.{◌∙◌, ◌≡◌, ap, ap₂, refl}
use Prim.Native.Nat.{ℕ}
use borrow.Author.Tests.{leb-true}
use lib.Dec.{leb}
use lib.ListN.{length}
use Rattle.block_records.specs.declared.block_id.BlockIdShort.{BlockIdShort}
use Rattle.block_records.specs.declared.block_id.ShardIdent.{ShardIdent}
use Rattle.block_records.specs.declared.entry.BlockCacheEntry.{BlockCacheEntry}
use Rattle.blocks_group.specs.declared.group.Group.{Group}
use Rattle.block_records.proofs.layout.EntryLaws.{view_pack_entry}
use Rattle.block_records.proofs.rules.Tests.{and_intro, on}
use Rattle.block_records.specs.layout.Entry.{entry_tops, pack_entry, view_entry}
use Rattle.block_records.specs.layout.Listed.{TopBlocks, listed}
use Rattle.block_records.specs.rules.BlockId.{key_shard, listed_tops}
use Rattle.block_records.specs.rules.Entry.{Entry}
use Rattle.block_records.specs.rules.Lists.{put}
use Rattle.blocks_group.proofs.arrays.GroupLaws.{put_block_packed, retain_packed}
use Rattle.blocks_group.proofs.arrays.SoundnessLaws.{block_asked, sound_group_packed}
use Rattle.blocks_group.proofs.layout.BlockLaws.{Kept, block_same, tidy_same}
use Rattle.blocks_group.proofs.layout.GroupLaws.{AllKept, group_same, view_pack_group}
use Rattle.blocks_group.proofs.layout.TidyLaws.{block_tidy}
use Rattle.blocks_group.proofs.rules.GroupLaws.{group_bound, group_put, group_select}
use Rattle.blocks_group.specs.arrays.Group.{other_seqno, put_block, refresh_group, retain_blocks, set_boundary, without_block}
use Rattle.blocks_group.specs.arrays.Queries.{collect_group, collected_by, remove_collated_above}
use Rattle.blocks_group.specs.arrays.Soundness.{sound_block}
use Rattle.blocks_group.specs.layout.Block.{BlockLaws, BlockParts, pack_block, view_block}
use Rattle.blocks_group.specs.layout.Group.{group_tidy, held_empty_group, pack_group, same_group, sound_group, view_group}
use Rattle.blocks_group.specs.rules.Group.{GroupModel, empty_group, entry_before, refresh, with_boundary, with_entries}
use Rattle.blocks_group.specs.rules.Soundness.{fits_in, sound_group_model}
use Rattle.std.specs.Cmp.{first_so, second_so}

module _ {B : Type 0} (k : BlockParts B) (h : BlockLaws k) where
  -- ===== entries that are kept by packing =====

  -- what a block stands for
  kept_view : (b : B) → Kept k (view_block k b)
  kept_view b =
      let e = view_block k b in
      ap₂ (λ (d : BlockCacheEntry) (t : TopBlocks). view_entry d (listed_tops t)) (h.entry_of (pack_entry e) (entry_tops e)) (h.stored (pack_entry e) b) ∙ view_pack_entry e

  all_kept_views : (bs : List B) → AllKept k (map (view_block k) bs)
  all_kept_views [] = tt
  all_kept_views (b ∷ bs) = (kept_view b, all_kept_views bs)

  kept_select : (q : Entry → Bool) (es : List Entry) → AllKept k es → AllKept k (filter q es)
  kept_select q [] a = tt
  kept_select q (e ∷ es) a = on (q e) (λ t. rw t (a.0, kept_select q es a.1)) (λ t. rw t (kept_select q es a.1))

  kept_put : (e : Entry) (es : List Entry) → Kept k e → AllKept k es → AllKept k (put entry_before e es)
  kept_put e [] n a = (n, tt)
  kept_put e (x ∷ es) n a =
      on (entry_before e x)
      (λ t. rw t (n, a))
      (λ t. rw t (on (entry_before x e) (λ u. rw u (a.0, kept_put e es n a.1)) (λ u. rw u (n, a.1))))

  module _ (p : ShardIdent → Bool) where
    -- ===== a sound model, packed, is a sound group =====

    pub pack_sound : (m : GroupModel) → AllKept k m.entries → sound_group_model p m ≡ true → sound_group k p (pack_group k m) ≡ true
    pack_sound m a s =
        ap (λ (v : GroupModel). same_group k (pack_group k m) (pack_group k v) && sound_group_model p v) (view_pack_group k m a)
        ∙ and_intro ((group_same k h).same_refl (pack_group k m)) s

    -- no block, mark or boundary
    pub empty_group_sound : sound_group k p (held_empty_group k) ≡ true
    unfolding held_empty_group
    empty_group_sound = pack_sound empty_group tt refl

    -- ===== a sound group, changed =====

    module _ (g : Group B) (s : sound_group k p g ≡ true) where
      abbrev viewed : GroupModel
      viewed = view_group k g

      packed : g ≡ pack_group k viewed
      packed = sound_group_packed k h p g s

      model_sound : sound_group_model p viewed ≡ true
      model_sound = second_so (group_tidy k g) (sound_group_model p viewed) s

      kept : AllKept k viewed.entries
      kept = all_kept_views (listed g.entries)

      -- blocks retained by any test
      pub retained_sound : (q : B → Bool) → sound_group k p (retain_blocks k q g) ≡ true
      retained_sound q =
          let r : Entry → Bool = λ e. q (pack_block k e) in
          ap (λ (x : Group B). sound_group k p (retain_blocks k q x)) packed ∙ ap (sound_group k p) (retain_packed k h q r (λ e. refl) viewed)
          ∙ pack_sound (with_entries (filter r viewed.entries) viewed) (kept_select r viewed.entries kept) (group_select p r viewed model_sound)

      -- the block of a seqno removed
      pub removed_sound : (n : ℕ) → sound_group k p (without_block k n g) ≡ true
      removed_sound n = retained_sound (other_seqno k n)

      -- remove next collated
      pub removed_above_sound : (n : ℕ) → sound_group k p (remove_collated_above k n g) ≡ true
      removed_above_sound n = retained_sound _

      -- collect
      pub collect_sound : sound_group k p (collect_group k g) ≡ true
      collect_sound = by g.boundary
        where
          by : (b : Option BlockIdShort) → sound_group k p (collected_by k b g) ≡ true
          by None = s
          by (Some key) = retained_sound _

      -- an entry that fits, packed and put in
      pub put_sound : (e : Entry) → Kept k e → fits_in p e ≡ true → sound_group k p (put_block k (pack_block k e) g) ≡ true
      put_sound e n ok =
          let after = put entry_before e viewed.entries in
          ap (λ (x : Group B). sound_group k p (put_block k (pack_block k e) x)) packed ∙ ap (sound_group k p) (put_block_packed k h e viewed)
          ∙ on (leb (length after) 16)
          (λ t. rw t (pack_sound (with_entries after viewed) (kept_put e viewed.entries n kept) (group_put p e viewed model_sound ok (leb-true (length after) 16 t))))
          (λ t. rw t (pack_sound viewed kept model_sound))

      -- a sound block put in
      pub put_block_sound : (b : B) → sound_block k p b ≡ true → sound_group k p (put_block k b g) ≡ true
      put_block_sound b ok =
          let asked = block_asked k h p b ∙ ok in
          let whole : b ≡ pack_block k (view_block k b) =
          (block_same k h).same_eq b (pack_block k (view_block k b)) (tidy_same k h b ∙ first_so (block_tidy k b) (fits_in p (view_block k b)) asked) in
          ap (λ (x : B). sound_group k p (put_block k x g)) whole ∙ put_sound (view_block k b) (kept_view b) (second_so (block_tidy k b) (fits_in p (view_block k b)) asked)

      -- the boundary set to a key of a shard that the group is for
      pub boundary_sound : (key : BlockIdShort) → p (key_shard key) ≡ true → sound_group k p (set_boundary key g) ≡ true
      boundary_sound key ok =
          ap (λ (x : Group B). sound_group k p (set_boundary key x)) packed ∙ pack_sound (with_boundary key viewed) kept (group_bound p key viewed ok model_sound)

      -- the mark refreshed
      pub refreshed_sound : (n : ℕ) → sound_group k p (refresh_group n g) ≡ true
      refreshed_sound n = ap (λ (x : Group B). sound_group k p (refresh_group n x)) packed ∙ pack_sound (refresh n viewed) kept model_sound
