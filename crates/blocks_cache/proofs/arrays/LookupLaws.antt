-- The place that a lookup gives, on a sound cache: where it finds a block, it is the one that the rules look up among those still cached.
-- Assumes nothing.
use Rattle.std.specs.Prelude.{Option, option_map, None, Some, map}
use Rattle.std.proofs.Common.{◌≡◌, ℕ, ◌-◌, ◌<◌, ◌≤◌, true, ◌⊎◌, List, ◌++◌, length, get_or, replicate, sym, refl, ap, ◌∙◌, subst, subst₂, inl, inr, arith, length-append, leb-true}
use lib.ListN.{get_or-append, length-replicate, get_or-map}
use Rattle.block_records.specs.declared.block_id.BlockId.{BlockId}
use Rattle.block_records.specs.declared.block_id.ShardIdent.{ShardIdent}
use Rattle.block_records.specs.declared.entry.BlockCacheEntry.{BlockCacheEntry}
use Rattle.blocks_cache.specs.declared.cache.Cache.{Cache}
use Rattle.blocks_cache.specs.declared.cache.ShardGroup.{ShardGroup}
use Rattle.blocks_cache.specs.declared.lookup.BlockIndex.{BlockIndex}
use Rattle.blocks_cache.specs.declared.lookup.GroupSeqnos.{GroupSeqnos}
use Rattle.block_records.proofs.arrays.ArrayLaws.{all_get_d}
use Rattle.std.specs.List.{position}
use Rattle.block_records.specs.layout.Entry.{pack_entry, view_shard_entry}
use Rattle.block_records.specs.layout.Zeros.{zero_entry}
use Rattle.block_records.specs.rules.BlockId.{id_shard, key}
use Rattle.block_records.specs.rules.Entry.{Entry}
use Rattle.block_records.specs.rules.Lists.{padded}
use Rattle.blocks_cache.proofs.arrays.CachedSeqnoLaws.{Indexed, Numbered, cached_within, first_indexed, first_now, found_cached, listed_or_empty, lookup_in, no_shard_cached, none_cached, none_in_empty, now_shards, numbered_in}
use Rattle.blocks_cache.proofs.arrays.FirstPlaceLaws.{FirstAt, Placed, first_at, none_passes, placed}
use Rattle.blocks_cache.proofs.layout.CacheLaws.{pack_sound, sound_cache_packed, view_pack}
use Rattle.blocks_cache.specs.arrays.Lookup.{block_place, cached_at, cached_block, index_of, no_seqnos, place_in, place_of, placed_block, shard_seqnos}
use Rattle.blocks_cache.specs.arrays.Shards.{ident_at, shard_ident}
use Rattle.blocks_cache.specs.layout.Cache.{pack, pack_shard, sound_cache, view, view_shard, zero_shard_group}
use Rattle.cache_rules.proofs.ShardLaws.{ShardsOk}
use Rattle.cache_rules.proofs.SoundLaws.{parts}
use Rattle.cache_rules.specs.Model.{Model, ShardModel, block_under}
use Rattle.cache_rules.specs.Refusals.{sound_model, sound_shard_model}
use Rattle.std.proofs.lemmas.List.{get_or_default, length-map}

module _ (c : Cache) (ok : sound_cache c ≡ true) where
  abbrev gs : List ShardModel
  gs = (view c).shards

  pub shards_ok : ShardsOk (view c).shards
  shards_ok = (parts (view c) (sound_cache_packed c ok).1).rest.shards

  pub few_groups : length (view c).shards ≤ 8
  few_groups = leb-true (length gs) 8 shards_ok.count

  abbrev spare : ℕ
  spare = 8 - length (map pack_shard gs)

  -- the groups as they are held
  pub held_is : c.shards.items ≡ map pack_shard (view c).shards ++ replicate (8 - length (map pack_shard (view c).shards)) zero_shard_group
  unfolding padded
  held_is = ap (λ (x : Cache). x.shards.items) (sound_cache_packed c ok).0

  -- ===== before a block has left =====

  pub first_index : Indexed (map shard_ident c.shards.items) (map shard_seqnos c.shards.items) (view c).shards
  first_index =
      subst₂ (λ (x : List ShardIdent) (y : List GroupSeqnos). Indexed x y gs) (sym (ap (map shard_ident) held_is)) (sym (ap (map shard_seqnos) held_is)) (first_indexed spare gs)

  pub all_cached : now_shards (map shard_seqnos c.shards.items) (view c).shards ≡ (view c).shards
  all_cached = ap (λ (x : List ShardGroup). now_shards (map shard_seqnos x) gs) held_is ∙ first_now (replicate spare zero_shard_group) gs

  pub eight_groups : length (map shard_seqnos c.shards.items) ≡ 8
  eight_groups =
      length-map c.shards.items shard_seqnos ∙ ap length held_is
      ∙ omega (arith, length-append (map pack_shard gs) (replicate spare zero_shard_group), length-map gs pack_shard, few_groups, length-replicate spare zero_shard_group)

  -- ===== a place =====

  module _ (id : BlockId) (idents : List ShardIdent) (seqnos : List GroupSeqnos) (index : Indexed idents seqnos (view c).shards) where
    abbrev found_here : Option ℕ
    found_here = position (ident_at (id_shard id)) idents

    -- the group of its shard has place k
    module _ (k : ℕ) (f : position (ident_at (id_shard id)) idents ≡ Some k) where
      abbrev g : ShardModel
      g = get_or gs k (view_shard zero_shard_group)

      abbrev s : GroupSeqnos
      s = get_or seqnos k no_seqnos

      pub group_here : FirstAt (ident_at (id_shard id)) idents k
      group_here = first_at (ident_at (id_shard id)) idents k f

      no_entry : position (cached_at id.seqno) s.entries ≡ None → block_under (now_shards seqnos gs) (key id) ≡ None
      no_entry q = by (listed_or_empty id idents seqnos gs k no_seqnos group_here index)
        where
          by : (k < length gs) ⊎ ((s ≡ no_seqnos) × (block_under (now_shards seqnos gs) (key id) ≡ None)) → block_under (now_shards seqnos gs) (key id) ≡ None
          by (inl l) =
              lookup_in id idents seqnos gs k no_seqnos (view_shard zero_shard_group) group_here index l
              ∙ none_cached id.seqno s.entries g.group.entries (none_passes (cached_at id.seqno) s.entries q)
              (numbered_in id idents seqnos gs k no_seqnos (view_shard zero_shard_group) index l)
          by (inr e) = e.1

      absent_in : (o : Option ℕ) → position (cached_at id.seqno) s.entries ≡ o → place_in k o ≡ None → block_under (now_shards seqnos gs) (key id) ≡ None
      absent_in (Some j) q e = let z : ◌≡◌ {A = ℕ} 0 1 = cc in absurd (omega arith)
      absent_in None q e = no_entry q

      -- .. and its entry place j in it
      module _ (j : ℕ) (q : position (cached_at id.seqno) (get_or seqnos k no_seqnos).entries ≡ Some j) where
        pub entry_here : FirstAt (cached_at id.seqno) (get_or seqnos k no_seqnos).entries j
        entry_here = first_at (cached_at id.seqno) s.entries j q

        pub group_listed : k < length (view c).shards
        group_listed = by (listed_or_empty id idents seqnos gs k no_seqnos group_here index)
          where
            by : (k < length gs) ⊎ ((s ≡ no_seqnos) × (block_under (now_shards seqnos gs) (key id) ≡ None)) → k < length gs
            by (inl l) = l
            by (inr e) = absurd (none_in_empty id.seqno j (subst (λ (x : GroupSeqnos). FirstAt (cached_at id.seqno) x.entries j) e.0 entry_here))

        abbrev es : List Entry
        es = g.group.entries

        pub entries_numbered : Numbered (get_or seqnos k no_seqnos).entries (get_or (view c).shards k (view_shard zero_shard_group)).group.entries
        entries_numbered = numbered_in id idents seqnos gs k no_seqnos (view_shard zero_shard_group) index group_listed

        pub entry_listed : j < length (get_or (view c).shards k (view_shard zero_shard_group)).group.entries
        entry_listed = cached_within id.seqno s.entries es j entry_here entries_numbered

        -- the block at the place
        abbrev pub block_at : Entry
        block_at = get_or (get_or (view c).shards k (view_shard zero_shard_group)).group.entries j (view_shard_entry zero_entry)

        pub block_looked_up : block_under (now_shards seqnos (view c).shards) (key id) ≡ Some block_at
        block_looked_up =
            lookup_in id idents seqnos gs k no_seqnos (view_shard zero_shard_group) group_here index group_listed
            ∙ found_cached id.seqno s.entries es j (view_shard_entry zero_entry) entry_here entries_numbered

        pub found_group_sound : sound_shard_model (get_or (view c).shards k (view_shard zero_shard_group)) ≡ true
        found_group_sound = all_get_d sound_shard_model gs k (view_shard zero_shard_group) shards_ok.each_ok group_listed

        pub at_group : k < 8
        at_group = omega (arith, group_listed, few_groups)

        -- the block that the code reads; y and x are what the arrays would give past their ends
        pub block_read : (y : ShardGroup) (x : BlockCacheEntry) → get_or (get_or c.shards.items k y).group.entries.items j x ≡ pack_entry block_at
        unfolding padded
        block_read y x =
            let a : k < length (map pack_shard gs) = omega (arith, length-map gs pack_shard, group_listed) in
            let p : get_or c.shards.items k y ≡ pack_shard g =
            ap (λ (l : List ShardGroup). get_or l k y) held_is ∙ get_or-append (map pack_shard gs) (replicate spare zero_shard_group) y k a
            ∙ get_or_default (map pack_shard gs) k y (pack_shard (view_shard zero_shard_group)) a ∙ get_or-map pack_shard gs k (view_shard zero_shard_group) in
            let n : j < length (map pack_entry es) = omega (arith, length-map es pack_entry, entry_listed) in
            ap (λ (z : ShardGroup). get_or z.group.entries.items j x) p ∙ get_or-append (map pack_entry es) (replicate (16 - length (map pack_entry es)) zero_entry) x j n
            ∙ get_or_default (map pack_entry es) j x (pack_entry (view_shard_entry zero_entry)) n ∙ get_or-map pack_entry es j (view_shard_entry zero_entry)

    absent_of : (o : Option ℕ) → found_here ≡ o → place_of id seqnos o ≡ None → block_under (now_shards seqnos gs) (key id) ≡ None
    absent_of (Some k) f e = absent_in k f (position (cached_at id.seqno) (get_or seqnos k no_seqnos).entries) refl e
    absent_of None f e = no_shard_cached id idents seqnos gs (none_passes (ident_at (id_shard id)) idents f) index

    pub absent_looked_up : block_place id idents seqnos ≡ None → block_under (now_shards seqnos (view c).shards) (key id) ≡ None
    unfolding block_place
    absent_looked_up e = absent_of found_here refl e

  -- ===== the block of an id =====

  module _ (i : BlockId) (index : BlockIndex) (gathered : index ≡ index_of c.shards) where
    abbrev idents : List ShardIdent
    idents = index.idents

    abbrev seqnos : List GroupSeqnos
    seqnos = index.seqnos

    index_is : Indexed idents seqnos gs
    index_is = subst (λ (x : BlockIndex). Indexed x.idents x.seqnos gs) (sym gathered) first_index

    now_is : now_shards seqnos gs ≡ gs
    now_is = ap (λ (x : BlockIndex). now_shards x.seqnos gs) gathered ∙ all_cached

    rules_say : (o : Option Entry) → block_under (now_shards seqnos gs) (key i) ≡ o → block_under gs (key i) ≡ o
    rules_say o e = ap (λ (x : List ShardModel). block_under x (key i)) (sym now_is) ∙ e

    cached_is : placed_block (block_place i idents seqnos) c.shards.items ≡ cached_block i c
    unfolding cached_block
    cached_is = ap (λ (x : BlockIndex). placed_block (block_place i x.idents x.seqnos) c.shards.items) gathered

    pub not_cached : block_place i index.idents index.seqnos ≡ None → cached_block i c ≡ None
    not_cached e = sym cached_is ∙ ap (λ (p : Option (ℕ × ℕ)). placed_block p c.shards.items) e

    module _ (k j : ℕ) (e : block_place i index.idents index.seqnos ≡ Some (k, j)) where
      p : Placed i idents seqnos k j
      p = placed i idents seqnos k j e

      -- y and x are what the arrays would give past their ends
      pub cached_at_place : (y : ShardGroup) (x : BlockCacheEntry) → cached_block i c ≡ Some (get_or (get_or c.shards.items k y).group.entries.items j x)
      cached_at_place y x =
          sym cached_is ∙ ap (λ (q : Option (ℕ × ℕ)). placed_block q c.shards.items) e
          ∙ ap Some (block_read i idents seqnos index_is k p.group j p.entry zero_shard_group zero_entry ∙ sym (block_read i idents seqnos index_is k p.group j p.entry y x))

      found_looked_up : placed_block (Some (k, j)) c.shards.items ≡ option_map pack_entry (block_under gs (key i))
      found_looked_up =
          ap Some (block_read i idents seqnos index_is k p.group j p.entry zero_shard_group zero_entry)
          ∙ ap (option_map pack_entry) (sym (rules_say _ (block_looked_up i idents seqnos index_is k p.group j p.entry)))

    looked_up_by : (q : Option (ℕ × ℕ)) → block_place i idents seqnos ≡ q → placed_block q c.shards.items ≡ option_map pack_entry (block_under gs (key i))
    looked_up_by (Some (k, j)) e = found_looked_up k j e
    looked_up_by None e = ap (option_map pack_entry) (sym (rules_say None (absent_looked_up i idents seqnos index_is e)))

  cached_block_is : (i : BlockId) → cached_block i c ≡ option_map pack_entry (block_under (view c).shards (key i))
  unfolding cached_block
  cached_block_is i = looked_up_by i (index_of c.shards) refl (block_place i (map shard_ident c.shards.items) (map shard_seqnos c.shards.items)) refl

pub ruleset cached_blocks = (not_cached, cached_at_place)

-- on a packed cache the block of an id is the one that the rules look up, packed
pub cached_block_packed : (m : Model) → sound_model m ≡ true → (i : BlockId) → cached_block i (pack m) ≡ option_map pack_entry (block_under m.shards (key i))
cached_block_packed m ok i =
    cached_block_is (pack m) (pack_sound m ok) i ∙ ap (λ (x : Model). option_map pack_entry (block_under x.shards (key i))) (view_pack m ok)
