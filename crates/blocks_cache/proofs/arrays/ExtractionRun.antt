-- The loop of extraction, turn by turn, is the rule's: after `head` ids taken its arrays hold what the rule has made of so many ids.
-- Assumes nothing.
use Rattle.blocks_group.proofs.rules.GroupLaws.{previous_two}
use Rattle.blocks_group.specs.rules.Group.{GroupModel, refresh, refreshed_mark, with_entries, without}
use Rattle.blocks_group.specs.rules.Soundness.{fits_in, of_shard}
use Rattle.std.specs.Prelude.{Option, None, Some, map}
use Rattle.std.proofs.lemmas.List.{length-reverse, reverse-reverse, get_or_default, length-map}
use Rattle.std.proofs.lemmas.Grind.{reverse_onto}
use mathlib.Core.List.{reverse}
use Rattle.blocks_cache.proofs.layout.CacheLaws.{sound_cache_packed}
use Rattle.blocks_cache.specs.layout.Cache.{Shards}
use Rattle.std.proofs.Common.{ap₂, ◌≡◌, ℕ, zero, suc, ◌+◌, ◌-◌, ◌*◌, ◌<◌, ◌≤◌, true, false, eqb, List, [], ◌∷◌, ◌++◌, length, get_or, take, drop, set, replicate, sym, refl, ap, ◌∙◌, subst, le_refl, arith, length-append, length-drop, length-set, drop_of_length-le, length-take-le, get_or-take, eq-eqb, ne_eqb}
use lib.Seq.{drop-append-le, drop_at, take_at, take-append-add}
use Rattle.block_records.specs.declared.block_id.BlockId.{BlockId}
use Rattle.block_records.specs.declared.block_id.ShardIdent.{ShardIdent}
use Rattle.block_records.specs.declared.entry.BlockCacheEntry.{BlockCacheEntry}
use Rattle.block_records.specs.declared.entry.MasterBlock.{MasterBlock}
use Rattle.blocks_cache.specs.declared.cache.Cache.{Cache}
use Rattle.blocks_cache.specs.declared.cache.ShardGroup.{ShardGroup}
use Rattle.blocks_cache.specs.declared.extraction.Extraction.{Extraction}
use Rattle.block_records.specs.declared.listed.Listed.{Listed}
use Rattle.block_records.specs.layout.Listed.{listed, packed}
use Rattle.blocks_cache.specs.declared.lookup.BlockIndex.{BlockIndex}
use Rattle.blocks_cache.specs.declared.lookup.GroupSeqnos.{GroupSeqnos}
use Rattle.block_records.proofs.arrays.ArrayLaws.{all_get_d, length_padded}
use Rattle.block_records.proofs.arrays.LoopLaws.{drop_next, set_padded}
use Rattle.block_records.proofs.layout.EntryLaws.{take_padded}
use Rattle.std.specs.List.{position}
use Rattle.block_records.specs.layout.Entry.{pack_entry, view_shard_entry}
use Rattle.block_records.specs.layout.Zeros.{zero_entry, zero_id}
use Rattle.block_records.specs.rules.BlockId.{id_shard, key}
use Rattle.block_records.specs.rules.Entry.{Entry}
use Rattle.block_records.specs.rules.Lists.{padded}
use Rattle.block_records.specs.rules.Questions.{entry_fits}
use Rattle.blocks_cache.proofs.arrays.CachedSeqnoLaws.{Indexed, Numbered, cached_leaves, change_in, compact_shards_packed, indexed_set, leaves_numbered, length_now, now_group, now_shards, on_shard_twice}
use Rattle.blocks_cache.proofs.arrays.FirstPlaceLaws.{FirstAt, Placed, placed}
use Rattle.blocks_cache.proofs.arrays.LookupLaws.{absent_looked_up, all_cached, at_group, block_looked_up, block_read, eight_groups, entries_numbered, entry_here, entry_listed, few_groups, first_index, found_group_sound, group_here, group_listed, held_is, shards_ok}
use Rattle.blocks_cache.specs.arrays.Extraction.{compact_shards, held_starting_ids, pack_extraction, still_cached, view_master}
use Rattle.blocks_cache.specs.arrays.Lookup.{block_place, cached_at, index_of, no_seqnos}
use Rattle.blocks_cache.specs.arrays.Shards.{ident_at}
use Rattle.blocks_cache.specs.layout.Cache.{pack_shard, sound_cache, view, view_shard, zero_shard_group}
use Rattle.cache_rules.proofs.CountLaws.{blocks_cached, records, same_end, shards_blocks}
use Rattle.cache_rules.proofs.ExtractionLaws.{ends}
use Rattle.cache_rules.proofs.SoundLaws.{shard_parts}
use Rattle.cache_rules.specs.Extraction.{Walk, extraction_of, first_walk, previous_cached, previous_in, starting_ids, take_found, take_id, take_one, take_times}
use Rattle.cache_rules.specs.Model.{ShardModel, block_under, on_shard, refresh_shard, remove_block}
use Rattle.cache_rules.specs.Refusals.{sound_shard_model}
use Rattle.std.specs.Cmp.{second_so}

-- ===== lists =====

-- one turn more, at the end
times_more : (k m : ℕ) (w : Walk) → take_times (suc k) m w ≡ take_one m (take_times k m w)
times_more zero m w = refl
times_more (suc k) m w = times_more k m (take_one m w)

-- as many ids wait more as are written after the first n
queued : (l : List BlockId) (n head : ℕ) (ps : List BlockId) → n ≤ length l → head ≤ n →
    drop head (take (n + length ps) (take n l ++ (ps ++ drop (n + length ps) l))) ≡ drop head (take n l) ++ ps
queued l n head ps h k =
    let p : List BlockId = take n l in
    let e : length p ≡ n = length-take-le n l h in
    let f : n + length ps ≡ length p + length ps = omega arith in
    ap (λ (j : ℕ). drop head (take j (p ++ (ps ++ drop (n + length ps) l)))) f
    ∙ ap (drop head) (take-append-add p (ps ++ drop (n + length ps) l) (length ps) ∙ ap (λ (s : List BlockId). p ++ s) (take_at ps (drop (n + length ps) l) (length ps) refl))
    ∙ drop-append-le head p ps (omega arith)

module _ {A B : Type 0} (f : A → B) where
  each_snoc : (xs : List A) (x : A) → map f (xs ++ (x ∷ [])) ≡ map f xs ++ (f x ∷ [])
  each_snoc [] x = refl
  each_snoc (y ∷ ys) x = ap (λ (r : List B). f y ∷ r) (each_snoc ys x)

  each_reverse : (xs : List A) → map f (reverse xs) ≡ reverse (map f xs)
  each_reverse [] = refl
  each_reverse (x ∷ xs) =
      ap (map f) (reverse_onto xs x []) ∙ each_snoc (reverse xs) x ∙ ap (λ (r : List B). r ++ (f x ∷ [])) (each_reverse xs)
      ∙ sym (reverse_onto (map f xs) (f x) [])

-- ===== a block leaves its group =====

-- the entry at a place has left
abbrev pub without_seqno : ℕ → GroupSeqnos → GroupSeqnos
without_seqno at g = record { entries = set g.entries at None; mark = g.mark }

-- the group's mark refreshed by a seqno
abbrev pub refresh_seqnos : ℕ → GroupSeqnos → GroupSeqnos
refresh_seqnos n g = record { entries = g.entries; mark = refreshed_mark n g.mark }

-- ===== where the loop stands =====

-- the rule before the first id is taken
abbrev pub first_of : Cache → MasterBlock → Walk
first_of c b = first_walk (starting_ids c.zerostate_mc_seqno (view_master b)) (view c).shards

pub record Run (c : Cache) (b : MasterBlock) (idents : List ShardIdent) (seqnos : List GroupSeqnos) (ids : List BlockId) (count : ℕ) (blocks : List BlockCacheEntry)
    (joined head : ℕ) : Type 0 where
  -- what the rule has made of as many ids
  pub walk : Walk
  pub turns : walk ≡ take_times head b.entry.block_id.seqno (first_of c b)
  pub taken : walk.taken ≡ head
  pub index : Indexed idents seqnos (view c).shards
  pub now : walk.shards ≡ now_shards seqnos (view c).shards
  pub groups : length seqnos ≡ 8
  pub places : length ids ≡ 264
  pub passed : head ≤ count
  pub waits : drop head (take count ids) ≡ walk.waiting
  -- the starting ids and the previous ids of all joined, at most two of each
  pub started : length (starting_ids c.zerostate_mc_seqno (view_master b)) ≤ 8
  pub counted : count ≡ length (starting_ids c.zerostate_mc_seqno (view_master b)) + previous_in walk.joined
  pub pairs : previous_in walk.joined ≤ 2 * length walk.joined
  pub laid : blocks ≡ padded 128 zero_entry (map pack_entry (reverse walk.joined))
  pub joins : joined ≡ length walk.joined
  -- which all have places
  pub few_ids : count ≤ 264
  pub few_blocks : joined ≤ 128

module _ (c : Cache) (ok : sound_cache c ≡ true) (b : MasterBlock) where
  abbrev gs : List ShardModel
  gs = (view c).shards

  abbrev mc_seqno : ℕ
  mc_seqno = b.entry.block_id.seqno

  abbrev starting : List BlockId
  starting = starting_ids c.zerostate_mc_seqno (view_master b)

  pub run_starts : (index : BlockIndex) (waiting : Listed BlockId 264) (joined : Listed BlockCacheEntry 128) (z : BlockCacheEntry) →
      index ≡ index_of c.shards → waiting ≡ packed 264 zero_id (held_starting_ids c.zerostate_mc_seqno b.tops) →
      waiting.count ≤ 8 → joined ≡ packed 128 z [] → z ≡ zero_entry → Run c b index.idents index.seqnos waiting.items waiting.count joined.items joined.count 0
  run_starts index waiting joined z i l few e ez =
      let n : waiting.count ≡ length starting = ap (λ (x : Listed BlockId 264). x.count) l in
      let m : joined.count ≡ 0 = ap (λ (x : Listed BlockCacheEntry 128). x.count) e in
      record {
        walk = first_of c b;
        turns = refl;
        taken = refl;
        index = subst (λ (x : BlockIndex). Indexed x.idents x.seqnos gs) (sym i) (first_index c ok);
        now = sym (ap (λ (x : BlockIndex). now_shards x.seqnos gs) i ∙ all_cached c ok);
        groups = ap (λ (x : BlockIndex). length x.seqnos) i ∙ eight_groups c ok;
        places = ap (λ (x : Listed BlockId 264). length x.items) l ∙ length_padded 264 zero_id starting (omega arith);
        passed = omega arith;
        waits = ap listed l ∙ take_padded 264 zero_id starting;
        started = omega arith;
        counted = n ∙ omega arith;
        pairs = omega arith;
        laid = ap (λ (x : Listed BlockCacheEntry 128). x.items) e ∙ ap (λ (x : BlockCacheEntry). padded 128 x []) ez;
        joins = m;
        few_ids = omega arith;
        few_blocks = omega arith;
      }

  -- ===== the bounds =====

  all_few : blocks_cached gs ≤ 128
  all_few = omega (arith, shards_blocks gs (shards_ok c ok).each_ok, few_groups c ok)

  module _ {idents : List ShardIdent} {seqnos : List GroupSeqnos} {ids : List BlockId} {count : ℕ} {blocks : List BlockCacheEntry} {joined head : ℕ}
      (r : Run c b idents seqnos ids count blocks joined head) where
    abbrev w : Walk
    w = r.walk

    -- ===== one turn =====

    module _ (h : head < count) (d : BlockId) where
      abbrev id : BlockId
      id = get_or ids head d

      abbrev rest : List BlockId
      rest = drop (head + 1) (take count ids)

      next_waits : w.waiting ≡ id ∷ rest
      next_waits =
          let l : length (take count ids) ≡ count = length-take-le count ids (omega (arith, r.few_ids, r.places)) in
          sym r.waits ∙ drop_next (take count ids) head d (omega arith) ∙ ap (λ (x : BlockId). x ∷ rest) (get_or-take count ids head d h)

      next_turns : (o : Option Entry) → block_under w.shards (key id) ≡ o → take_found mc_seqno id rest w o ≡ take_times (head + 1) mc_seqno (first_of c b)
      next_turns o e =
          let p : suc head ≡ head + 1 = omega arith in
          ap (take_found mc_seqno id rest w) (sym e) ∙ ap (take_id mc_seqno w) (sym next_waits) ∙ ap (take_one mc_seqno) r.turns ∙ sym (times_more head mc_seqno (first_of c b))
          ∙ ap (λ (k : ℕ). take_times k mc_seqno (first_of c b)) p

      -- nothing is cached under its shard and seqno
      none_turn : block_under w.shards (key id) ≡ None → Run c b idents seqnos ids count blocks joined (head + 1)
      none_turn e =
          record {
            walk = take_found mc_seqno id rest w None;
            turns = next_turns None e;
            taken = omega (arith, r.taken);
            index = r.index;
            now = r.now;
            groups = r.groups;
            places = r.places;
            passed = omega arith;
            waits = refl;
            started = r.started;
            counted = r.counted;
            pairs = r.pairs;
            laid = r.laid;
            joins = r.joins;
            few_ids = r.few_ids;
            few_blocks = r.few_blocks;
          }

      shards_now : (gs' : List ShardModel) → w.shards ≡ gs' → block_under w.shards (key id) ≡ block_under gs' (key id)
      shards_now gs' e = ap (λ (x : List ShardModel). block_under x (key id)) e

      -- the group of its shard has place k
      module _ (k : ℕ) (f : position (ident_at (id_shard id)) idents ≡ Some k) where
        abbrev g : ShardModel
        g = get_or gs k (view_shard zero_shard_group)

        abbrev s : GroupSeqnos
        s = get_or seqnos k no_seqnos

        -- .. and its entry place j in it
        module _ (j : ℕ) (q : position (cached_at id.seqno) s.entries ≡ Some j) where
          there : FirstAt (cached_at id.seqno) s.entries j
          there = entry_here c ok id idents seqnos r.index k f j q

          standing : k < length gs
          standing = group_listed c ok id idents seqnos r.index k f j q

          abbrev es : List Entry
          es = g.group.entries

          numbered : Numbered s.entries es
          numbered = entries_numbered c ok id idents seqnos r.index k f j q

          abbrev block_here : Entry
          block_here = get_or es j (view_shard_entry zero_entry)

          found : block_under w.shards (key id) ≡ Some block_here
          found = shards_now (now_shards seqnos gs) r.now ∙ block_looked_up c ok id idents seqnos r.index k f j q

          group_ok : sound_shard_model g ≡ true
          group_ok = found_group_sound c ok id idents seqnos r.index k f j q

          fits : fits_in (of_shard g.shard) block_here ≡ true
          fits = all_get_d (fits_in (of_shard g.shard)) es j (view_shard_entry zero_entry) (shard_parts g group_ok).fit (entry_listed c ok id idents seqnos r.index k f j q)

          two : length block_here.previous ≤ 2
          two = previous_two block_here (second_so (of_shard g.shard (id_shard block_here.id)) (entry_fits block_here) fits)

          gone_now : (h : GroupModel → GroupModel) (s' : GroupSeqnos) → now_group s' g.group ≡ h (now_group s g.group) → on_shard (id_shard id) h w.shards ≡ now_shards (set seqnos k s') gs
          gone_now h s' v =
              ap (on_shard (id_shard id) h) r.now
              ∙ change_in id h s' idents seqnos gs k no_seqnos (view_shard zero_shard_group) (group_here c ok id idents seqnos r.index k f) r.index (shards_ok c ok).order standing v

          index_now : (s' : GroupSeqnos) → s'.entries ≡ set s.entries j None → Indexed idents (set seqnos k s') gs
          index_now s' v =
              indexed_set id idents seqnos gs k s' (view_shard zero_shard_group) r.index standing
              (subst (λ (x : List (Option ℕ)). Numbered x es) (sym v) (leaves_numbered id.seqno s.entries es j there numbered))

          entries_now : still_cached (set s.entries j None) es ≡ without id.seqno (still_cached s.entries es)
          entries_now = sym (cached_leaves id.seqno s.entries es j there numbered (shard_parts g group_ok).order)

          -- naming another master, it is dropped
          foreign_turn : (block_here.reference ≡ mc_seqno → ⊥) → (s' : GroupSeqnos) → s' ≡ without_seqno j s → Run c b idents (set seqnos k s') ids count blocks joined (head + 1)
          foreign_turn v s' p =
              let t : eqb block_here.reference mc_seqno ≡ false = ne_eqb block_here.reference mc_seqno v in
              let a : take_found mc_seqno id rest w (Some block_here) ≡ record { waiting = rest; shards = remove_block (key id) w.shards; joined = w.joined; taken = suc w.taken } = rw t in
              record {
                walk = record { waiting = rest; shards = remove_block (key id) w.shards; joined = w.joined; taken = suc w.taken };
                turns = sym a ∙ next_turns (Some block_here) found;
                taken = omega (arith, r.taken);
                index = index_now s' (ap (λ (x : GroupSeqnos). x.entries) p);
                now =
                    gone_now (λ (x : GroupModel). with_entries (without id.seqno x.entries) x) (without_seqno j s)
                    (λ i. record { entries = entries_now i; mark = s.mark; boundary = g.group.boundary })
                    ∙ ap (λ (x : GroupSeqnos). now_shards (set seqnos k x) gs) (sym p);
                groups = length-set seqnos k s' ∙ r.groups;
                places = r.places;
                passed = omega arith;
                waits = refl;
                started = r.started;
                counted = r.counted;
                pairs = r.pairs;
                laid = r.laid;
                joins = r.joins;
                few_ids = r.few_ids;
                few_blocks = r.few_blocks;
              }

          -- naming M, it joins
          module _ (v : block_here.reference ≡ mc_seqno) where
            abbrev w' : Walk
            w' = record { waiting = rest ++ block_here.previous; shards = refresh_shard (key id) (remove_block (key id) w.shards); joined = block_here ∷ w.joined; taken = suc w.taken }

            joined_turns : w' ≡ take_times (head + 1) mc_seqno (first_of c b)
            joined_turns =
                let t : eqb block_here.reference mc_seqno ≡ true = eq-eqb block_here.reference mc_seqno v in
                let a : take_found mc_seqno id rest w (Some block_here) ≡ w' = rw t in
                sym a ∙ next_turns (Some block_here) found

            at_block : joined < 128
            at_block = omega (arith, r.joins, ap (λ (x : Walk). length x.joined) joined_turns, records (head + 1) mc_seqno starting gs, all_few)

            at_ids : count + 2 ≤ 264
            at_ids = omega (arith, at_block, r.joins, r.counted, r.pairs, r.started)

            join_turn : (s' : GroupSeqnos) → s' ≡ refresh_seqnos id.seqno (without_seqno j s) → (y : BlockCacheEntry) → y ≡ pack_entry block_here → (ps : List BlockId) → ps ≡ listed y.prev_ids → (ids' : List BlockId) →
                ids' ≡ take count ids ++ (ps ++ drop (count + length ps) ids) →
                Run c b idents (set seqnos k s') ids' (count + length ps) (set blocks joined y) (joined + 1) (head + 1)
            join_turn s' o y u ps p ids' v =
                let js = w.joined in
                let t : ps ≡ block_here.previous = p ∙ ap (λ (x : BlockCacheEntry). listed x.prev_ids) u ∙ take_padded 2 zero_id block_here.previous in
                let n : length ps ≡ length block_here.previous = ap length t in
                let f : length (take count ids) ≡ count = length-take-le count ids (omega (arith, r.few_ids, r.places)) in
                let l : length (map pack_entry (reverse js)) ≡ joined = length-map (reverse js) pack_entry ∙ length-reverse js ∙ sym r.joins in
                record {
                  walk = w';
                  turns = joined_turns;
                  taken = omega (arith, r.taken);
                  index = index_now s' (ap (λ (x : GroupSeqnos). x.entries) o);
                  now =
                      on_shard_twice (id_shard id) (λ (x : GroupModel). with_entries (without id.seqno x.entries) x) (refresh id.seqno) w.shards
                      ∙ gone_now (λ (x : GroupModel). refresh id.seqno (with_entries (without id.seqno x.entries) x)) (refresh_seqnos id.seqno (without_seqno j s))
                      (λ i. record { entries = entries_now i; mark = refreshed_mark id.seqno s.mark; boundary = g.group.boundary })
                      ∙ ap (λ (x : GroupSeqnos). now_shards (set seqnos k x) gs) (sym o);
                  groups = length-set seqnos k s' ∙ r.groups;
                  places =
                      ap length v
                      ∙ omega (
                        arith,
                        f,
                        at_ids,
                        two,
                        r.places,
                        length-append (take count ids) (ps ++ drop (count + length ps) ids),
                        length-append ps (drop (count + length ps) ids),
                        length-drop (count + length ps) ids,
                      );
                  passed = omega arith;
                  waits =
                      ap (λ (x : List BlockId). drop (head + 1) (take (count + length ps) x)) v
                      ∙ queued ids count (head + 1) ps (omega (arith, r.few_ids, r.places)) (omega arith) ∙ ap (λ (x : List BlockId). rest ++ x) t;
                  started = r.started;
                  counted = omega (arith, r.counted);
                  pairs = omega (arith, r.pairs, two);
                  laid =
                      ap (λ (x : List BlockCacheEntry). set x joined y) r.laid ∙ ap (set (padded 128 zero_entry (map pack_entry (reverse js))) joined) u
                      ∙ set_padded 128 zero_entry (map pack_entry (reverse js)) joined (pack_entry block_here) l at_block
                      ∙ ap (padded 128 zero_entry) (sym (each_snoc pack_entry (reverse js) block_here) ∙ ap (map pack_entry) (sym (reverse_onto js block_here [])));
                  joins = omega (arith, r.joins);
                  few_ids = omega (arith, at_ids, two);
                  few_blocks = omega (arith, at_block);
                }

      -- the lookup finds nothing
      pub absent_turn : block_place id idents seqnos ≡ None → Run c b idents seqnos ids count blocks joined (head + 1)
      absent_turn e = none_turn (shards_now (now_shards seqnos gs) r.now ∙ absent_looked_up c ok id idents seqnos r.index e)

      -- ===== the lookup finds a block; y, x and u are what the arrays would give past their ends =====

      module _ (k j : ℕ) (p : block_place id idents seqnos ≡ Some (k, j)) where
        q : Placed id idents seqnos k j
        q = placed id idents seqnos k j p

        group_within : k < 8
        group_within = at_group c ok id idents seqnos r.index k q.group j q.entry

        abbrev read : ShardGroup → BlockCacheEntry → BlockCacheEntry
        read y x = get_or (get_or c.shards.items k y).group.entries.items j x

        old_is : (u : GroupSeqnos) → get_or seqnos k u ≡ get_or seqnos k no_seqnos
        old_is u = get_or_default seqnos k u no_seqnos (omega (arith, group_within, r.groups))

        same_reference : (y : ShardGroup) (x : BlockCacheEntry) → (read y x).ref_by_mc_seqno ≡ (block_here k q.group j q.entry).reference
        same_reference y x = ap (λ (n : BlockCacheEntry). n.ref_by_mc_seqno) (block_read c ok id idents seqnos r.index k q.group j q.entry y x)

        pub read_foreign : (y : ShardGroup) (x : BlockCacheEntry) (u : GroupSeqnos) → ((read y x).ref_by_mc_seqno ≡ mc_seqno → ⊥) → (s' : GroupSeqnos) → s' ≡ without_seqno j (get_or seqnos k u) →
            Run c b idents (set seqnos k s') ids count blocks joined (head + 1)
        read_foreign y x u v s' n =
            foreign_turn k q.group j q.entry (λ z. v (same_reference y x ∙ z)) s' (n ∙ ap (without_seqno j) (old_is u))

        module _ (y : ShardGroup) (x : BlockCacheEntry) (v : (read y x).ref_by_mc_seqno ≡ mc_seqno) where
          names : (block_here k q.group j q.entry).reference ≡ mc_seqno
          names = sym (same_reference y x) ∙ v

          pub room_for_block : joined < 128
          room_for_block = at_block k q.group j q.entry names

          pub room_for_ids : count + 2 ≤ 264
          room_for_ids = at_ids k q.group j q.entry names

          pub few_previous : (ps : List BlockId) → ps ≡ listed (read y x).prev_ids → length ps ≤ 2
          few_previous ps p =
              omega (
                arith,
                two k q.group j q.entry,
                ap length p,
                ap (λ (n : BlockCacheEntry). length (listed n.prev_ids)) (block_read c ok id idents seqnos r.index k q.group j q.entry y x),
                ap length (take_padded 2 zero_id (block_here k q.group j q.entry).previous),
              )

          pub read_joins : (u : GroupSeqnos) (s' : GroupSeqnos) → s' ≡ refresh_seqnos id.seqno (without_seqno j (get_or seqnos k u)) →
              (ps : List BlockId) → ps ≡ listed (read y x).prev_ids → (ids' : List BlockId) → ids' ≡ take count ids ++ (ps ++ drop (count + length ps) ids) →
              Run c b idents (set seqnos k s') ids' (count + length ps) (set blocks joined (read y x)) (joined + 1) (head + 1)
          read_joins u s' n ps p ids' v =
              join_turn k q.group j q.entry names s' (n ∙ ap (λ (z : GroupSeqnos). refresh_seqnos id.seqno (without_seqno j z)) (old_is u)) (read y x)
              (block_read c ok id idents seqnos r.index k q.group j q.entry y x) ps p ids' v

    -- ===== the end =====

    nothing_waits : count ≤ head → w.waiting ≡ []
    nothing_waits h =
        sym r.waits ∙ drop_of_length-le (take count ids) {i = head} (omega (arith, length-take-le count ids (omega (arith, r.few_ids, r.places))))

    pub run_ends : count ≤ head → (shards : Shards) (subgraph : List BlockCacheEntry) → shards.count ≡ c.shards.count → shards.items ≡ compact_shards c.shards.items seqnos →
        subgraph ≡ reverse (take joined blocks) ++ drop joined blocks →
        ◌≡◌ {A = Extraction} (record { shards = shards; blocks = record { count = joined; items = subgraph }; taken = head }) (pack_extraction (extraction_of (view_master b) (view c)))
    unfolding pack_extraction padded
    run_ends h shards subgraph n a e =
        let k = length starting + previous_cached gs in
        let f : w ≡ extraction_of (view_master b) (view c) =
        r.turns
        ∙ same_end head k mc_seqno (first_of c b) (ap (λ (x : Walk). x.waiting) (sym r.turns) ∙ nothing_waits h) (ends k mc_seqno (first_of c b) (le_refl k)) in
        let js = w.joined in
        let q : length (map pack_shard (now_shards seqnos gs)) ≡ length (map pack_shard gs) =
        length-map (now_shards seqnos gs) pack_shard ∙ length_now idents seqnos gs r.index ∙ sym (length-map gs pack_shard) in
        let p : shards.items ≡ padded 8 zero_shard_group (map pack_shard w.shards) =
        a ∙ ap (λ (x : List ShardGroup). compact_shards x seqnos) (held_is c ok)
        ∙ compact_shards_packed (8 - length (map pack_shard gs)) idents seqnos gs r.index (omega (arith, r.groups, few_groups c ok, length-map gs pack_shard))
        ∙ ap (λ (x : ℕ). map pack_shard (now_shards seqnos gs) ++ replicate (8 - x) zero_shard_group) (sym q)
        ∙ ap (λ (x : List ShardModel). padded 8 zero_shard_group (map pack_shard x)) (sym r.now) in
        let m : shards.count ≡ length (map pack_shard w.shards) =
        n ∙ ap (λ (x : Cache). x.shards.count) (sound_cache_packed c ok).0 ∙ sym q ∙ ap (λ (x : List ShardModel). length (map pack_shard x)) (sym r.now) in
        let es = map pack_entry (reverse js) in
        let l : length es ≡ joined = length-map (reverse js) pack_entry ∙ length-reverse js ∙ sym r.joins in
        let t : reverse es ≡ map pack_entry js = sym (each_reverse pack_entry (reverse js)) ∙ ap (map pack_entry) (reverse-reverse js) in
        let i' : joined ≡ length (map pack_entry js) = omega (arith, r.joins, length-map js pack_entry) in
        let o : subgraph ≡ padded 128 zero_entry (map pack_entry js) =
        e ∙ ap (λ (x : List BlockCacheEntry). reverse (take joined x) ++ drop joined x) r.laid
        ∙ ap₂ (λ (x y : List BlockCacheEntry). reverse x ++ y) (take_at es (replicate (128 - length es) zero_entry) joined l) (drop_at es (replicate (128 - length es) zero_entry) joined l)
        ∙ ap (λ (x : List BlockCacheEntry). x ++ replicate (128 - length es) zero_entry) t
        ∙ ap (λ (x : ℕ). map pack_entry js ++ replicate (128 - x) zero_entry) (l ∙ i') in
        let z : ◌≡◌ {A = Extraction} (record { shards = shards; blocks = record { count = joined; items = subgraph }; taken = head }) (pack_extraction w) =
        λ i. record { shards = record { count = m i; items = p i }; blocks = record { count = i' i; items = o i }; taken = sym r.taken i } in
        z ∙ ap pack_extraction f
