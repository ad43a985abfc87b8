-- Seqnos beside the entries instead of removals: what is found among those still cached, and what one less makes of the groups.
-- Assumes nothing.
use Rattle.block_records.specs.layout.Listed.{packed}
use Rattle.blocks_group.specs.layout.Block.{shard_parts}
use Rattle.blocks_group.specs.layout.Group.{held_empty_group, pack_group}
use Rattle.blocks_group.specs.rules.Group.{GroupModel, at_seqno, entry_before, has_seqno, without}
use Rattle.std.specs.List.{list_all}
use Rattle.std.specs.Prelude.{None, Option, Some, is_some, map}
use Rattle.std.proofs.Common.{◌≡◌, ℕ, zero, suc, ◌+◌, ◌-◌, ◌<◌, Bool, true, false, not, eqb, ◌⊎◌, List, [], ◌∷◌, ◌++◌, length, get_or, set, replicate, sym, refl, ap, ◌∙◌, subst, ap₂, inl, inr, le_of_suc-le-suc, arith, ltb-true, eq-eqb, ne_eqb, eqb-true}
use Rattle.block_records.specs.declared.block_id.BlockId.{BlockId}
use Rattle.block_records.specs.declared.block_id.ShardIdent.{ShardIdent}
use Rattle.block_records.specs.declared.entry.BlockCacheEntry.{BlockCacheEntry}
use Rattle.blocks_cache.specs.declared.cache.ShardGroup.{ShardGroup}
use Rattle.blocks_cache.specs.declared.lookup.GroupSeqnos.{GroupSeqnos}
use Rattle.block_records.proofs.arrays.LoopLaws.{padded_nil}
use Rattle.block_records.proofs.rules.BlockIdLaws.{same_shard_true, shard_order}
use Rattle.block_records.proofs.rules.ListLaws.{every_weaken}
use Rattle.block_records.proofs.rules.Tests.{absurd_eq, on}
use Rattle.block_records.specs.layout.Entry.{pack_entry}
use Rattle.block_records.specs.layout.Zeros.{zero_entry}
use Rattle.block_records.specs.rules.BlockId.{id_shard, key, less_shard, same_shard}
use Rattle.block_records.specs.rules.Entry.{Entry}
use Rattle.block_records.specs.rules.Lists.{padded, rising}
use Rattle.blocks_cache.proofs.arrays.FirstPlaceLaws.{FirstAt, NonePasses}
use Rattle.blocks_cache.specs.arrays.Extraction.{compact_shard, compact_shards, still_cached}
use Rattle.blocks_cache.specs.arrays.Lookup.{cached_at, group_seqnos, no_seqnos, seqno_here, shard_seqnos}
use Rattle.blocks_cache.specs.arrays.Shards.{ident_at, shard_ident}
use Rattle.blocks_cache.specs.layout.Cache.{pack_shard, zero_shard_group}
use Rattle.cache_rules.specs.Model.{ShardModel, block_under, on_shard, shard_before}
use Rattle.std.proofs.lemmas.Bool.{false_from_ne_true}
use Rattle.block_records.proofs.layout.EntryLaws.{take_padded}
use Rattle.std.specs.Cmp.{first_so, second_so}

-- ===== what the groups are now =====

abbrev pub now_group : GroupSeqnos → GroupModel → GroupModel
now_group s g = record { entries = still_cached s.entries g.entries; mark = s.mark; boundary = g.boundary }

abbrev pub now_shard : GroupSeqnos → ShardModel → ShardModel
now_shard s g = record { shard = g.shard; group = now_group s g.group }

abbrev pub now_shards : List GroupSeqnos → List ShardModel → List ShardModel
now_shards [] gs = []
now_shards (s ∷ ss) [] = []
now_shards (s ∷ ss) (g ∷ gs) = now_shard s g ∷ now_shards ss gs

-- no seqno, or that of the entry
abbrev IsSeqno : Option ℕ → Entry → Type 0
IsSeqno None e = Unit {0}
IsSeqno (Some n) e = n ≡ e.id.seqno

-- the seqnos of those still cached stand beside the entries; none after them
abbrev pub Numbered : List (Option ℕ) → List Entry → Type 0
Numbered [] [] = Unit {0}
Numbered [] (e ∷ es) = ⊥
Numbered (x ∷ xs) [] = (x ≡ None) × Numbered xs []
Numbered (x ∷ xs) (e ∷ es) = IsSeqno x e × Numbered xs es

-- the shards and seqnos stand beside the groups; after them there are none
abbrev pub Indexed : List ShardIdent → List GroupSeqnos → List ShardModel → Type 0
Indexed [] [] [] = Unit {0}
Indexed [] [] (g ∷ gs) = ⊥
Indexed [] (s ∷ ss) gs = ⊥
Indexed (i ∷ is) [] gs = ⊥
Indexed (i ∷ is) (s ∷ ss) [] = (s ≡ no_seqnos) × Indexed is ss []
Indexed (i ∷ is) (s ∷ ss) (g ∷ gs) = (i ≡ g.shard) × Numbered s.entries g.group.entries × Indexed is ss gs

-- ===== the entries of one group =====

module _ (n : ℕ) where
  hit : (x : Option ℕ) → cached_at n x ≡ true → x ≡ Some n
  hit None e = absurd_eq e
  hit (Some m) e = ap Some (eqb-true m n e)

  -- no seqno is hit where there is none
  no_hit : (x : Option ℕ) → x ≡ None → cached_at n x ≡ true → ⊥
  no_hit None w e = absurd_eq e
  no_hit (Some m) w e = absurd_eq (sym (ap is_some w))

  -- the one that is hit is the entry's
  hit_seqno : (x : Option ℕ) (e : Entry) → cached_at n x ≡ true → IsSeqno x e → e.id.seqno ≡ n
  hit_seqno None e h w = absurd_eq h
  hit_seqno (Some m) e h w = sym w ∙ eqb-true m n h

  -- one that is not hit is another's
  miss : (m : ℕ) (e : Entry) → m ≡ e.id.seqno → eqb m n ≡ false → eqb e.id.seqno n ≡ false
  miss m e s f = sym (ap (λ (k : ℕ). eqb k n) s) ∙ f

  pub none_cached : (xs : List (Option ℕ)) (es : List Entry) → NonePasses (cached_at n) xs → Numbered xs es → at_seqno n (still_cached xs es) ≡ None
  none_cached [] es f w = refl
  none_cached (x ∷ xs) [] f w = refl
  none_cached (None ∷ xs) (e ∷ es) f w = none_cached xs es f.1 w.1
  none_cached (Some m ∷ xs) (e ∷ es) f w = rw (miss m e w.0 f.0) (none_cached xs es f.1 w.1)

  pub cached_within : (xs : List (Option ℕ)) (es : List Entry) (j : ℕ) → FirstAt (cached_at n) xs j → Numbered xs es → j < length es
  cached_within [] es j f w = absurd f
  cached_within (x ∷ xs) [] zero f w = absurd (no_hit x w.0 f)
  cached_within (x ∷ xs) [] (suc j) f w = absurd (omega (arith, cached_within xs [] j f.1 w.1))
  cached_within (x ∷ xs) (e ∷ es) zero f w = omega arith
  cached_within (x ∷ xs) (e ∷ es) (suc j) f w = let ih = cached_within xs es j f.1 w.1 in omega arith

  pub found_cached : (xs : List (Option ℕ)) (es : List Entry) (j : ℕ) (d : Entry) → FirstAt (cached_at n) xs j → Numbered xs es → at_seqno n (still_cached xs es) ≡ Some (get_or es j d)
  found_cached [] es j d f w = absurd f
  found_cached (x ∷ xs) [] j d f w = absurd (omega (arith, cached_within (x ∷ xs) [] j f w))
  found_cached (x ∷ xs) (e ∷ es) zero d f w = rw (hit x f, eq-eqb e.id.seqno n (hit_seqno x e f w.0))
  found_cached (None ∷ xs) (e ∷ es) (suc j) d f w = found_cached xs es j d f.1 w.1
  found_cached (Some m ∷ xs) (e ∷ es) (suc j) d f w = rw (miss m e w.0 f.0) (found_cached xs es j d f.1 w.1)

  -- where no entry has the seqno none goes
  keeps_all : (xs : List (Option ℕ)) (es : List Entry) → list_all (λ (e : Entry). not (has_seqno n e)) es ≡ true → without n (still_cached xs es) ≡ still_cached xs es
  keeps_all [] es a = refl
  keeps_all (x ∷ xs) [] a = refl
  keeps_all (x ∷ xs) (e ∷ es) a =
      let k : not (has_seqno n e) ≡ true = first_so (not (has_seqno n e)) (list_all (λ (e : Entry). not (has_seqno n e)) es) a in
      let ih = keeps_all xs es (second_so (not (has_seqno n e)) (list_all (λ (e : Entry). not (has_seqno n e)) es) a) in
      on (is_some x) (λ c. rw (c, k, ih)) (λ c. rw c ih)

  -- the others have seqnos above
  others_above : (e : Entry) (es : List Entry) → e.id.seqno ≡ n → list_all (entry_before e) es ≡ true → list_all (λ (y : Entry). not (has_seqno n y)) es ≡ true
  others_above e es q a =
      every_weaken (entry_before e) (λ (y : Entry). not (has_seqno n y)) es
      (λ y l. let k = ltb-true e.id.seqno y.id.seqno l in rw (ne_eqb y.id.seqno n (λ z. omega arith))) a

  pub cached_leaves : (xs : List (Option ℕ)) (es : List Entry) (j : ℕ) → FirstAt (cached_at n) xs j → Numbered xs es → rising entry_before es ≡ true →
      without n (still_cached xs es) ≡ still_cached (set xs j None) es
  cached_leaves [] es j f w r = absurd f
  cached_leaves (x ∷ xs) [] j f w r = absurd (omega (arith, cached_within (x ∷ xs) [] j f w))
  cached_leaves (x ∷ xs) (e ∷ es) zero f w r =
      let q = hit_seqno x e f w.0 in
      rw (hit x f, eq-eqb e.id.seqno n q) (keeps_all xs es (others_above e es q (first_so (list_all (entry_before e) es) (rising entry_before es) r)))
  cached_leaves (None ∷ xs) (e ∷ es) (suc j) f w r =
      cached_leaves xs es j f.1 w.1 (second_so (list_all (entry_before e) es) (rising entry_before es) r)
  cached_leaves (Some m ∷ xs) (e ∷ es) (suc j) f w r =
      rw (miss m e w.0 f.0)
      (ap (λ (l : List Entry). e ∷ l) (cached_leaves xs es j f.1 w.1 (second_so (list_all (entry_before e) es) (rising entry_before es) r)))

  pub leaves_numbered : (xs : List (Option ℕ)) (es : List Entry) (j : ℕ) → FirstAt (cached_at n) xs j → Numbered xs es → Numbered (set xs j None) es
  leaves_numbered [] es j f w = absurd f
  leaves_numbered (x ∷ xs) [] j f w = absurd (omega (arith, cached_within (x ∷ xs) [] j f w))
  leaves_numbered (x ∷ xs) (e ∷ es) zero f w = (tt, w.1)
  leaves_numbered (x ∷ xs) (e ∷ es) (suc j) f w = (w.0, leaves_numbered xs es j f.1 w.1)

-- ===== the groups =====

module _ (i : BlockId) where
  abbrev own : ShardIdent → Bool
  own = ident_at (id_shard i)

  same_here : (x : ShardIdent) (g : ShardModel) (b : Bool) → x ≡ g.shard → own x ≡ b → same_shard g.shard (id_shard i) ≡ b
  same_here x g b e f = sym (ap (λ (y : ShardIdent). same_shard y (id_shard i)) e) ∙ f

  -- no group of the shard
  pub no_shard_cached : (is : List ShardIdent) (ss : List GroupSeqnos) (gs : List ShardModel) → NonePasses own is → Indexed is ss gs → block_under (now_shards ss gs) (key i) ≡ None
  no_shard_cached [] [] [] f w = refl
  no_shard_cached [] [] (g ∷ gs) f w = absurd w
  no_shard_cached [] (s ∷ ss) gs f w = absurd w
  no_shard_cached (x ∷ is) [] gs f w = absurd w
  no_shard_cached (x ∷ is) (s ∷ ss) [] f w = refl
  no_shard_cached (x ∷ is) (s ∷ ss) (g ∷ gs) f w = rw (same_here x g false w.0 f.0) (no_shard_cached is ss gs f.1 w.2)

  -- the place found is that of a group, or past them all
  pub listed_or_empty : (is : List ShardIdent) (ss : List GroupSeqnos) (gs : List ShardModel) (k : ℕ) (d : GroupSeqnos) → FirstAt own is k → Indexed is ss gs →
      (k < length gs) ⊎ ((get_or ss k d ≡ no_seqnos) × (block_under (now_shards ss gs) (key i) ≡ None))
  listed_or_empty [] ss gs k d f w = absurd f
  listed_or_empty (x ∷ is) [] gs k d f w = absurd w
  listed_or_empty (x ∷ is) (s ∷ ss) [] zero d f w = inr (w.0, refl)
  listed_or_empty (x ∷ is) (s ∷ ss) [] (suc k) d f w = past (listed_or_empty is ss [] k d f.1 w.1)
    where
      past : (k < 0) ⊎ ((get_or ss k d ≡ no_seqnos) × (block_under (now_shards ss []) (key i) ≡ None)) →
          (suc k < 0) ⊎ ((get_or ss k d ≡ no_seqnos) × (block_under (now_shards (s ∷ ss) []) (key i) ≡ None))
      past (inl h) = absurd (omega arith)
      past (inr e) = inr (e.0, refl)
  listed_or_empty (x ∷ is) (s ∷ ss) (g ∷ gs) zero d f w = inl (omega arith)
  listed_or_empty (x ∷ is) (s ∷ ss) (g ∷ gs) (suc k) d f w = further (listed_or_empty is ss gs k d f.1 w.2)
    where
      further : (k < length gs) ⊎ ((get_or ss k d ≡ no_seqnos) × (block_under (now_shards ss gs) (key i) ≡ None)) →
          (suc k < length (g ∷ gs)) ⊎ ((get_or ss k d ≡ no_seqnos) × (block_under (now_shards (s ∷ ss) (g ∷ gs)) (key i) ≡ None))
      further (inl h) = inl (omega arith)
      further (inr e) = inr (e.0, rw (same_here x g false w.0 f.0) e.1)

  -- what is found is found in its group
  pub lookup_in : (is : List ShardIdent) (ss : List GroupSeqnos) (gs : List ShardModel) (k : ℕ) (d : GroupSeqnos) (h : ShardModel) → FirstAt own is k → Indexed is ss gs → k < length gs →
      block_under (now_shards ss gs) (key i) ≡ at_seqno i.seqno (still_cached (get_or ss k d).entries (get_or gs k h).group.entries)
  lookup_in [] ss gs k d h f w l = absurd f
  lookup_in (x ∷ is) [] gs k d h f w l = absurd w
  lookup_in (x ∷ is) (s ∷ ss) [] k d h f w l = absurd (omega arith)
  lookup_in (x ∷ is) (s ∷ ss) (g ∷ gs) zero d h f w l = rw (same_here x g true w.0 f)
  lookup_in (x ∷ is) (s ∷ ss) (g ∷ gs) (suc k) d h f w l = rw (same_here x g false w.0 f.0) (lookup_in is ss gs k d h f.1 w.2 (le_of_suc-le-suc l))

  pub numbered_in : (is : List ShardIdent) (ss : List GroupSeqnos) (gs : List ShardModel) (k : ℕ) (d : GroupSeqnos) (h : ShardModel) → Indexed is ss gs → k < length gs →
      Numbered (get_or ss k d).entries (get_or gs k h).group.entries
  numbered_in [] [] [] k d h w l = absurd (omega arith)
  numbered_in [] [] (g ∷ gs) k d h w l = absurd w
  numbered_in [] (s ∷ ss) gs k d h w l = absurd w
  numbered_in (x ∷ is) [] gs k d h w l = absurd w
  numbered_in (x ∷ is) (s ∷ ss) [] k d h w l = absurd (omega arith)
  numbered_in (x ∷ is) (s ∷ ss) (g ∷ gs) zero d h w l = w.1
  numbered_in (x ∷ is) (s ∷ ss) (g ∷ gs) (suc k) d h w l = numbered_in is ss gs k d h w.2 (le_of_suc-le-suc l)

  pub indexed_set : (is : List ShardIdent) (ss : List GroupSeqnos) (gs : List ShardModel) (k : ℕ) (s' : GroupSeqnos) (h : ShardModel) → Indexed is ss gs → k < length gs →
      Numbered s'.entries (get_or gs k h).group.entries → Indexed is (set ss k s') gs
  indexed_set [] [] [] k s' h w l v = absurd (omega arith)
  indexed_set [] [] (g ∷ gs) k s' h w l v = absurd w
  indexed_set [] (s ∷ ss) gs k s' h w l v = absurd w
  indexed_set (x ∷ is) [] gs k s' h w l v = absurd w
  indexed_set (x ∷ is) (s ∷ ss) [] k s' h w l v = absurd (omega arith)
  indexed_set (x ∷ is) (s ∷ ss) (g ∷ gs) zero s' h w l v = (w.0, v, w.2)
  indexed_set (x ∷ is) (s ∷ ss) (g ∷ gs) (suc k) s' h w l v = (w.0, w.1, indexed_set is ss gs k s' h w.2 (le_of_suc-le-suc l) v)

  -- groups of later shards stay
  later_stay : (f : GroupModel → GroupModel) (ss : List GroupSeqnos) (gs : List ShardModel) (g : ShardModel) → g.shard ≡ id_shard i → list_all (shard_before g) gs ≡ true →
      on_shard (id_shard i) f (now_shards ss gs) ≡ now_shards ss gs
  later_stay f [] gs g e a = refl
  later_stay f (s ∷ ss) [] g e a = refl
  later_stay f (s ∷ ss) (x ∷ gs) g e a =
      let l : less_shard g.shard x.shard ≡ true = first_so (shard_before g x) (list_all (shard_before g) gs) a in
      let n : same_shard x.shard (id_shard i) ≡ false =
      false_from_ne_true (same_shard x.shard (id_shard i)) (λ t. absurd_eq (sym (shard_order.irrefl g.shard) ∙ ap (less_shard g.shard) (e ∙ sym (same_shard_true x.shard (id_shard i) t)) ∙ l)) in
      rw n (ap (λ (r : List ShardModel). now_shard s x ∷ r) (later_stay f ss gs g e (second_so (shard_before g x) (list_all (shard_before g) gs) a)))

  -- a change of the seqnos is a change of the group
  pub change_in : (f : GroupModel → GroupModel) (s' : GroupSeqnos) (is : List ShardIdent) (ss : List GroupSeqnos) (gs : List ShardModel) (k : ℕ) (d : GroupSeqnos) (h : ShardModel) →
      FirstAt own is k → Indexed is ss gs → rising shard_before gs ≡ true → k < length gs → now_group s' (get_or gs k h).group ≡ f (now_group (get_or ss k d) (get_or gs k h).group) →
      on_shard (id_shard i) f (now_shards ss gs) ≡ now_shards (set ss k s') gs
  change_in f s' [] ss gs k d h a w r l v = absurd a
  change_in f s' (x ∷ is) [] gs k d h a w r l v = absurd w
  change_in f s' (x ∷ is) (s ∷ ss) [] k d h a w r l v = absurd (omega arith)
  change_in f s' (x ∷ is) (s ∷ ss) (g ∷ gs) zero d h a w r l v =
      let t = same_here x g true w.0 a in
      let e : g.shard ≡ id_shard i = same_shard_true g.shard (id_shard i) t in
      rw t
      (ap₂ (λ (y : GroupModel) (r : List ShardModel). record { shard = g.shard; group = y } ∷ r) (sym v)
      (later_stay f ss gs g e (first_so (list_all (shard_before g) gs) (rising shard_before gs) r)))
  change_in f s' (x ∷ is) (s ∷ ss) (g ∷ gs) (suc k) d h a w r l v =
      rw (same_here x g false w.0 a.0)
      (ap (λ (r : List ShardModel). now_shard s g ∷ r)
      (change_in f s' is ss gs k d h a.1 w.2 (second_so (list_all (shard_before g) gs) (rising shard_before gs) r) (le_of_suc-le-suc l) v))

-- two changes of one group are one
pub on_shard_twice : (s : ShardIdent) (f g : GroupModel → GroupModel) (gs : List ShardModel) → on_shard s g (on_shard s f gs) ≡ on_shard s (λ (x : GroupModel). g (f x)) gs
on_shard_twice s f g [] = refl
on_shard_twice s f g (x ∷ gs) = let ih = on_shard_twice s f g gs in on (same_shard x.shard s) (λ t. rw (t, t, ih)) (λ t. rw (t, t, ih))

-- where there is no group nothing is cached
none_here : (n m j : ℕ) → FirstAt (cached_at n) (replicate m None) j → ⊥
none_here n zero j a = a
none_here n (suc m) zero a = absurd_eq a
none_here n (suc m) (suc j) a = none_here n m j a.1

pub none_in_empty : (n j : ℕ) → FirstAt (cached_at n) no_seqnos.entries j → ⊥
unfolding no_seqnos
none_in_empty n j a = none_here n 16 j a

-- ===== before the first turn =====

none_numbered : (m : ℕ) → Numbered (replicate m None) []
none_numbered zero = tt
none_numbered (suc m) = (refl, none_numbered m)

first_numbered : (m : ℕ) (es : List Entry) → Numbered (map seqno_here (map pack_entry es) ++ replicate m None) es
first_numbered m [] = none_numbered m
first_numbered m (e ∷ es) = (refl, first_numbered m es)

no_entries : {A : Type 0} (xs : List (Option ℕ)) → still_cached {A = A} xs [] ≡ []
no_entries [] = refl
no_entries (x ∷ xs) = refl

first_cached : (m : ℕ) (es : List Entry) → still_cached (map seqno_here (map pack_entry es) ++ replicate m None) es ≡ es
first_cached m [] = no_entries (replicate m None)
first_cached m (e ∷ es) = ap (λ (r : List Entry). e ∷ r) (first_cached m es)

first_seqnos : (g : GroupModel) → (group_seqnos (pack_group shard_parts g)).entries ≡ map seqno_here (map pack_entry g.entries) ++ replicate (16 - length (map seqno_here (map pack_entry g.entries))) None
unfolding padded
first_seqnos g = ap (λ (bs : List BlockCacheEntry). map seqno_here bs ++ replicate (16 - length (map seqno_here bs)) None) (take_padded 16 zero_entry (map pack_entry g.entries))

abbrev spare : GroupModel → ℕ
spare g = 16 - length (map seqno_here (map pack_entry g.entries))

zero_seqnos : shard_seqnos zero_shard_group ≡ no_seqnos
unfolding zero_shard_group held_empty_group no_seqnos
zero_seqnos = let e : padded {A = Option ℕ} 16 None [] ≡ replicate 16 None = padded_nil 16 None in λ i. record { entries = e i; mark = None }

no_groups_indexed : (m : ℕ) → Indexed (map shard_ident (replicate m zero_shard_group)) (map shard_seqnos (replicate m zero_shard_group)) []
no_groups_indexed zero = tt
no_groups_indexed (suc m) = (zero_seqnos, no_groups_indexed m)

pub first_indexed : (m : ℕ) (gs : List ShardModel) →
    Indexed (map shard_ident (map pack_shard gs ++ replicate m zero_shard_group)) (map shard_seqnos (map pack_shard gs ++ replicate m zero_shard_group)) gs
first_indexed m [] = no_groups_indexed m
first_indexed m (g ∷ gs) =
    (refl, subst (λ (xs : List (Option ℕ)). Numbered xs g.group.entries) (sym (first_seqnos g.group)) (first_numbered (spare g.group) g.group.entries), first_indexed m gs)

no_groups : (ss : List GroupSeqnos) → now_shards ss [] ≡ []
no_groups [] = refl
no_groups (s ∷ ss) = refl

pub first_now : (rest : List ShardGroup) (gs : List ShardModel) → now_shards (map shard_seqnos (map pack_shard gs ++ rest)) gs ≡ gs
first_now rest [] = no_groups (map shard_seqnos rest)
first_now rest (g ∷ gs) =
    let a = ap (λ (xs : List (Option ℕ)). still_cached xs g.group.entries) (first_seqnos g.group) ∙ first_cached (spare g.group) g.group.entries in
    let c : now_shard (shard_seqnos (pack_shard g)) g ≡ g = λ i. record { shard = g.shard; group = record { entries = a i; mark = g.group.mark; boundary = g.group.boundary } } in
    ap₂ (λ (x : ShardModel) (xs : List ShardModel). x ∷ xs) c (first_now rest gs)

-- ===== after the last turn =====

-- places past the entries are not cached
compact_none : (xs : List (Option ℕ)) (bs : List BlockCacheEntry) → Numbered xs [] → still_cached xs bs ≡ []
compact_none [] bs w = refl
compact_none (x ∷ xs) [] w = refl
compact_none (x ∷ xs) (b ∷ bs) w = rw w.0 (compact_none xs bs w.1)

compact_packed : (xs : List (Option ℕ)) (es : List Entry) (bs : List BlockCacheEntry) → Numbered xs es → still_cached xs (map pack_entry es ++ bs) ≡ map pack_entry (still_cached xs es)
compact_packed xs [] bs w = compact_none xs bs w ∙ ap (map pack_entry) (sym (no_entries xs))
compact_packed [] (e ∷ es) bs w = absurd w
compact_packed (None ∷ xs) (e ∷ es) bs w = compact_packed xs es bs w.1
compact_packed (Some n ∷ xs) (e ∷ es) bs w = ap (λ (r : List BlockCacheEntry). pack_entry e ∷ r) (compact_packed xs es bs w.1)

compact_shard_packed : (s : GroupSeqnos) (g : ShardModel) → Numbered s.entries g.group.entries → compact_shard (pack_shard g) s ≡ pack_shard (now_shard s g)
unfolding padded
compact_shard_packed s g w =
    let es = g.group.entries in
    let a : still_cached s.entries (pack_group shard_parts g.group).entries.items ≡ map pack_entry (still_cached s.entries es) =
    compact_packed s.entries es (replicate (16 - length (map pack_entry es)) zero_entry) w in
    λ i. record { shard = g.shard; group = record { mark = s.mark; boundary = g.group.boundary; entries = packed 16 zero_entry (a i) } }

compact_zero : compact_shard zero_shard_group no_seqnos ≡ zero_shard_group
unfolding zero_shard_group held_empty_group no_seqnos padded
compact_zero = refl

compact_empty : (is : List ShardIdent) (ss : List GroupSeqnos) → Indexed is ss [] → compact_shards (replicate (length ss) zero_shard_group) ss ≡ replicate (length ss) zero_shard_group
compact_empty [] [] w = refl
compact_empty [] (s ∷ ss) w = absurd w
compact_empty (x ∷ is) [] w = absurd w
compact_empty (x ∷ is) (s ∷ ss) w = ap₂ (λ (y : ShardGroup) (r : List ShardGroup). y ∷ r) (ap (compact_shard zero_shard_group) w.0 ∙ compact_zero) (compact_empty is ss w.1)

-- the groups moved together are those that are now, packed
pub compact_shards_packed : (m : ℕ) (is : List ShardIdent) (ss : List GroupSeqnos) (gs : List ShardModel) → Indexed is ss gs → length ss ≡ length gs + m →
    compact_shards (map pack_shard gs ++ replicate m zero_shard_group) ss ≡ map pack_shard (now_shards ss gs) ++ replicate m zero_shard_group
compact_shards_packed m is ss [] w l =
    let e : length ss ≡ m = omega arith in
    ap (λ (k : ℕ). compact_shards (replicate k zero_shard_group) ss) (sym e) ∙ compact_empty is ss w ∙ ap (λ (k : ℕ). replicate k zero_shard_group) e
    ∙ ap (λ (x : List ShardModel). map pack_shard x ++ replicate m zero_shard_group) (sym (no_groups ss))
compact_shards_packed m [] [] (g ∷ gs) w l = absurd w
compact_shards_packed m [] (s ∷ ss) (g ∷ gs) w l = absurd w
compact_shards_packed m (x ∷ is) [] (g ∷ gs) w l = absurd w
compact_shards_packed m (x ∷ is) (s ∷ ss) (g ∷ gs) w l =
    ap₂ (λ (y : ShardGroup) (r : List ShardGroup). y ∷ r) (compact_shard_packed s g w.1) (compact_shards_packed m is ss gs w.2 (omega arith))

pub length_now : (is : List ShardIdent) (ss : List GroupSeqnos) (gs : List ShardModel) → Indexed is ss gs → length (now_shards ss gs) ≡ length gs
length_now is ss [] w = ap length (no_groups ss)
length_now [] [] (g ∷ gs) w = absurd w
length_now [] (s ∷ ss) (g ∷ gs) w = absurd w
length_now (x ∷ is) [] (g ∷ gs) w = absurd w
length_now (x ∷ is) (s ∷ ss) (g ∷ gs) w = ap suc (length_now is ss gs w.2)
