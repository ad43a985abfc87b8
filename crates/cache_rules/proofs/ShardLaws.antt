-- The shard groups: what is found after a change, and which changes leave them sound.
-- Assumes nothing.
use Rattle.std.specs.List.{list_all}
use Rattle.std.specs.Prelude.{Option, None, Some, cond, is_some, filter}
use mathlib.Core.Bool.{Bool, ◌||◌, false, not, true}
use mathlib.Core.List.{List, [], ◌∷◌}
use mathlib.Core.Logic.{◌≢◌}
use mathlib.Core.Path.{◌∙◌, ◌≡◌, refl, sym}
use Prim.Native.Nat.{◌+◌, ◌≤◌, ℕ}
use native.Mathlib.Nat.{le_refl}
use native.Mathlib.Omega.{arith}
use borrow.Author.Tests.{le-leb, leb-true, ltb-true}
use lib.Dec.{leb, ltb}
use lib.ListN.{length}
use Rattle.block_records.specs.declared.block_id.BlockIdShort.{BlockIdShort}
use Rattle.block_records.specs.declared.block_id.ShardIdent.{ShardIdent}
use Rattle.block_records.proofs.rules.BlockIdLaws.{key_path, same_shard_false, same_shard_true, shard_order}
use Rattle.block_records.proofs.rules.Finds.{find_member, find_passes}
use Rattle.block_records.proofs.rules.ListLaws.{by_order, every_each, every_member, every_put, length_put, length_put_same, rising_each, rising_put}
use Rattle.block_records.proofs.rules.Tests.{and_intro, on, some_not_none}
use Rattle.block_records.specs.rules.BlockId.{is_masterchain, key_shard, less_shard, same_shard}
use Rattle.block_records.specs.rules.Entry.{Entry}
use Rattle.block_records.specs.rules.Lists.{rising}
use Rattle.blocks_group.proofs.rules.GroupLaws.{at_without_other, at_without_same}
use Rattle.blocks_group.specs.rules.Group.{GroupModel, at_seqno, has_seqno, refresh, with_entries, without}
use Rattle.blocks_group.specs.rules.Soundness.{of_shard, sound_group_model}
use Rattle.cache_rules.specs.Extraction.{previous_cached, previous_in}
use Rattle.cache_rules.specs.Model.{ShardModel, block_under, find_shard, group_in, group_of, is_shard, on_shard, refresh_shard, remove_block, set_group, shard_before}
use Rattle.cache_rules.specs.Refusals.{sound_shard_model}
use Rattle.std.proofs.lemmas.List.{length-map}
use Rattle.std.specs.Cmp.{first_so, second_so}

-- ===== what is found after a change of one shard's group =====

module _ (f : GroupModel → GroupModel) where
  lookup_on_other : (s : ShardIdent) (gs : List ShardModel) (k : BlockIdShort) → s ≢ key_shard k → block_under (on_shard s f gs) k ≡ block_under gs k
  lookup_on_other s [] k d = refl
  lookup_on_other s (g ∷ gs) k d =
      on (same_shard g.shard s)
      (λ e. rw e
      (on (same_shard g.shard (key_shard k))
      (λ h. absurd (d (sym (same_shard_true g.shard s e) ∙ same_shard_true g.shard (key_shard k) h)))
      (λ h. rw h (lookup_on_other s gs k d))))
      (λ e. rw e
      (on (same_shard g.shard (key_shard k)) (λ h. rw h) (λ h. rw h (lookup_on_other s gs k d))))

  -- a change that leaves what is found at the seqno
  lookup_on_same : (gs : List ShardModel) (k : BlockIdShort) →
      ((g : GroupModel) → at_seqno k.seqno (f g).entries ≡ at_seqno k.seqno g.entries) → block_under (on_shard (key_shard k) f gs) k ≡ block_under gs k
  lookup_on_same [] k same = refl
  lookup_on_same (g ∷ gs) k same =
      on (same_shard g.shard (key_shard k)) (λ e. rw (e, e) (same g.group)) (λ e. rw (e, e) (lookup_on_same gs k same))

  -- a change after which nothing is found at the seqno
  lookup_on_none : (gs : List ShardModel) (k : BlockIdShort) →
      ((g : GroupModel) → at_seqno k.seqno (f g).entries ≡ None) → block_under (on_shard (key_shard k) f gs) k ≡ None
  lookup_on_none [] k same = refl
  lookup_on_none (g ∷ gs) k same =
      on (same_shard g.shard (key_shard k)) (λ e. rw (e, e) (same g.group)) (λ e. rw (e, e) (lookup_on_none gs k same))

-- ===== a block leaves; a mark is refreshed =====

abbrev remove_at : ℕ → GroupModel → GroupModel
remove_at n g = with_entries (without n g.entries) g

pub lookup_removed : (k : BlockIdShort) (gs : List ShardModel) → block_under (remove_block k gs) k ≡ None
lookup_removed k gs = lookup_on_none (remove_at k.seqno) gs k (λ g. at_without_same k.seqno g.entries)

-- the same shard under another seqno
removed_at : (s : ShardIdent) (n : ℕ) (gs : List ShardModel) (k : BlockIdShort) → key_shard k ≡ s → k.seqno ≢ n → block_under (on_shard s (remove_at n) gs) k ≡ block_under gs k
removed_at s n gs k e d = rw (← e) (lookup_on_same (remove_at n) gs k (λ g. at_without_other n k.seqno g.entries d))

pub lookup_others : (k : BlockIdShort) (gs : List ShardModel) (j : BlockIdShort) → j ≢ k → block_under (remove_block k gs) j ≡ block_under gs j
lookup_others k gs j d =
    on (same_shard (key_shard j) (key_shard k))
    (λ s. removed_at (key_shard k) k.seqno gs j (same_shard_true (key_shard j) (key_shard k) s) (λ n. d (key_path j k (same_shard_true (key_shard j) (key_shard k) s) n)))
    (λ s. lookup_on_other (remove_at k.seqno) (key_shard k) gs j (λ e. same_shard_false (key_shard j) (key_shard k) s (sym e)))

refreshed_same : (s : ShardIdent) (n : ℕ) (gs : List ShardModel) (j : BlockIdShort) → key_shard j ≡ s → block_under (on_shard s (refresh n) gs) j ≡ block_under gs j
refreshed_same s n gs j e = rw (← e) (lookup_on_same (refresh n) gs j (λ g. refl))

pub lookup_refreshed : (k : BlockIdShort) (gs : List ShardModel) (j : BlockIdShort) → block_under (refresh_shard k gs) j ≡ block_under gs j
lookup_refreshed k gs j =
    on (same_shard (key_shard j) (key_shard k))
    (λ s. refreshed_same (key_shard k) k.seqno gs j (same_shard_true (key_shard j) (key_shard k) s))
    (λ s. lookup_on_other (refresh k.seqno) (key_shard k) gs j (λ e. same_shard_false (key_shard j) (key_shard k) s (sym e)))

-- ===== the previous ids in the cache =====

previous_select : (p : Entry → Bool) (es : List Entry) → previous_in (filter p es) ≤ previous_in es
previous_select p [] = le_refl 0
previous_select p (e ∷ es) = let ih = previous_select p es in on (p e) (λ h. rw h (omega arith)) (λ h. rw h (omega arith))

previous_without : (n : ℕ) (es : List Entry) {e : Entry} → at_seqno n es ≡ Some e → previous_in (without n es) + length e.previous ≤ previous_in es
previous_without n [] h = some_not_none h refl
previous_without n (x ∷ es) {e} h =
    on (has_seqno n x)
    (λ t. let q : Some x ≡ Some e = rw t at h in let r : e ≡ x = cc in
    rw (t, r) (omega (arith, previous_select (λ (e : Entry). not (has_seqno n e)) es)))
    (λ t. let ih = previous_without n es {e = e} (rw t at h) in rw t (omega arith))

previous_on : (s : ShardIdent) (f : GroupModel → GroupModel) (gs : List ShardModel) → ((g : GroupModel) → previous_in (f g).entries ≤ previous_in g.entries) →
    previous_cached (on_shard s f gs) ≤ previous_cached gs
previous_on s f [] le = le_refl 0
previous_on s f (g ∷ gs) le =
    let ih = previous_on s f gs le in on (same_shard g.shard s) (λ t. rw t (omega (arith, le g.group))) (λ t. rw t (omega arith))

pub previous_removed : (k : BlockIdShort) (gs : List ShardModel) {e : Entry} → block_under gs k ≡ Some e → previous_cached (remove_block k gs) + length e.previous ≤ previous_cached gs
previous_removed k [] h = some_not_none h refl
previous_removed k (g ∷ gs) {e} h =
    on (same_shard g.shard (key_shard k))
    (λ t. rw t (omega (
      arith,
      previous_without k.seqno g.group.entries {e = e} (rw t at h),
      previous_on (key_shard k) (remove_at k.seqno) gs (λ x. previous_select (λ (e : Entry). not (has_seqno k.seqno e)) x.entries),
    )))
    (λ t. let ih = previous_removed k gs {e = e} (rw t at h) in rw t (omega arith))

pub previous_refreshed : (k : BlockIdShort) (gs : List ShardModel) → previous_cached (refresh_shard k gs) ≤ previous_cached gs
previous_refreshed k gs = previous_on (key_shard k) (refresh k.seqno) gs (λ g. le_refl _)

-- ===== what leaves the shard groups sound =====

pub record ShardsOk (gs : List ShardModel) : Type 0 where
  pub count : leb (length gs) 8 ≡ true
  pub order : rising shard_before gs ≡ true
  pub each_ok : list_all sound_shard_model gs ≡ true

change_one : ShardIdent → (GroupModel → GroupModel) → ShardModel → ShardModel
change_one s f g = cond (is_shard s g) (record { shard = g.shard; group = f g.group }) g

changed_shard : (s : ShardIdent) (f : GroupModel → GroupModel) (g : ShardModel) → (change_one s f g).shard ≡ g.shard
unfolding change_one
changed_shard s f g = on (same_shard g.shard s) (λ t. rw t) (λ t. rw t)

-- a change that leaves each group of the shard sound
pub shards_change : (s : ShardIdent) (f : GroupModel → GroupModel) (gs : List ShardModel) →
    ((g : GroupModel) → sound_group_model (of_shard s) g ≡ true → sound_group_model (of_shard s) (f g) ≡ true) → ShardsOk gs → ShardsOk (on_shard s f gs)
unfolding change_one
shards_change s f gs keeps h =
    record {
      count = rw (length-map gs (change_one s f)) h.count;
      order = rising_each (change_one s f) shard_before shard_before gs (λ x y l. rw (changed_shard s f x, changed_shard s f y) l) h.order;
      each_ok = every_each (change_one s f) sound_shard_model sound_shard_model gs one h.each_ok;
    }
  where
    one : (x : ShardModel) → sound_shard_model x ≡ true → sound_shard_model (change_one s f x) ≡ true
    one x ok =
        on (same_shard x.shard s)
        (λ t. let e = same_shard_true x.shard s t in
        let side = first_so (not (is_masterchain x.shard)) (sound_group_model (of_shard x.shard) x.group) ok in
        let whole = second_so (not (is_masterchain x.shard)) (sound_group_model (of_shard x.shard) x.group) ok in
        let k : sound_group_model (of_shard x.shard) (f x.group) ≡ true = rw e (keeps x.group (rw e at whole)) in
        rw t (and_intro side k))
        (λ t. rw t ok)

-- the group of a shard is sound, where there is none too
shard_found : (s : ShardIdent) (o : Option ShardModel) (gs : List ShardModel) → list_all sound_shard_model gs ≡ true → find_shard s gs ≡ o → sound_group_model (of_shard s) (group_in o) ≡ true
shard_found s None gs h f = refl
shard_found s (Some x) gs h f =
    let e : x.shard ≡ s = same_shard_true x.shard s (find_passes (is_shard s) gs f) in
    let ok = every_member sound_shard_model gs h (find_member (is_shard s) gs f) in
    let w : sound_group_model (of_shard x.shard) x.group ≡ true = second_so (not (is_masterchain x.shard)) (sound_group_model (of_shard x.shard) x.group) ok in
    rw e at w

pub group_of_sound : (s : ShardIdent) (gs : List ShardModel) → ShardsOk gs → sound_group_model (of_shard s) (group_of s gs) ≡ true
group_of_sound s gs h = shard_found s (find_shard s gs) gs h.each_ok refl

abbrev model_shard : ShardModel → ShardIdent
model_shard g = g.shard

-- a shard's group set: at its place if there is one, else there must be room
set_length : (s : ShardIdent) (g : GroupModel) (o : Option ShardModel) (gs : List ShardModel) → ShardsOk gs → find_shard s gs ≡ o → is_some o || ltb (length gs) 8 ≡ true →
    length (set_group s g gs) ≤ 8
set_length s g None gs h f room = omega (arith, length_put shard_before (record { shard = s; group = g }) gs, ltb-true (length gs) 8 room)
set_length s g (Some x) gs h f room =
    let e : x.shard ≡ s = same_shard_true x.shard s (find_passes (is_shard s) gs f) in
    let a : less_shard s x.shard ≡ false = rw e (shard_order.irrefl s) in
    let b : less_shard x.shard s ≡ false = rw e (shard_order.irrefl s) in
    omega (
      arith,
      leb-true (length gs) 8 h.count,
      length_put_same shard_before (by_order shard_order model_shard) (record { shard = s; group = g }) x gs h.order (find_member (is_shard s) gs f) a b,
    )

pub shards_set : (s : ShardIdent) (g : GroupModel) (gs : List ShardModel) → ShardsOk gs → is_masterchain s ≡ false → sound_group_model (of_shard s) g ≡ true →
    is_some (find_shard s gs) || ltb (length gs) 8 ≡ true → ShardsOk (set_group s g gs)
shards_set s g gs h side ok room =
    record {
      count = le-leb (length (set_group s g gs)) 8 (set_length s g (find_shard s gs) gs h refl room);
      order = rising_put shard_before (by_order shard_order model_shard) (record { shard = s; group = g }) gs h.order;
      each_ok = every_put sound_shard_model shard_before (record { shard = s; group = g }) gs (rw side ok) h.each_ok;
    }
