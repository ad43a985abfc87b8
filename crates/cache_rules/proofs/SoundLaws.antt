-- The parts of a sound model, by name; what is cached under a key is what is looked up.
-- Assumes nothing.
use Rattle.block_records.specs.declared.range.AppliedRange.{AppliedRange}
use Rattle.std.specs.List.{list_all}
use Rattle.std.specs.Prelude.{Option, None, Some}
use mathlib.Core.Bool.{false, not, true}
use mathlib.Core.List.{List, Memᴰ, [], ◌∷◌}
use mathlib.Core.Logic.{◌⊎◌, inl, inr}
use mathlib.Core.Path.{◌∙◌, ◌≡◌, refl, subst, sym}
use Prim.Native.Nat.{ℕ}
use borrow.Author.Tests.{eqb-true, le-leb, leb-true}
use lib.Dec.{leb}
use lib.ListN.{length}
use Rattle.block_records.specs.declared.block_id.BlockId.{BlockId}
use Rattle.block_records.specs.declared.block_id.BlockIdShort.{BlockIdShort}
use Rattle.block_records.specs.declared.block_id.ShardIdent.{ShardIdent}
use Rattle.block_records.proofs.rules.BlockIdLaws.{key_path, same_shard_refl, same_shard_true, shard_order}
use Rattle.block_records.proofs.rules.Finds.{find_member, find_passes}
use Rattle.block_records.proofs.rules.ListLaws.{every_member}
use Rattle.block_records.proofs.rules.Tests.{and_intro, clash, on, some_not_none}
use Rattle.block_records.specs.rules.BlockId.{id_shard, is_masterchain, key, key_shard, less_shard, same_shard}
use Rattle.block_records.specs.rules.Entry.{Entry}
use Rattle.block_records.specs.rules.Lists.{rising}
use Rattle.block_records.specs.rules.Questions.{entry_fits}
use Rattle.blocks_group.proofs.rules.GroupLaws.{GroupParts, found_itself, group_parts}
use Rattle.blocks_group.specs.rules.Group.{at_seqno, has_seqno}
use Rattle.blocks_group.specs.rules.Soundness.{fits_in, of_shard, sound_group_model}
use Rattle.cache_rules.proofs.ShardLaws.{ShardsOk}
use Rattle.cache_rules.specs.Claim.{Cached, RangeHolds, RangeOk}
use Rattle.cache_rules.specs.Model.{Model, ShardModel, block_under, id_before, shard_before}
use Rattle.cache_rules.specs.Refusals.{id_masterchain, sound_model, sound_range, sound_shard_model}
use Rattle.std.specs.Cmp.{first_so, second_so}

pub record IdsOk (ids : List BlockId) : Type 0 where
  pub count : leb (length ids) 32 ≡ true
  pub order : rising id_before ids ≡ true
  pub side : list_all id_masterchain ids ≡ true

-- all but the range
pub record Rest (m : Model) : Type 0 where
  pub masters : sound_group_model is_masterchain m.masters ≡ true
  pub ids : IdsOk m.ids
  pub shards : ShardsOk m.shards

pub record Parts (m : Model) : Type 0 where
  pub range : RangeOk m
  pub rest : Rest m

range_fact : (k : Option ℕ) (r : Option AppliedRange) → sound_range k r ≡ true → RangeHolds k r
range_fact k None h = tt
range_fact None (Some r) h = clash (second_so (leb r.start r.end) false h) refl
range_fact (Some k) (Some r) h =
    (leb-true r.start r.end (first_so (leb r.start r.end) (leb r.end k) h), leb-true r.end k (second_so (leb r.start r.end) (leb r.end k) h))

range_test : (k : Option ℕ) (r : Option AppliedRange) → RangeHolds k r → sound_range k r ≡ true
range_test k None h = refl
range_test None (Some r) h = absurd h.1
range_test (Some k) (Some r) h = and_intro (le-leb r.start r.end h.0) (le-leb r.end k h.1)

pub parts : (m : Model) → sound_model m ≡ true → Parts m
unfolding sound_model
parts m h =
    let r : sound_range m.masters.mark m.range ≡ true = search first_so depth 8 in
    record {
      range = range_fact m.masters.mark m.range r;
      rest = record {
        masters = search (first_so, second_so) depth 8;
        ids = record { count = search (first_so, second_so) depth 8; order = search (first_so, second_so) depth 8; side = search (first_so, second_so) depth 8 };
        shards = record { count = search (first_so, second_so) depth 9; order = search (first_so, second_so) depth 9; each_ok = search (first_so, second_so) depth 9 };
      };
    }

pub whole : (m : Model) → Parts m → sound_model m ≡ true
unfolding sound_model
whole m h =
    and_intro (range_test m.masters.mark m.range h.range) (and_intro h.rest.masters (and_intro h.rest.ids.count (and_intro h.rest.ids.order
    (and_intro h.rest.ids.side (and_intro h.rest.shards.count (and_intro h.rest.shards.order h.rest.shards.each_ok))))))

-- ===== one shard group of a sound model =====

pub shard_parts : (g : ShardModel) → sound_shard_model g ≡ true → GroupParts (of_shard g.shard) g.group
shard_parts g ok = group_parts (of_shard g.shard) g.group (second_so (not (is_masterchain g.shard)) (sound_group_model (of_shard g.shard) g.group) ok)

-- an entry in it has its shard and fits
pub shard_entry : (g : ShardModel) → sound_shard_model g ≡ true → (e : Entry) → Memᴰ e g.group.entries → (id_shard e.id ≡ g.shard) × (entry_fits e ≡ true)
shard_entry g ok e u =
    let f = every_member (fits_in (of_shard g.shard)) g.group.entries (shard_parts g ok).fit u in
    (same_shard_true (id_shard e.id) g.shard (first_so (same_shard (id_shard e.id) g.shard) (entry_fits e) f), second_so (same_shard (id_shard e.id) g.shard) (entry_fits e) f)

-- ===== what is cached under a key is what is looked up =====

pub cached_key : (m : Model) → sound_model m ≡ true → (k : BlockIdShort) (e : Entry) → Cached m k e → key e.id ≡ k
cached_key m ok k e c =
    let ok_one = every_member sound_shard_model m.shards (parts m ok).rest.shards.each_ok c.among in
    key_path (key e.id) k ((shard_entry c.group ok_one e c.inside).0 ∙ c.of_its_shard) c.at_its_seqno

pub cached_fits : (m : Model) → sound_model m ≡ true → (k : BlockIdShort) (e : Entry) → Cached m k e → entry_fits e ≡ true
cached_fits m ok k e c = (shard_entry c.group (every_member sound_shard_model m.shards (parts m ok).rest.shards.each_ok c.among) e c.inside).1

module _ (k : BlockIdShort) (e : Entry) where
  -- what is looked up is in a group of the shard
  pub looked_up : (gs : List ShardModel) → block_under gs k ≡ Some e →
      (g : ShardModel) × Memᴰ g gs × (g.shard ≡ key_shard k) × Memᴰ e g.group.entries × (e.id.seqno ≡ k.seqno)
  looked_up [] h = some_not_none h refl
  looked_up (g ∷ gs) h =
      on (same_shard g.shard (key_shard k))
      (λ s. let f : at_seqno k.seqno g.group.entries ≡ Some e = rw s at h in (
        g,
        mathlib.Core.List.Memᴰ.head refl,
        same_shard_true g.shard (key_shard k) s,
        find_member (has_seqno k.seqno) g.group.entries f,
        eqb-true e.id.seqno k.seqno (find_passes (has_seqno k.seqno) g.group.entries f),
      ))
      (λ s. let r = looked_up gs (rw s at h) in (r.0, mathlib.Core.List.Memᴰ.tail r.1, r.2, r.3, r.4))

  -- in rising groups, the group of a shard is the first found
  member_looked_up : (gs : List ShardModel) → list_all sound_shard_model gs ≡ true → rising shard_before gs ≡ true → (g : ShardModel) → Memᴰ g gs → g.shard ≡ key_shard k →
      Memᴰ e g.group.entries → e.id.seqno ≡ k.seqno → block_under gs k ≡ Some e
  member_looked_up [] ok r g u s v n = absurd (mathlib.Core.List.Memᴰ.not-nil u)
  member_looked_up (x ∷ gs) ok r g u s v n =
      by (mathlib.Core.List.Memᴰ.cases_cons u)
      (λ (w : Memᴰ g gs). member_looked_up gs (second_so (sound_shard_model x) (list_all sound_shard_model gs) ok) (second_so (list_all (shard_before x) gs) (rising shard_before gs) r) g w s v n)
    where
      by : (g ≡ x) ⊎ Memᴰ g gs → (Memᴰ g gs → block_under gs k ≡ Some e) → block_under (x ∷ gs) k ≡ Some e
      by (inl q) ih =
          let sx : x.shard ≡ key_shard k = subst (λ (y : ShardModel). y.shard ≡ key_shard k) q s in
          let vx : Memᴰ e x.group.entries = subst (λ (y : ShardModel). Memᴰ e y.group.entries) q v in
          let f : at_seqno e.id.seqno x.group.entries ≡ Some e = found_itself x.group.entries (shard_parts x (first_so (sound_shard_model x) (list_all sound_shard_model gs) ok)).order vx in
          let f' : at_seqno k.seqno x.group.entries ≡ Some e = subst (λ (y : ℕ). at_seqno y x.group.entries ≡ Some e) n f in
          let t : same_shard x.shard (key_shard k) ≡ true = subst (λ (y : ShardIdent). same_shard x.shard y ≡ true) sx (same_shard_refl x.shard) in
          rw t f'
      by (inr w) ih =
          let l : less_shard x.shard g.shard ≡ true = every_member (shard_before x) gs (first_so (list_all (shard_before x) gs) (rising shard_before gs) r) w in
          on (same_shard x.shard (key_shard k))
          (λ t. let q : x.shard ≡ g.shard = same_shard_true x.shard (key_shard k) t ∙ sym s in
          clash l (subst (λ (y : ShardIdent). less_shard x.shard y ≡ false) q (shard_order.irrefl x.shard)))
          (λ t. rw t (ih w))

pub lookup_cached : (m : Model) (k : BlockIdShort) (e : Entry) → block_under m.shards k ≡ Some e → Cached m k e
lookup_cached m k e h =
    let r = looked_up k e m.shards h in record { group = r.0; among = r.1; of_its_shard = r.2; inside = r.3; at_its_seqno = r.4 }

pub cached_lookup : (m : Model) → sound_model m ≡ true → (k : BlockIdShort) (e : Entry) → Cached m k e → block_under m.shards k ≡ Some e
cached_lookup m ok k e c =
    let p = (parts m ok).rest.shards in
    member_looked_up k e m.shards p.each_ok p.order c.group c.among c.of_its_shard c.inside c.at_its_seqno

-- a block that is looked up has the key that was asked for
pub lookup_key : (m : Model) → sound_model m ≡ true → (k : BlockIdShort) (e : Entry) → block_under m.shards k ≡ Some e → key e.id ≡ k
lookup_key m ok k e h = cached_key m ok k e (lookup_cached m k e h)
