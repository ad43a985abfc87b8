-- One group: what a change leaves sound, what stands at a seqno, and that a shard's sound group has no top items.
-- Assumes nothing.
use Rattle.std.specs.List.{list_all}
use Rattle.std.specs.Prelude.{Option, None, Some, is_some, filter}
use mathlib.Core.Bool.{Bool, ◌||◌, false, not, true}
use mathlib.Core.List.Memᴰ
use mathlib.Core.List.{List, Memᴰ, [], ◌∷◌}
use mathlib.Core.Logic.{◌↔◌, ◌≢◌, ◌⊎◌, inl, inr}
use mathlib.Core.Path.{◌∙◌, ◌≡◌, refl, sym}
use Prim.Native.Nat.{◌<◌, ◌≤◌, ℕ}
use native.Mathlib.Omega.{arith}
use borrow.Author.Tests.{eq-eqb, eqb-false, eqb-true, le-leb, le-ltb, leb-true, ltb-true, ne_eqb}
use lib.Dec.{eqb, leb, ltb}
use lib.ListN.{length}
use Rattle.block_records.specs.declared.block_id.BlockIdShort.{BlockIdShort}
use Rattle.block_records.specs.declared.block_id.ShardIdent.{ShardIdent}
use Rattle.block_records.specs.declared.store_records.BlockCandidate.{BlockCandidate}
use Rattle.block_records.specs.declared.store_records.ReceivedBlock.{ReceivedBlock}
use Rattle.block_records.specs.declared.top_block.TopBlock.{TopBlock}
use Rattle.block_records.proofs.rules.BlockIdLaws.{same_shard_true}
use Rattle.block_records.proofs.rules.Finds.{find_member, find_passes, find_select_none, find_select_same, member_select, select_member}
use Rattle.block_records.proofs.rules.ListLaws.{by_number, every_member, every_put, every_select, length_put, length_put_same, length_select, rising_put, rising_select}
use Rattle.block_records.proofs.rules.Tests.{and_intro, clash, on}
use Rattle.block_records.specs.rules.BlockId.{id_shard, is_masterchain, key_shard, same_id, same_shard}
use Rattle.block_records.specs.rules.Entry.{Entry, fresh_collated, fresh_received}
use Rattle.block_records.specs.rules.Lists.{put, rising}
use Rattle.block_records.specs.rules.Questions.{entry_fits}
use Rattle.blocks_group.specs.rules.Group.{GroupModel, at_seqno, changed_entries, entry_before, has_seqno, store_collated_at, store_received_at, with_boundary, with_entries, without}
use Rattle.blocks_group.specs.rules.Soundness.{boundary_in, fits_in, of_shard, sound_group_model}
use Rattle.std.proofs.lemmas.Bool.{not-true}
use Rattle.std.specs.Cmp.{first_so, second_so}

pub record GroupParts (p : ShardIdent → Bool) (g : GroupModel) : Type 0 where
  pub count : leb (length g.entries) 16 ≡ true
  pub order : rising entry_before g.entries ≡ true
  pub fit : list_all (fits_in p) g.entries ≡ true
  pub bound : boundary_in p g.boundary ≡ true

pub group_parts : (p : ShardIdent → Bool) (g : GroupModel) → sound_group_model p g ≡ true → GroupParts p g
group_parts p g h = record { count = search first_so; order = search (first_so, second_so); fit = search (first_so, second_so); bound = search (first_so, second_so) }

pub group_whole : (p : ShardIdent → Bool) (g : GroupModel) → GroupParts p g → sound_group_model p g ≡ true
group_whole p g h = and_intro h.count (and_intro h.order (and_intro h.fit h.bound))

abbrev pub entry_seqno : Entry → ℕ
entry_seqno e = e.id.seqno

pub group_select : (p : ShardIdent → Bool) (q : Entry → Bool) (g : GroupModel) → sound_group_model p g ≡ true → sound_group_model p (with_entries (filter q g.entries) g) ≡ true
group_select p q g h =
    let a = group_parts p g h in
    group_whole p (with_entries (filter q g.entries) g)
    (record {
      count = le-leb (length (filter q g.entries)) 16 (omega (arith, length_select q g.entries, leb-true (length g.entries) 16 a.count));
      order = rising_select entry_before q g.entries a.order;
      fit = every_select (fits_in p) q g.entries a.fit;
      bound = a.bound;
    })

pub group_put : (p : ShardIdent → Bool) (e : Entry) (g : GroupModel) → sound_group_model p g ≡ true → fits_in p e ≡ true → length (put entry_before e g.entries) ≤ 16 →
    sound_group_model p (with_entries (put entry_before e g.entries) g) ≡ true
group_put p e g h ok fits =
    let a = group_parts p g h in
    group_whole p (with_entries (put entry_before e g.entries) g)
    (record {
      count = le-leb _ _ fits;
      order = rising_put entry_before (by_number entry_seqno) e g.entries a.order;
      fit = every_put (fits_in p) entry_before e g.entries ok a.fit;
      bound = a.bound;
    })

pub group_bound : (p : ShardIdent → Bool) (k : BlockIdShort) (g : GroupModel) → p (key_shard k) ≡ true → sound_group_model p g ≡ true → sound_group_model p (with_boundary k g) ≡ true
group_bound p k g s h =
    let a = group_parts p g h in group_whole p (with_boundary k g) (record { count = a.count; order = a.order; fit = a.fit; bound = s })

-- ===== what a store puts at a seqno =====

-- an entry, if there is one, is of the group and of the seqno
abbrev pub FitsAt : (ShardIdent → Bool) → ℕ → Option Entry → Type 0
FitsAt p n None = Unit {0}
FitsAt p n (Some e) = (fits_in p e ≡ true) × (e.id.seqno ≡ n)

pub at_seqno_fits : (p : ShardIdent → Bool) (n : ℕ) (g : GroupModel) (o : Option Entry) → sound_group_model p g ≡ true → at_seqno n g.entries ≡ o → FitsAt p n o
at_seqno_fits p n g None h f = tt
at_seqno_fits p n g (Some e) h f = (
  every_member (fits_in p) g.entries (group_parts p g h).fit (find_member (has_seqno n) g.entries f),
  eqb-true e.id.seqno n (find_passes (has_seqno n) g.entries f),
)

-- an entry put at an occupied place takes no new place
put_same : (n : ℕ) (e x : Entry) (g : GroupModel) → rising entry_before g.entries ≡ true → at_seqno n g.entries ≡ Some x → e.id.seqno ≡ n →
    length (put entry_before e g.entries) ≤ length g.entries
put_same n e x g r f s =
    let t = eqb-true x.id.seqno n (find_passes (has_seqno n) g.entries f) in
    length_put_same entry_before (by_number entry_seqno) e x g.entries r (find_member (has_seqno n) g.entries f)
    (le-ltb e.id.seqno x.id.seqno (omega arith)) (le-ltb x.id.seqno e.id.seqno (omega arith))

pub put_fits : (n : ℕ) (e : Entry) (g : GroupModel) (o : Option Entry) → rising entry_before g.entries ≡ true → length g.entries ≤ 16 → at_seqno n g.entries ≡ o →
    e.id.seqno ≡ n → is_some o || ltb (length g.entries) 16 ≡ true → length (put entry_before e g.entries) ≤ 16
put_fits n e g None rises few f s room = omega (arith, length_put entry_before e g.entries, ltb-true (length g.entries) 16 room)
put_fits n e g (Some x) rises few f s room = omega (arith, put_same n e x g rises f s)

pub group_change : (p : ShardIdent → Bool) (n : ℕ) (c : Option Entry) (g : GroupModel) → sound_group_model p g ≡ true → FitsAt p n c →
    is_some (at_seqno n g.entries) || ltb (length g.entries) 16 ≡ true → sound_group_model p (with_entries (changed_entries c g.entries) g) ≡ true
group_change p n None g h f room = h
group_change p n (Some e) g h f room =
    let a = group_parts p g h in
    group_put p e g h f.0 (put_fits n e g (at_seqno n g.entries) a.order (leb-true (length g.entries) 16 a.count) refl f.1 room)

pub collated_fits : (p : ShardIdent → Bool) (c : BlockCandidate) (o : Option Entry) → p (id_shard c.block_id) ≡ true → entry_fits (fresh_collated c) ≡ true →
    FitsAt p c.block_id.seqno o → FitsAt p c.block_id.seqno (store_collated_at c o).change
collated_fits p c None s ok h = (and_intro s ok, refl)
collated_fits p c (Some e) s ok h = on (same_id e.id c.block_id) (λ t. rw t h) (λ t. rw t tt)

pub received_fits : (p : ShardIdent → Bool) (z : ℕ) (r : ReceivedBlock) (o : Option Entry) → p (id_shard r.block_id) ≡ true → entry_fits (fresh_received z r) ≡ true →
    FitsAt p r.block_id.seqno o → FitsAt p r.block_id.seqno (store_received_at z r o).change
received_fits p z r None s ok h = (and_intro s ok, refl)
received_fits p z r (Some e) s ok h = on (same_id e.id r.block_id) (λ t. rw t h) (λ t. rw t (and_intro s ok, refl))

-- ===== what stands at a seqno =====

-- in a rising group a member is what is found at its seqno
pub found_itself : (es : List Entry) {e : Entry} → rising entry_before es ≡ true → Memᴰ e es → at_seqno e.id.seqno es ≡ Some e
found_itself [] h u = absurd (Memᴰ.not-nil u)
found_itself (x ∷ es) {e} h u = by (Memᴰ.cases_cons u) (λ (v : Memᴰ e es). found_itself es (second_so (list_all (entry_before x) es) (rising entry_before es) h) v)
  where
    by : (e ≡ x) ⊎ Memᴰ e es → (Memᴰ e es → at_seqno e.id.seqno es ≡ Some e) → at_seqno e.id.seqno (x ∷ es) ≡ Some e
    by (inl s) ih = rw s (rw (eq-eqb x.id.seqno x.id.seqno refl))
    by (inr v) ih =
        let l : x.id.seqno < e.id.seqno = ltb-true x.id.seqno e.id.seqno (every_member (entry_before x) es (first_so (list_all (entry_before x) es) (rising entry_before es) h) v) in
        rw (ne_eqb x.id.seqno e.id.seqno (λ q. omega arith)) (ih v)

pub at_without_same : (n : ℕ) (es : List Entry) → at_seqno n (without n es) ≡ None
at_without_same n es = find_select_none (has_seqno n) (λ (e : Entry). not (has_seqno n e)) es (λ e h. rw h)

pub at_without_other : (n k : ℕ) (es : List Entry) → k ≢ n → at_seqno k (without n es) ≡ at_seqno k es
at_without_other n k es d =
    find_select_same (has_seqno k) (λ (e : Entry). not (has_seqno n e)) es
    (λ e h. rw (ne_eqb e.id.seqno n (λ q. d (sym (eqb-true e.id.seqno k h) ∙ q))))

pub member_without : (n : ℕ) (es : List Entry) (e : Entry) → Memᴰ e (without n es) ↔ (Memᴰ e es × (e.id.seqno ≢ n))
member_without n es e = (
  (λ u. let r = select_member (λ (x : Entry). not (has_seqno n x)) es u in (r.0, eqb-false e.id.seqno n (not-true (eqb e.id.seqno n) r.1))),
  λ r. member_select (λ (x : Entry). not (has_seqno n x)) es r.0 (rw (ne_eqb e.id.seqno n r.1)),
)

-- ===== the previous ids and the top items of sound entries =====

no_tops : (ts : List TopBlock) → eqb (length ts) 0 ≡ true → ts ≡ []
no_tops [] h = refl
no_tops (t ∷ ts) h = absurd (omega (arith, eqb-true (length (t ∷ ts)) 0 h))

or_second : (a b : Bool) → a || b ≡ true → a ≡ false → b ≡ true
or_second true b h f = clash refl f
or_second false b h f = h

-- no entry has a top item
abbrev pub NoTops : List Entry → Type 0
NoTops [] = Unit {0}
NoTops (e ∷ es) = (e.tops ≡ []) × NoTops es

-- a shard entry that fits has no top item
pub shard_no_tops : (s : ShardIdent) → is_masterchain s ≡ false → (es : List Entry) → list_all (fits_in (of_shard s)) es ≡ true → NoTops es
shard_no_tops s m [] h = tt
shard_no_tops s m (e ∷ es) h =
    let f : fits_in (of_shard s) e ≡ true = first_so (fits_in (of_shard s) e) (list_all (fits_in (of_shard s)) es) h in
    let t : same_shard (id_shard e.id) s ≡ true = first_so (same_shard (id_shard e.id) s) (entry_fits e) f in
    let g : entry_fits e ≡ true = second_so (same_shard (id_shard e.id) s) (entry_fits e) f in
    let c : is_masterchain (id_shard e.id) || eqb (length e.tops) 0 ≡ true = search (first_so, second_so) in
    let n : is_masterchain (id_shard e.id) ≡ false = rw (same_shard_true (id_shard e.id) s t) m in (
      no_tops e.tops (or_second (is_masterchain (id_shard e.id)) (eqb (length e.tops) 0) c n),
      shard_no_tops s m es (second_so (fits_in (of_shard s) e) (list_all (fits_in (of_shard s)) es) h),
    )

pub previous_two : (e : Entry) → entry_fits e ≡ true → length e.previous ≤ 2
previous_two e h = let l : leb (length e.previous) 2 ≡ true = search (first_so, second_so) in leb-true (length e.previous) 2 l

pub tops_eight : (e : Entry) → entry_fits e ≡ true → length e.tops ≤ 8
tops_eight e h = let l : leb (length e.tops) 8 ≡ true = search (first_so, second_so) in leb-true (length e.tops) 8 l
