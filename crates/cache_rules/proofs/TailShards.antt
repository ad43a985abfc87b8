-- The shards of tail rows: each is that of the id that gave it; rising rows have different ones.
-- Assumes nothing.
use Rattle.std.specs.List.{list_all, fold}
use Rattle.std.specs.Prelude.{Option, None, Some, map, is_some}
use mathlib.Core.Bool.{Bool, ◌||◌, false, not, true}
use mathlib.Core.List.Memᴰ
use mathlib.Core.List.{List, Memᴰ, [], ◌∷◌}
use mathlib.Core.Logic.{◌⊎◌, inl, inr}
use mathlib.Core.Path.{◌∙◌, ◌≡◌, ap, refl, subst, sym}
use Prim.Native.Nat.{ℕ}
use lib.Dec.{eqb}
use Rattle.block_records.specs.declared.block_id.BlockId.{BlockId}
use Rattle.block_records.specs.declared.block_id.ShardIdent.{ShardIdent}
use Rattle.block_records.proofs.rules.BlockIdLaws.{shard_order}
use Rattle.block_records.proofs.rules.Finds.{member_each}
use Rattle.block_records.proofs.rules.ListLaws.{every_member}
use Rattle.block_records.proofs.rules.Tests.{clash, on}
use Rattle.block_records.specs.rules.BlockId.{id_shard, key, less_shard}
use Rattle.block_records.specs.rules.Entry.{Entry}
use Rattle.block_records.specs.rules.Lists.{put, rising}
use Rattle.cache_rules.proofs.TailKnown.{Distinct}
use Rattle.cache_rules.proofs.TailRows.{at_shard}
use Rattle.cache_rules.specs.Calls.{TailRow}
use Rattle.cache_rules.specs.Model.{ShardModel, block_under}
use Rattle.cache_rules.specs.TailIds.{found_gives, gives, hold, hold_over, less_option, tail_before}
use Rattle.std.specs.Cmp.{first_so, second_so}

found_shard : (m : ℕ) (as_top : Bool) (i : BlockId) (o : Option Entry) {t : TailRow} → Memᴰ t (found_gives m as_top i o) →
    (t.shard ≡ id_shard i) × ((as_top ≡ true) ⊎ ((e : Entry) × (o ≡ Some e)))
found_shard m as_top i None {t} u =
    on as_top
    (λ a. (by (Memᴰ.cases_cons (rw a at u)), inl a))
    (λ a. absurd (Memᴰ.not-nil (rw a at u)))
  where
    by : (t ≡ record { shard = id_shard i; id = None; previous = i ∷ [] }) ⊎ Memᴰ t [] → t.shard ≡ id_shard i
    by (inl e) = ap (λ (r : TailRow). r.shard) e
    by (inr v) = absurd (Memᴰ.not-nil v)
found_shard m as_top i (Some e) {t} u =
    on (as_top || eqb e.reference m)
    (λ a. (by (Memᴰ.cases_cons (rw a at u)), inr (e, refl)))
    (λ a. absurd (Memᴰ.not-nil (rw a at u)))
  where
    by : (t ≡ record { shard = id_shard i; id = Some i; previous = e.previous }) ⊎ Memᴰ t [] → t.shard ≡ id_shard i
    by (inl s) = ap (λ (r : TailRow). r.shard) s
    by (inr v) = absurd (Memᴰ.not-nil v)

pub gives_shard : (gs : List ShardModel) (m : ℕ) (as_top : Bool) (i : BlockId) {t : TailRow} → Memᴰ t (gives gs m as_top i) →
    (t.shard ≡ id_shard i) × ((as_top ≡ true) ⊎ ((e : Entry) × (block_under gs (key i) ≡ Some e)))
gives_shard gs m as_top i u =
    on (eqb i.seqno 0) (λ a. absurd (Memᴰ.not-nil (rw a at u))) (λ a. found_shard m as_top i (block_under gs (key i)) (rw a at u))

-- a list of shards holds those of all rows
abbrev pub Within : List ShardIdent → List TailRow → Type 0
Within ss rows = (t : TailRow) → Memᴰ t rows → Memᴰ t.shard ss

put_member : {A : Type 0} (lt : A → A → Bool) (a : A) (xs : List A) {x : A} → Memᴰ x (put lt a xs) → (x ≡ a) ⊎ Memᴰ x xs
put_member lt a [] u = Memᴰ.cases_cons u
put_member lt a (y ∷ ys) {x} u =
    on (lt a y)
    (λ p. Memᴰ.cases_cons (rw p at u))
    (λ p. on (lt y a)
    (λ q. inner (Memᴰ.cases_cons (rw (p, q) at u)) (λ (v : Memᴰ x (put lt a ys)). put_member lt a ys v))
    (λ q. same (Memᴰ.cases_cons (rw (p, q) at u))))
  where
    inner : (x ≡ y) ⊎ Memᴰ x (put lt a ys) → (Memᴰ x (put lt a ys) → (x ≡ a) ⊎ Memᴰ x ys) → (x ≡ a) ⊎ Memᴰ x (y ∷ ys)
    inner (inl e) ih = inr (Memᴰ.head e)
    inner (inr v) ih = later (ih v)
      where
        later : (x ≡ a) ⊎ Memᴰ x ys → (x ≡ a) ⊎ Memᴰ x (y ∷ ys)
        later (inl e) = inl e
        later (inr w) = inr (Memᴰ.tail w)

    same : (x ≡ a) ⊎ Memᴰ x ys → (x ≡ a) ⊎ Memᴰ x (y ∷ ys)
    same (inl e) = inl e
    same (inr v) = inr (Memᴰ.tail v)

put_within : (ss : List ShardIdent) (t : TailRow) (rows : List TailRow) → Memᴰ t.shard ss → Within ss rows → Within ss (put tail_before t rows)
put_within ss t rows h k x u = by (put_member tail_before t rows u)
  where
    by : (x ≡ t) ⊎ Memᴰ x rows → Memᴰ x.shard ss
    by (inl e) = subst (λ (r : TailRow). Memᴰ r.shard ss) (sym e) h
    by (inr v) = k x v

held_within : (ss : List ShardIdent) (t : TailRow) (o : Option TailRow) (rows : List TailRow) → Memᴰ t.shard ss → Within ss rows → Within ss (hold_over t o rows)
held_within ss t None rows h k = put_within ss t rows h k
held_within ss t (Some r) rows h k =
    on (not (is_some r.id) || less_option t.id r.id) (λ c. rw c (put_within ss t rows h k)) (λ c. rw c k)

pub fold_within : (ss : List ShardIdent) (ts rows : List TailRow) → Within ss ts → Within ss rows → Within ss (fold hold rows ts)
fold_within ss [] rows h k = k
fold_within ss (t ∷ ts) rows h k =
    fold_within ss ts (hold rows t) (λ x u. h x (Memᴰ.tail u)) (held_within ss t (at_shard t.shard rows) rows (h t (Memᴰ.head refl)) k)

-- rising rows have different shards
unfoldable pub row_shard : TailRow → ShardIdent
row_shard t = t.shard

pub rows_distinct : (rows : List TailRow) → rising tail_before rows ≡ true → Distinct (map row_shard rows)
unfolding row_shard
rows_distinct [] h = tt
rows_distinct (t ∷ rows) h = (
  (λ s u e.
      let r = member_each row_shard rows u in
      let l : less_shard t.shard r.0.shard ≡ true = every_member (tail_before t) rows (first_so (list_all (tail_before t) rows) (rising tail_before rows) h) r.1 in
      let q : t.shard ≡ r.0.shard = sym e ∙ r.2 in
      clash l (subst (λ (z : ShardIdent). less_shard t.shard z ≡ false) q (shard_order.irrefl t.shard))),
  rows_distinct rows (second_so (list_all (tail_before t) rows) (rising tail_before rows) h),
)
