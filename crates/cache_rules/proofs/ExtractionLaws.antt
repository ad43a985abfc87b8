-- The extraction: it ends with an empty waiting list, and what it left and joined is told by the reached ids alone.
-- Assumes nothing.
use Rattle.std.specs.Prelude.{Option, None, Some}
use mathlib.Core.List.Memᴰ
use mathlib.Core.List.{List, Memᴰ, [], ◌++◌, ◌∷◌}
use mathlib.Core.Logic.{◌≢◌, ◌⊎◌, inl, inr}
use mathlib.Core.Path.{◌∙◌, ◌≡◌, ap, refl, sym}
use Prim.Native.Nat.{◌+◌, ◌≤◌, suc, zero, ℕ}
use native.Mathlib.Omega.{arith}
use borrow.Author.Tests.{eqb-false, eqb-true}
use lib.Dec.{eqb}
use lib.ListN.{length, length-append}
use Rattle.block_records.specs.declared.block_id.BlockId.{BlockId}
use Rattle.block_records.specs.declared.block_id.BlockIdShort.{BlockIdShort}
use Rattle.block_records.proofs.rules.BlockIdLaws.{key_dec}
use Rattle.block_records.proofs.rules.Tests.{on, some_not_none}
use Rattle.block_records.specs.rules.BlockId.{key}
use Rattle.block_records.specs.rules.Entry.{Entry}
use Rattle.cache_rules.proofs.ShardLaws.{lookup_others, lookup_refreshed, lookup_removed, previous_refreshed, previous_removed}
use Rattle.cache_rules.specs.Extraction.{Walk, previous_cached, starts, take_found, take_id, take_one, take_times}
use Rattle.cache_rules.specs.Model.{ShardModel, block_under, refresh_shard, remove_block}
use Rattle.cache_rules.proofs.WalkLaws.{walk_keeps}

-- no two of the entries have one key
abbrev pub OnceEntries : List Entry → Type 0
OnceEntries [] = Unit {0}
OnceEntries (e ∷ es) = ((f : Entry) → Memᴰ f es → key f.id ≢ key e.id) × OnceEntries es

-- ===== the loop ends =====

abbrev pub ahead : Walk → ℕ
ahead w = length w.waiting + previous_cached w.shards

found_less : (m : ℕ) (i : BlockId) (rest : List BlockId) (w : Walk) (o : Option Entry) → block_under w.shards (key i) ≡ o →
    ahead (take_found m i rest w o) ≤ length rest + previous_cached w.shards
found_less m i rest w None h = omega arith
found_less m i rest w (Some e) h =
    let l = previous_removed (key i) w.shards {e = e} h in
    on (eqb e.reference m)
    (λ t. rw t (omega (arith, l, previous_refreshed (key i) (remove_block (key i) w.shards), length-append rest e.previous)))
    (λ t. rw t (omega (arith, l)))

id_less : (m : ℕ) (w : Walk) (q : List BlockId) → (q ≡ []) ⊎ (suc (ahead (take_id m w q)) ≤ length q + previous_cached w.shards)
id_less m w [] = inl refl
id_less m w (i ∷ rest) = inr (omega (arith, found_less m i rest w (block_under w.shards (key i)) refl))

idle : (m : ℕ) (w : Walk) → w.waiting ≡ [] → take_one m w ≡ w
idle m w e = ap (take_id m w) e

stays_empty : (k m : ℕ) (w : Walk) → w.waiting ≡ [] → (take_times k m w).waiting ≡ []
stays_empty zero m w e = e
stays_empty (suc k) m w e = stays_empty k m (take_one m w) (ap (λ (v : Walk). v.waiting) (idle m w e) ∙ e)

none_left : (w : Walk) (q : List BlockId) → length q + previous_cached w.shards ≤ 0 → q ≡ []
none_left w [] h = refl
none_left w (i ∷ rest) h = absurd (omega arith)

pub ends : (k m : ℕ) (w : Walk) → ahead w ≤ k → (take_times k m w).waiting ≡ []
ends zero m w h = none_left w w.waiting h
ends (suc k) m w h = go (id_less m w w.waiting) (ends k m (take_one m w))
  where
    go : (w.waiting ≡ []) ⊎ (suc (ahead (take_one m w)) ≤ ahead w) → (ahead (take_one m w) ≤ k → (take_times k m (take_one m w)).waiting ≡ []) →
        (take_times k m (take_one m w)).waiting ≡ []
    go (inl e) ih = stays_empty (suc k) m w e
    go (inr l) ih = ih (omega arith)

-- ===== the invariant =====

-- R: the reached ids. `gs₀`: the groups before. q, gs, js: what waits, the groups, what joined.
module _ (gs₀ : List ShardModel) (mm : ℕ) (R : BlockId → Type 0) (ids₀ : List BlockId) where
  -- under a key nothing has changed, or it is a reached one and nothing stands there
  abbrev pub Kept : List ShardModel → BlockIdShort → Type 0
  Kept gs k = (block_under gs k ≡ block_under gs₀ k) ⊎ ((i : BlockId) × R i × (key i ≡ k) × (block_under gs k ≡ None))

  -- an id that has been taken, or will be
  abbrev pub Seen : List BlockId → List ShardModel → BlockId → Type 0
  Seen q gs p = Memᴰ p q ⊎ (block_under gs (key p) ≡ None)

  pub record Joined (gs : List ShardModel) (e : Entry) : Type 0 where
    pub under : BlockId
    pub reached : R under
    pub as_cached : block_under gs₀ (key under) ≡ Some e
    pub names : e.reference ≡ mm
    pub gone : block_under gs (key under) ≡ None

  pub record Inv (q : List BlockId) (gs : List ShardModel) (js : List Entry) : Type 0 where
    pub waiting_reached : (i : BlockId) → Memᴰ i q → R i
    pub kept : (k : BlockIdShort) → Kept gs k
    pub starts_seen : (i : BlockId) → Memᴰ i ids₀ → Seen q gs i
    pub gone_joined : (k : BlockIdShort) (e : Entry) → block_under gs₀ k ≡ Some e → block_under gs k ≡ None → e.reference ≡ mm → Memᴰ e js
    pub gone_seen : (k : BlockIdShort) (e : Entry) → block_under gs₀ k ≡ Some e → block_under gs k ≡ None → e.reference ≡ mm → (p : BlockId) → Memᴰ p e.previous → Seen q gs p
    pub joined : (e : Entry) → Memᴰ e js → Joined gs e
    pub once : OnceEntries js

  module _ (closed : (i : BlockId) (e : Entry) (p : BlockId) → R i → block_under gs₀ (key i) ≡ Some e → e.reference ≡ mm → Memᴰ p e.previous → R p)
      (own_key : (k : BlockIdShort) (e : Entry) → block_under gs₀ k ≡ Some e → key e.id ≡ k) where
    pub begin : ((i : BlockId) → Memᴰ i ids₀ → R i) → Inv ids₀ gs₀ []
    begin starts =
        record {
          waiting_reached = starts;
          kept = λ k. inl refl;
          starts_seen = λ i h. inl h;
          gone_joined = λ k e h g n. some_not_none h g;
          gone_seen = λ k e h g n p u. some_not_none h g;
          joined = λ e h. absurd (Memᴰ.not-nil h);
          once = tt;
        }

    -- nothing stands under the id taken
    skip : (i : BlockId) (rest : List BlockId) (gs : List ShardModel) (js : List Entry) → block_under gs (key i) ≡ None → Inv (i ∷ rest) gs js → Inv rest gs js
    skip i rest gs js h v =
        record {
          waiting_reached = λ j u. v.waiting_reached j (Memᴰ.tail u);
          kept = v.kept;
          starts_seen = λ j u. seen j (v.starts_seen j u);
          gone_joined = v.gone_joined;
          gone_seen = λ k e a g n p u. seen p (v.gone_seen k e a g n p u);
          joined = v.joined;
          once = v.once;
        }
      where
        at_once : (p : BlockId) → (p ≡ i) ⊎ Memᴰ p rest → Seen rest gs p
        at_once p (inl e) = inr (rw e h)
        at_once p (inr u) = inl u

        seen : (p : BlockId) → Seen (i ∷ rest) gs p → Seen rest gs p
        seen p (inl u) = at_once p (Memᴰ.cases_cons u)
        seen p (inr g) = inr g

    -- the block under the id taken leaves
    module _ (i : BlockId) (rest : List BlockId) (gs gs' : List ShardModel) (js : List Entry) (e : Entry) (found : block_under gs (key i) ≡ Some e)
        (left : block_under gs' (key i) ≡ None) (others : (k : BlockIdShort) → k ≢ key i → block_under gs' k ≡ block_under gs k) (v : Inv (i ∷ rest) gs js) where
      reached_now : R i
      reached_now = v.waiting_reached i (Memᴰ.head refl)

      was_from : Kept gs (key i) → block_under gs₀ (key i) ≡ Some e
      was_from (inl s) = sym s ∙ found
      was_from (inr g) = some_not_none found g.3

      was : block_under gs₀ (key i) ≡ Some e
      was = was_from (v.kept (key i))

      none_stays : (k : BlockIdShort) → block_under gs k ≡ None → block_under gs' k ≡ None
      none_stays k h = by_key (key_dec k (key i))
        where
          by_key : Dec (k ≡ key i) → block_under gs' k ≡ None
          by_key (yes s) = rw s left
          by_key (no d) = others k d ∙ h

      kept_now : (k : BlockIdShort) → Kept gs' k
      kept_now k = by_key (key_dec k (key i)) (v.kept k)
        where
          by_key : Dec (k ≡ key i) → Kept gs k → Kept gs' k
          by_key (yes s) o = inr (i, reached_now, sym s, rw s left)
          by_key (no d) (inl s) = inl (others k d ∙ s)
          by_key (no d) (inr g) = inr (g.0, g.1, g.2, others k d ∙ g.3)

      -- what waited still waits, or was the id taken
      seen_now : (q : List BlockId) → ((p : BlockId) → Memᴰ p rest → Memᴰ p q) → (p : BlockId) → Seen (i ∷ rest) gs p → Seen q gs' p
      seen_now q more p (inl u) = at_once (Memᴰ.cases_cons u)
        where
          at_once : (p ≡ i) ⊎ Memᴰ p rest → Seen q gs' p
          at_once (inl s) = inr (rw s left)
          at_once (inr r) = inl (more p r)
      seen_now q more p (inr g) = inr (none_stays (key p) g)

      still_joined : (f : Entry) → Joined gs f → Joined gs' f
      still_joined f j =
          record { under = j.under; reached = j.reached; as_cached = j.as_cached; names = j.names; gone = none_stays (key j.under) j.gone }

      -- it was under this key, or was gone before
      module _ (k : BlockIdShort) (f : Entry) (h : block_under gs₀ k ≡ Some f) (g : block_under gs' k ≡ None) where
        gone_how : ((k ≡ key i) × (f ≡ e)) ⊎ (block_under gs k ≡ None)
        gone_how = by_key (key_dec k (key i))
          where
            by_key : Dec (k ≡ key i) → ((k ≡ key i) × (f ≡ e)) ⊎ (block_under gs k ≡ None)
            by_key (yes s) = let h' : block_under gs₀ (key i) ≡ Some f = rw s at h in let w = was in inl (s, cc)
            by_key (no d) = inr (sym (others k d) ∙ g)

      -- naming another master, it is dropped
      dropped : e.reference ≢ mm → Inv rest gs' js
      dropped no_name =
          record {
            waiting_reached = λ j u. v.waiting_reached j (Memᴰ.tail u);
            kept = kept_now;
            starts_seen = λ j u. seen_now rest (λ p r. r) j (v.starts_seen j u);
            gone_joined = λ k f h g n. joined_by k f h n (gone_how k f h g);
            gone_seen = λ k f h g n p u. seen_by k f h n p u (gone_how k f h g);
            joined = λ f u. still_joined f (v.joined f u);
            once = v.once;
          }
        where
          joined_by : (k : BlockIdShort) (f : Entry) → block_under gs₀ k ≡ Some f → f.reference ≡ mm → ((k ≡ key i) × (f ≡ e)) ⊎ (block_under gs k ≡ None) → Memᴰ f js
          joined_by k f h n (inl s) = absurd (no_name (rw s.1 at n))
          joined_by k f h n (inr g) = v.gone_joined k f h g n

          seen_by : (k : BlockIdShort) (f : Entry) → block_under gs₀ k ≡ Some f → f.reference ≡ mm → (p : BlockId) → Memᴰ p f.previous →
              ((k ≡ key i) × (f ≡ e)) ⊎ (block_under gs k ≡ None) → Seen rest gs' p
          seen_by k f h n p u (inl s) = absurd (no_name (rw s.1 at n))
          seen_by k f h n p u (inr g) = seen_now rest (λ p r. r) p (v.gone_seen k f h g n p u)

      -- naming M, it joins, and its previous ids wait
      joins : e.reference ≡ mm → Inv (rest ++ e.previous) gs' (e ∷ js)
      joins name =
          record {
            waiting_reached = λ j u. waits j (Memᴰ.append_cases rest u);
            kept = kept_now;
            starts_seen = λ j u. seen_now (rest ++ e.previous) more j (v.starts_seen j u);
            gone_joined = λ k f h g n. joined_by k f h n (gone_how k f h g);
            gone_seen = λ k f h g n p u. seen_by k f h n p u (gone_how k f h g);
            joined = λ f u. joined_now f (Memᴰ.cases_cons u);
            once = (new, v.once);
          }
        where
          more : (p : BlockId) → Memᴰ p rest → Memᴰ p (rest ++ e.previous)
          more p r = Memᴰ.append_left e.previous r

          waits : (j : BlockId) → Memᴰ j rest ⊎ Memᴰ j e.previous → R j
          waits j (inl u) = v.waiting_reached j (Memᴰ.tail u)
          waits j (inr u) = closed i e j reached_now was name u

          joined_by : (k : BlockIdShort) (f : Entry) → block_under gs₀ k ≡ Some f → f.reference ≡ mm → ((k ≡ key i) × (f ≡ e)) ⊎ (block_under gs k ≡ None) → Memᴰ f (e ∷ js)
          joined_by k f h n (inl s) = Memᴰ.head s.1
          joined_by k f h n (inr g) = Memᴰ.tail (v.gone_joined k f h g n)

          seen_by : (k : BlockIdShort) (f : Entry) → block_under gs₀ k ≡ Some f → f.reference ≡ mm → (p : BlockId) → Memᴰ p f.previous →
              ((k ≡ key i) × (f ≡ e)) ⊎ (block_under gs k ≡ None) → Seen (rest ++ e.previous) gs' p
          seen_by k f h n p u (inl s) = inl (Memᴰ.append_right rest (rw s.1 at u))
          seen_by k f h n p u (inr g) = seen_now (rest ++ e.previous) more p (v.gone_seen k f h g n p u)

          joined_now : (f : Entry) → (f ≡ e) ⊎ Memᴰ f js → Joined gs' f
          joined_now f (inl s) = rw s (record { under = i; reached = reached_now; as_cached = was; names = name; gone = left })
          joined_now f (inr u) = still_joined f (v.joined f u)

          new : (f : Entry) → Memᴰ f js → key f.id ≢ key e.id
          new f u s =
              let j = v.joined f u in
              let at : key j.under ≡ key i = sym (own_key (key j.under) f j.as_cached) ∙ s ∙ own_key (key i) e was in
              some_not_none found (rw at at j.gone)

    -- ===== every id taken keeps the invariant =====

    abbrev pub Keeps : Walk → Type 0
    Keeps w = Inv w.waiting w.shards w.joined

    found_keeps : (i : BlockId) (rest : List BlockId) (w : Walk) (o : Option Entry) → block_under w.shards (key i) ≡ o →
        Inv (i ∷ rest) w.shards w.joined → Keeps (take_found mm i rest w o)
    found_keeps i rest w None h v = skip i rest w.shards w.joined h v
    found_keeps i rest w (Some e) h v =
        on (eqb e.reference mm)
        (λ t. rw t
        (joins i rest w.shards (refresh_shard (key i) (remove_block (key i) w.shards)) w.joined e h
        (lookup_refreshed (key i) (remove_block (key i) w.shards) (key i) ∙ lookup_removed (key i) w.shards)
        (λ k d. lookup_refreshed (key i) (remove_block (key i) w.shards) k ∙ lookup_others (key i) w.shards k d) v (eqb-true e.reference mm t)))
        (λ t. rw t
        (dropped i rest w.shards (remove_block (key i) w.shards) w.joined e h (lookup_removed (key i) w.shards)
        (λ k d. lookup_others (key i) w.shards k d) v (eqb-false e.reference mm t)))

    pub times_keeps : (k : ℕ) (w : Walk) → Keeps w → Keeps (take_times k mm w)
    times_keeps k w v = walk_keeps mm Keeps (λ w i rest o e f v. found_keeps i rest w o f (rw e at v)) k w v
