-- The tail ids' walk by levels is the walk as a queue; and it takes, below the tops, exactly the ids that were queued.
-- Assumes nothing.
use Rattle.std.specs.List.{flat_map}
use Rattle.std.specs.Prelude.{map}
use mathlib.Core.Bool.{Bool, false, true}
use mathlib.Core.List.Memᴰ
use mathlib.Core.List.{List, Memᴰ, [], ◌++◌, ◌∷◌, append_assoc, append-nil}
use mathlib.Core.Logic.{◌⊎◌, inl, inr}
use mathlib.Core.Path.{◌≡◌, ap, refl, subst, sym}
use Prim.Native.Nat.{◌<◌, max, suc, zero, ℕ}
use native.Mathlib.Omega.{arith}
use Rattle.block_records.specs.declared.block_id.BlockId.{BlockId}
use Rattle.cache_rules.specs.Calls.{TailRow}
use Rattle.cache_rules.specs.Model.{ShardModel}
use Rattle.cache_rules.specs.TailIds.{Fifo, Waiting, fifo_end, fifo_next, gives, highest, levels, queues, waits}
use Rattle.std.proofs.lemmas.List.{map-append}

module _ {A B : Type 0} where
  pub flat_map_append : (f : A → List B) (xs ys : List A) → flat_map f (xs ++ ys) ≡ flat_map f xs ++ flat_map f ys
  flat_map_append f [] ys = refl
  flat_map_append f (x ∷ xs) ys = rw (flat_map_append f xs ys) (sym (append_assoc (f x) (flat_map f xs) (flat_map f ys)))

  pub flat_map_member : (f : A → List B) (xs : List A) {x : A} {y : B} → Memᴰ x xs → Memᴰ y (f x) → Memᴰ y (flat_map f xs)
  flat_map_member f [] u v = absurd (Memᴰ.not-nil u)
  flat_map_member f (z ∷ xs) {x} {y} u v = by (Memᴰ.cases_cons u) (λ (w : Memᴰ x xs). flat_map_member f xs w v)
    where
      by : (x ≡ z) ⊎ Memᴰ x xs → (Memᴰ x xs → Memᴰ y (flat_map f xs)) → Memᴰ y (f z ++ flat_map f xs)
      by (inl e) ih = Memᴰ.append_left (flat_map f xs) (subst (λ (w : A). Memᴰ y (f w)) e v)
      by (inr w) ih = Memᴰ.append_right (f z) (ih w)

  pub flat_map_from : (f : A → List B) (xs : List A) {y : B} → Memᴰ y (flat_map f xs) → (x : A) × Memᴰ x xs × Memᴰ y (f x)
  flat_map_from f [] u = absurd (Memᴰ.not-nil u)
  flat_map_from f (z ∷ xs) {y} u = by (Memᴰ.append_cases (f z) u) (λ (w : Memᴰ y (flat_map f xs)). flat_map_from f xs w)
    where
      by : Memᴰ y (f z) ⊎ Memᴰ y (flat_map f xs) → (Memᴰ y (flat_map f xs) → (x : A) × Memᴰ x xs × Memᴰ y (f x)) → (x : A) × Memᴰ x (z ∷ xs) × Memᴰ y (f x)
      by (inl v) ih = (z, Memᴰ.head refl, v)
      by (inr w) ih = let r = ih w in (r.0, Memᴰ.tail r.1, r.2)

-- ids below a seqno
abbrev pub Below : ℕ → List BlockId → Type 0
Below d ids = (i : BlockId) → Memᴰ i ids → i.seqno < d

pub highest_below : (ids : List BlockId) → Below (suc (highest ids)) ids
highest_below [] i u = absurd (Memᴰ.not-nil u)
highest_below (x ∷ ids) i u = by (Memᴰ.cases_cons u) (λ (v : Memᴰ i ids). highest_below ids i v)
  where
    by : (i ≡ x) ⊎ Memᴰ i ids → (Memᴰ i ids → i.seqno < suc (highest ids)) → i.seqno < suc (max x.seqno (highest ids))
    by (inl e) ih = omega (arith, ap (λ (j : BlockId). j.seqno) e)
    by (inr v) ih = omega (arith, ih v)

module _ (gs : List ShardModel) (m : ℕ)
    (falls : (as_top : Bool) (i p : BlockId) → Memᴰ p (queues gs m as_top i) → p.seqno < i.seqno) where
  pub next_below : (d : ℕ) (as_top : Bool) (ids : List BlockId) → Below (suc d) ids → Below d (flat_map (queues gs m as_top) ids)
  next_below d as_top ids b p u = let r = flat_map_from (queues gs m as_top) ids u in omega (arith, b r.0 r.1, falls as_top r.0 p r.2)

  -- one level, with what it queues behind what waits already
  sweep : (as_top : Bool) (ids more : List BlockId) (rows : List TailRow) → Fifo gs m (map (waits false) (more ++ flat_map (queues gs m as_top) ids)) rows →
      Fifo gs m (map (waits as_top) ids ++ map (waits false) more) (flat_map (gives gs m as_top) ids ++ rows)
  sweep as_top [] more rows f = subst (λ (q : List BlockId). Fifo gs m (map (waits false) q) rows) (append-nil more) f
  sweep as_top (i ∷ ids) more rows f =
      let q = queues gs m as_top i in
      let f' : Fifo gs m (map (waits false) ((more ++ q) ++ flat_map (queues gs m as_top) ids)) rows =
      subst (λ (l : List BlockId). Fifo gs m (map (waits false) l) rows) (sym (append_assoc more q (flat_map (queues gs m as_top) ids))) f in
      let g = sweep as_top ids (more ++ q) rows f' in
      let e : map (waits as_top) ids ++ map (waits false) (more ++ q) ≡ (map (waits as_top) ids ++ map (waits false) more) ++ map (waits false) q =
      rw (map-append (waits false) more q) (sym (append_assoc (map (waits as_top) ids) (map (waits false) more) (map (waits false) q))) in
      subst (λ (r : List TailRow). Fifo gs m (waits as_top i ∷ (map (waits as_top) ids ++ map (waits false) more)) r) (sym (append_assoc (gives gs m as_top i) (flat_map (gives gs m as_top) ids) rows))
      (fifo_next i as_top (map (waits as_top) ids ++ map (waits false) more) (flat_map (gives gs m as_top) ids ++ rows)
      (subst (λ (l : List Waiting). Fifo gs m l (flat_map (gives gs m as_top) ids ++ rows)) e g))

  pub levels_fifo : (d : ℕ) (as_top : Bool) (ids : List BlockId) → Below d ids → Fifo gs m (map (waits as_top) ids) (levels d gs m as_top ids)
  levels_fifo zero as_top [] b = fifo_end
  levels_fifo zero as_top (i ∷ ids) b = absurd (omega (arith, b i (Memᴰ.head refl)))
  levels_fifo (suc d) as_top [] b = fifo_end
  levels_fifo (suc d) as_top (i ∷ ids) b =
      subst (λ (l : List Waiting). Fifo gs m l (levels (suc d) gs m as_top (i ∷ ids))) (append-nil (map (waits as_top) (i ∷ ids)))
      (sweep as_top (i ∷ ids) [] (levels d gs m false (flat_map (queues gs m as_top) (i ∷ ids)))
      (levels_fifo d false (flat_map (queues gs m as_top) (i ∷ ids)) (next_below d as_top (i ∷ ids) b)))

-- ===== the ids below the tops =====

-- queued as a previous id
pub data Queued (gs : List ShardModel) (m : ℕ) (ids : List BlockId) : BlockId → Type 0 where
  first : (i : BlockId) → Memᴰ i ids → Queued gs m ids i
  then : (i p : BlockId) → Queued gs m ids i → Memᴰ p (queues gs m false i) → Queued gs m ids p

-- all ids of the levels, in the order taken
abbrev pub deep : ℕ → List ShardModel → ℕ → List BlockId → List BlockId
deep zero gs m ids = []
deep (suc d) gs m [] = []
deep (suc d) gs m (i ∷ ids) = (i ∷ ids) ++ deep d gs m (flat_map (queues gs m false) (i ∷ ids))

pub levels_deep : (d : ℕ) (gs : List ShardModel) (m : ℕ) (ids : List BlockId) → levels d gs m false ids ≡ flat_map (gives gs m false) (deep d gs m ids)
levels_deep zero gs m ids = refl
levels_deep (suc d) gs m [] = refl
levels_deep (suc d) gs m (i ∷ ids) =
    rw (levels_deep d gs m (flat_map (queues gs m false) (i ∷ ids)))
    (sym (flat_map_append (gives gs m false) (i ∷ ids) (deep d gs m (flat_map (queues gs m false) (i ∷ ids)))))

deep_nil : (d : ℕ) (gs : List ShardModel) (m : ℕ) → deep d gs m [] ≡ []
deep_nil zero gs m = refl
deep_nil (suc d) gs m = refl

pub levels_split : (d : ℕ) (gs : List ShardModel) (m : ℕ) (tops : List BlockId) →
    levels (suc d) gs m true tops ≡ flat_map (gives gs m true) tops ++ flat_map (gives gs m false) (deep d gs m (flat_map (queues gs m true) tops))
levels_split d gs m [] = rw (deep_nil d gs m)
levels_split d gs m (i ∷ tops) = ap (λ (r : List TailRow). flat_map (gives gs m true) (i ∷ tops) ++ r) (levels_deep d gs m (flat_map (queues gs m true) (i ∷ tops)))

queued_deeper : (gs : List ShardModel) (m : ℕ) (ids : List BlockId) {i : BlockId} → Queued gs m (flat_map (queues gs m false) ids) i → Queued gs m ids i
queued_deeper gs m ids (first i u) = let r = flat_map_from (queues gs m false) ids u in then r.0 i (first r.0 r.1) r.2
queued_deeper gs m ids (then i p q u) = then i p (queued_deeper gs m ids q) u

pub deep_queued : (d : ℕ) (gs : List ShardModel) (m : ℕ) (ids : List BlockId) {i : BlockId} → Memᴰ i (deep d gs m ids) → Queued gs m ids i
deep_queued zero gs m ids u = absurd (Memᴰ.not-nil u)
deep_queued (suc d) gs m [] u = absurd (Memᴰ.not-nil u)
deep_queued (suc d) gs m (x ∷ ids) {i} u = by (Memᴰ.append_cases (x ∷ ids) u) (λ (v : Memᴰ i (deep d gs m (flat_map (queues gs m false) (x ∷ ids)))). deep_queued d gs m (flat_map (queues gs m false) (x ∷ ids)) v)
  where
    by : Memᴰ i (x ∷ ids) ⊎ Memᴰ i (deep d gs m (flat_map (queues gs m false) (x ∷ ids))) →
        (Memᴰ i (deep d gs m (flat_map (queues gs m false) (x ∷ ids))) → Queued gs m (flat_map (queues gs m false) (x ∷ ids)) i) → Queued gs m (x ∷ ids) i
    by (inl v) ih = first i v
    by (inr v) ih = queued_deeper gs m (x ∷ ids) (ih v)

module _ (gs : List ShardModel) (m : ℕ)
    (falls : (as_top : Bool) (i p : BlockId) → Memᴰ p (queues gs m as_top i) → p.seqno < i.seqno) where
  deep_start : (d : ℕ) (ids : List BlockId) → Below d ids → {i : BlockId} → Memᴰ i ids → Memᴰ i (deep d gs m ids)
  deep_start zero ids b {i} u = absurd (omega (arith, b i u))
  deep_start (suc d) [] b u = absurd (Memᴰ.not-nil u)
  deep_start (suc d) (x ∷ ids) b u = Memᴰ.append_left (deep d gs m (flat_map (queues gs m false) (x ∷ ids))) u

  deep_then : (d : ℕ) (ids : List BlockId) → Below d ids → {i p : BlockId} → Memᴰ i (deep d gs m ids) → Memᴰ p (queues gs m false i) → Memᴰ p (deep d gs m ids)
  deep_then zero ids b u v = absurd (Memᴰ.not-nil u)
  deep_then (suc d) [] b u v = absurd (Memᴰ.not-nil u)
  deep_then (suc d) (x ∷ ids) b {i} {p} u v =
      let below = next_below gs m falls d false (x ∷ ids) b in
      Memᴰ.append_right (x ∷ ids)
      (by below (Memᴰ.append_cases (x ∷ ids) u) (λ (w : Memᴰ i (deep d gs m (flat_map (queues gs m false) (x ∷ ids)))). deep_then d (flat_map (queues gs m false) (x ∷ ids)) below w v))
    where
      by : Below d (flat_map (queues gs m false) (x ∷ ids)) → Memᴰ i (x ∷ ids) ⊎ Memᴰ i (deep d gs m (flat_map (queues gs m false) (x ∷ ids))) →
          (Memᴰ i (deep d gs m (flat_map (queues gs m false) (x ∷ ids))) → Memᴰ p (deep d gs m (flat_map (queues gs m false) (x ∷ ids)))) →
          Memᴰ p (deep d gs m (flat_map (queues gs m false) (x ∷ ids)))
      by below (inl w) ih = deep_start d (flat_map (queues gs m false) (x ∷ ids)) below (flat_map_member (queues gs m false) (x ∷ ids) w v)
      by below (inr w) ih = ih w

  pub queued_deep : (d : ℕ) (ids : List BlockId) → Below d ids → {i : BlockId} → Queued gs m ids i → Memᴰ i (deep d gs m ids)
  queued_deep d ids b (first i u) = deep_start d ids b u
  queued_deep d ids b (then i p q u) = deep_then d ids b (queued_deep d ids b q) u
