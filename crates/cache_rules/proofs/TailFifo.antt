-- The walk as a queue gives one answer only.
-- Assumes nothing.
use Rattle.std.specs.Prelude.{map}
use mathlib.Core.Bool.{false}
use mathlib.Core.List.{List, [], ◌++◌, ◌∷◌}
use mathlib.Core.Path.{◌∙◌, ◌≡◌, ap, refl, subst₂, sym}
use Prim.Native.Nat.{ℕ}
use native.Mathlib.Omega.{arith}
use Rattle.cache_rules.specs.Calls.{TailRow}
use Rattle.cache_rules.specs.Model.{ShardModel}
use Rattle.cache_rules.specs.TailIds.{Fifo, Waiting, fifo_end, fifo_next, gives, queues, waits}

module _ (gs : List ShardModel) (m : ℕ) where
  no_waiting : (w : Waiting) (rest : List Waiting) {P : Type 0} → w ∷ rest ≡ [] → P
  no_waiting w rest e = let z : ◌≡◌ {A = ℕ} 0 1 = ap size (sym e) in absurd (omega arith)
    where
      size : List Waiting → ℕ
      size [] = 0
      size (x ∷ xs) = 1

  -- what a walk of nothing, and of one id and others, is
  fifo_none : {q : List Waiting} {rows : List TailRow} → Fifo gs m q rows → q ≡ [] → rows ≡ []
  fifo_none fifo_end e = refl
  fifo_none (fifo_next i as_top rest rows f) e = no_waiting (waits as_top i) rest e

  abbrev Next : Waiting → List Waiting → List TailRow → Type 0
  Next w rest rows =
      (later : List TailRow) × Fifo gs m (rest ++ map (waits false) (queues gs m w.as_top w.id)) later × (rows ≡ gives gs m w.as_top w.id ++ later)

  fifo_first : {q : List Waiting} {rows : List TailRow} (w : Waiting) (rest : List Waiting) → Fifo gs m q rows → q ≡ w ∷ rest → Next w rest rows
  fifo_first w rest fifo_end e = no_waiting w rest (sym e)
  fifo_first w rest (fifo_next i as_top more rows f) e =
      let p : waits as_top i ≡ w = ap (head w) e in
      let t : more ≡ rest = ap tail e in
      subst₂ (λ (x : Waiting) (xs : List Waiting). Next x xs (gives gs m as_top i ++ rows)) p t (rows, f, refl)
    where
      head : Waiting → List Waiting → Waiting
      head d [] = d
      head d (x ∷ xs) = x

      tail : List Waiting → List Waiting
      tail [] = []
      tail (x ∷ xs) = xs

  pub fifo_unique : {q : List Waiting} {a b : List TailRow} → Fifo gs m q a → Fifo gs m q b → a ≡ b
  fifo_unique fifo_end g = sym (fifo_none g refl)
  fifo_unique (fifo_next i as_top rest rows f) g =
      let n = fifo_first (waits as_top i) rest g refl in
      ap (λ (r : List TailRow). gives gs m as_top i ++ r) (fifo_unique f n.1) ∙ sym n.2
