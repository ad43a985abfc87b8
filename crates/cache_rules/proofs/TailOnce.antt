-- The walk that takes each queued id once takes exactly the ids queued as previous ids, and ends.
-- Assumes nothing.
use mathlib.Core.Bool.{false}
use mathlib.Core.List.Memᴰ
use mathlib.Core.List.{List, Memᴰ, [], ◌++◌, ◌∷◌, append_assoc, append-nil}
use mathlib.Core.Logic.{◌⊎◌, inl, inr}
use mathlib.Core.Path.{◌∙◌, ◌≡◌, ap, refl, subst, sym}
use Prim.Native.Nat.{◌+◌, ◌≤◌, suc, zero, ℕ}
use native.Mathlib.Omega.{arith}
use lib.ListN.{length, length-append}
use Rattle.block_records.specs.declared.block_id.BlockId.{BlockId}
use Rattle.cache_rules.proofs.TailKnown.{Distinct, distinct_fits, unknown_all, unknown_distinct, unknown_from}
use Rattle.cache_rules.proofs.TailLevels.{Queued, first, then}
use Rattle.cache_rules.specs.Model.{ShardModel}
use Rattle.cache_rules.specs.TailIds.{queues}
use Rattle.cache_rules.specs.TailIdsOnce.{OnceWalk, once_id, once_one, once_times, unknown_ids}

-- ===== the walk =====

module _ (gs : List ShardModel) (m : ℕ) (ids U : List BlockId) (ids_in : (i : BlockId) → Memᴰ i ids → Memᴰ i U)
    (queues_in : (i p : BlockId) → Memᴰ p (queues gs m false i) → Memᴰ p U) where
  pub record OnceInv (done queue : List BlockId) : Type 0 where
    pub only : (i : BlockId) → Memᴰ i (done ++ queue) → Queued gs m ids i
    pub inside : (i : BlockId) → Memᴰ i (done ++ queue) → Memᴰ i U
    pub starts : (i : BlockId) → Memᴰ i ids → Memᴰ i (done ++ queue)
    pub closed : (i p : BlockId) → Memᴰ i done → Memᴰ p (queues gs m false i) → Memᴰ p (done ++ queue)
    pub distinct : Distinct (done ++ queue)

  pub once_start : OnceInv [] (unknown_ids [] ids)
  once_start =
      record {
        only = λ i u. first i (unknown_from [] ids u);
        inside = λ i u. ids_in i (unknown_from [] ids u);
        starts = λ i u. unknown_all [] ids u;
        closed = λ i p u v. absurd (Memᴰ.not-nil u);
        distinct = unknown_distinct [] ids tt;
      }

  step_inv : (done : List BlockId) (i : BlockId) (rest : List BlockId) → OnceInv done (i ∷ rest) →
      OnceInv (done ++ (i ∷ [])) (rest ++ unknown_ids ((done ++ (i ∷ [])) ++ rest) (queues gs m false i))
  step_inv done i rest v =
      let know = (done ++ (i ∷ [])) ++ rest in
      let new = unknown_ids ((done ++ (i ∷ [])) ++ rest) (queues gs m false i) in
      record {
        only = λ j u. only_by j (Memᴰ.append_cases ((done ++ (i ∷ [])) ++ rest) (to_known j u));
        inside = λ j u. inside_by j (Memᴰ.append_cases ((done ++ (i ∷ [])) ++ rest) (to_known j u));
        starts = λ j u. back j (Memᴰ.append_left new (old j (v.starts j u)));
        closed = λ j p u w. closed_by j p (Memᴰ.append_cases done u) w;
        distinct = subst Distinct (append_assoc (done ++ (i ∷ [])) rest new) (unknown_distinct know (queues gs m false i) (subst Distinct (sym same) v.distinct));
      }
    where
      same : (done ++ (i ∷ [])) ++ rest ≡ done ++ (i ∷ rest)
      same = append_assoc done (i ∷ []) rest

      old : (j : BlockId) → Memᴰ j (done ++ (i ∷ rest)) → Memᴰ j ((done ++ (i ∷ [])) ++ rest)
      old j u = subst (λ (l : List BlockId). Memᴰ j l) (sym same) u

      older : (j : BlockId) → Memᴰ j ((done ++ (i ∷ [])) ++ rest) → Memᴰ j (done ++ (i ∷ rest))
      older j u = subst (λ (l : List BlockId). Memᴰ j l) same u

      to_known : (j : BlockId) → Memᴰ j ((done ++ (i ∷ [])) ++ (rest ++ unknown_ids ((done ++ (i ∷ [])) ++ rest) (queues gs m false i))) →
          Memᴰ j (((done ++ (i ∷ [])) ++ rest) ++ unknown_ids ((done ++ (i ∷ [])) ++ rest) (queues gs m false i))
      to_known j u = subst (λ (l : List BlockId). Memᴰ j l) (sym (append_assoc (done ++ (i ∷ [])) rest (unknown_ids ((done ++ (i ∷ [])) ++ rest) (queues gs m false i)))) u

      back : (j : BlockId) → Memᴰ j (((done ++ (i ∷ [])) ++ rest) ++ unknown_ids ((done ++ (i ∷ [])) ++ rest) (queues gs m false i)) →
          Memᴰ j ((done ++ (i ∷ [])) ++ (rest ++ unknown_ids ((done ++ (i ∷ [])) ++ rest) (queues gs m false i)))
      back j u = subst (λ (l : List BlockId). Memᴰ j l) (append_assoc (done ++ (i ∷ [])) rest (unknown_ids ((done ++ (i ∷ [])) ++ rest) (queues gs m false i))) u

      taken : Queued gs m ids i
      taken = v.only i (Memᴰ.append_right done (Memᴰ.head refl))

      only_by : (j : BlockId) → Memᴰ j ((done ++ (i ∷ [])) ++ rest) ⊎ Memᴰ j (unknown_ids ((done ++ (i ∷ [])) ++ rest) (queues gs m false i)) → Queued gs m ids j
      only_by j (inl u) = v.only j (older j u)
      only_by j (inr u) = then i j taken (unknown_from ((done ++ (i ∷ [])) ++ rest) (queues gs m false i) u)

      inside_by : (j : BlockId) → Memᴰ j ((done ++ (i ∷ [])) ++ rest) ⊎ Memᴰ j (unknown_ids ((done ++ (i ∷ [])) ++ rest) (queues gs m false i)) → Memᴰ j U
      inside_by j (inl u) = v.inside j (older j u)
      inside_by j (inr u) = queues_in i j (unknown_from ((done ++ (i ∷ [])) ++ rest) (queues gs m false i) u)

      at_i : (j p : BlockId) → (j ≡ i) ⊎ Memᴰ j [] → Memᴰ p (queues gs m false j) →
          Memᴰ p ((done ++ (i ∷ [])) ++ (rest ++ unknown_ids ((done ++ (i ∷ [])) ++ rest) (queues gs m false i)))
      at_i j p (inl e) w = back p (unknown_all ((done ++ (i ∷ [])) ++ rest) (queues gs m false i) (subst (λ (z : BlockId). Memᴰ p (queues gs m false z)) e w))
      at_i j p (inr u) w = absurd (Memᴰ.not-nil u)

      closed_by : (j p : BlockId) → Memᴰ j done ⊎ Memᴰ j (i ∷ []) → Memᴰ p (queues gs m false j) →
          Memᴰ p ((done ++ (i ∷ [])) ++ (rest ++ unknown_ids ((done ++ (i ∷ [])) ++ rest) (queues gs m false i)))
      closed_by j p (inl u) w = back p (Memᴰ.append_left (unknown_ids ((done ++ (i ∷ [])) ++ rest) (queues gs m false i)) (old p (v.closed j p u w)))
      closed_by j p (inr u) w = at_i j p (Memᴰ.cases_cons u) w

  id_inv : (w : OnceWalk) (q : List BlockId) → w.queue ≡ q → OnceInv w.done q → OnceInv (once_id gs m w q).done (once_id gs m w q).queue
  id_inv w [] e v = rw e v
  id_inv w (i ∷ rest) e v = step_inv w.done i rest v

  pub times_inv : (k : ℕ) (w : OnceWalk) → OnceInv w.done w.queue → OnceInv (once_times k gs m w).done (once_times k gs m w).queue
  times_inv zero w v = v
  times_inv (suc k) w v = times_inv k (once_one gs m w) (id_inv w w.queue refl v)

  -- no more ids are ever known than U has
  pub known_fits : (done queue : List BlockId) → OnceInv done queue → length done + length queue ≤ length U
  known_fits done queue v = omega (arith, length-append done queue, distinct_fits (done ++ queue) U v.distinct v.inside)

  once_stays : (k : ℕ) (w : OnceWalk) → w.queue ≡ [] → (once_times k gs m w).queue ≡ []
  once_stays zero w e = e
  once_stays (suc k) w e = once_stays k (once_one gs m w) (ap (λ (x : OnceWalk). x.queue) (ap (once_id gs m w) e) ∙ e)

  one_done : (w : OnceWalk) (q : List BlockId) → (q ≡ []) ⊎ (length (once_id gs m w q).done ≡ suc (length w.done))
  one_done w [] = inl refl
  one_done w (i ∷ rest) = inr (omega (arith, length-append w.done (i ∷ [])))

  none_queued : (w : OnceWalk) (q : List BlockId) → length U ≤ length w.done → length w.done + length q ≤ length U → q ≡ []
  none_queued w [] h k = refl
  none_queued w (i ∷ rest) h k = absurd (omega arith)

  pub once_ends : (k : ℕ) (w : OnceWalk) → OnceInv w.done w.queue → length U ≤ length w.done + k → (once_times k gs m w).queue ≡ []
  once_ends zero w v h = none_queued w w.queue (omega arith) (known_fits w.done w.queue v)
  once_ends (suc k) w v h = by (one_done w w.queue) (λ l. once_ends k (once_one gs m w) (id_inv w w.queue refl v) l)
    where
      by : (w.queue ≡ []) ⊎ (length (once_one gs m w).done ≡ suc (length w.done)) → (length U ≤ length (once_one gs m w).done + k → (once_times k gs m (once_one gs m w)).queue ≡ []) →
          (once_times k gs m (once_one gs m w)).queue ≡ []
      by (inl e) ih = once_stays (suc k) w e
      by (inr l) ih = ih (omega arith)

  -- all that was queued, and nothing else
  pub done_queued : (w : OnceWalk) → w.queue ≡ [] → OnceInv w.done w.queue → {i : BlockId} → Memᴰ i w.done → Queued gs m ids i
  done_queued w e v {i} u = v.only i (Memᴰ.append_left w.queue u)

  in_done : (w : OnceWalk) → w.queue ≡ [] → {i : BlockId} → Memᴰ i (w.done ++ w.queue) → Memᴰ i w.done
  in_done w e {i} u = subst (λ (l : List BlockId). Memᴰ i l) (append-nil w.done) (subst (λ (q : List BlockId). Memᴰ i (w.done ++ q)) e u)

  pub queued_done : (w : OnceWalk) → w.queue ≡ [] → OnceInv w.done w.queue → {i : BlockId} → Queued gs m ids i → Memᴰ i w.done
  queued_done w e v (first i u) = in_done w e (v.starts i u)
  queued_done w e v (then i p q u) = in_done w e (v.closed i p (queued_done w e v q) u)
