-- The first place of those that pass, and what a place that the lookup gives says.
-- Assumes nothing.
use Rattle.std.proofs.lemmas.Iterator.Adapters.{position_from-zero}
use Rattle.std.specs.List.{position, position_from}
use Rattle.std.specs.Prelude.{None, Option, Some}
use Rattle.std.proofs.Common.{◌≡◌, ℕ, zero, suc, ◌+◌, Bool, true, false, List, [], ◌∷◌, get_or, sym, refl, ap, ◌∙◌, subst, arith}
use Rattle.block_records.specs.declared.block_id.BlockId.{BlockId}
use Rattle.block_records.specs.declared.block_id.ShardIdent.{ShardIdent}
use Rattle.blocks_cache.specs.declared.lookup.GroupSeqnos.{GroupSeqnos}
use Rattle.block_records.proofs.rules.Tests.{on}
use Rattle.block_records.specs.rules.BlockId.{id_shard}
use Rattle.blocks_cache.specs.arrays.Lookup.{block_place, cached_at, no_seqnos, place_in, place_of}
use Rattle.blocks_cache.specs.arrays.Shards.{ident_at}

-- ===== the first place of those that pass =====

module _ {A : Type 0} (p : A → Bool) where
  -- k is the first place whose element passes
  abbrev pub FirstAt : List A → ℕ → Type 0
  FirstAt [] k = ⊥
  FirstAt (x ∷ xs) zero = p x ≡ true
  FirstAt (x ∷ xs) (suc k) = (p x ≡ false) × FirstAt xs k

  abbrev pub NonePasses : List A → Type 0
  NonePasses [] = Unit {0}
  NonePasses (x ∷ xs) = (p x ≡ false) × NonePasses xs

  -- what the search says of the list from place i on
  abbrev Says : ℕ → List A → Option ℕ → Type 0
  Says i xs (Some k) = (j : ℕ) × (k ≡ i + j) × FirstAt xs j
  Says i xs None = NonePasses xs

  says_more : (i : ℕ) (x : A) (xs : List A) (f : Option ℕ) → p x ≡ false → Says (i + 1) xs f → Says i (x ∷ xs) f
  says_more i x xs (Some k) t s = (suc s.0, omega (arith, s.1), (t, s.2))
  says_more i x xs None t s = (t, s)

  says : (i : ℕ) (xs : List A) → Says i xs (position_from p i xs)
  says i [] = tt
  says i (x ∷ xs) =
      on (p x) (λ t. rw t (0, omega arith, t)) (λ t. rw t (says_more i x xs (position_from p (i + 1) xs) t (says (i + 1) xs)))

  pub first_at : (xs : List A) (k : ℕ) → position p xs ≡ Some k → FirstAt xs k
  first_at xs k e =
      let s : Says 0 xs (Some k) = subst (Says 0 xs) (sym (position_from-zero p xs) ∙ e) (says 0 xs) in
      let q : s.0 ≡ k = omega (arith, s.1) in
      subst (FirstAt xs) q s.2

  pub none_passes : (xs : List A) → position p xs ≡ None → NonePasses xs
  none_passes xs e = subst (Says 0 xs) (sym (position_from-zero p xs) ∙ e) (says 0 xs)

-- what a place says: the group of the shard, and the entry of the seqno in it
module _ (i : BlockId) (idents : List ShardIdent) (seqnos : List GroupSeqnos) (k j : ℕ) where
  pub record Placed : Type 0 where
    pub group : position (ident_at (id_shard i)) idents ≡ Some k
    pub entry : position (cached_at i.seqno) (get_or seqnos k no_seqnos).entries ≡ Some j

  entry_placed : (n : ℕ) (o : Option ℕ) → position (ident_at (id_shard i)) idents ≡ Some n → position (cached_at i.seqno) (get_or seqnos n no_seqnos).entries ≡ o →
      place_in n o ≡ Some (k, j) → Placed
  entry_placed n (Some m) f g e =
      let both : ◌≡◌ {A = ℕ × ℕ} (n, m) (k, j) = cc in
      let p : n ≡ k = ap (λ (x : ℕ × ℕ). x.0) both in
      let q : m ≡ j = ap (λ (x : ℕ × ℕ). x.1) both in
      record { group = f ∙ ap Some p; entry = subst (λ (x : ℕ). position (cached_at i.seqno) (get_or seqnos x no_seqnos).entries ≡ Some j) p (g ∙ ap Some q) }
  entry_placed n None f g e = let z : ◌≡◌ {A = ℕ} 0 1 = cc in absurd (omega arith)

  group_placed : (o : Option ℕ) → position (ident_at (id_shard i)) idents ≡ o → place_of i seqnos o ≡ Some (k, j) → Placed
  group_placed (Some n) f e = entry_placed n (position (cached_at i.seqno) (get_or seqnos n no_seqnos).entries) f refl e
  group_placed None f e = let z : ◌≡◌ {A = ℕ} 0 1 = cc in absurd (omega arith)

  pub placed : block_place i idents seqnos ≡ Some (k, j) → Placed
  unfolding block_place
  placed e = group_placed (position (ident_at (id_shard i)) idents) refl e
