-- Shards, keys and ids: the tests decide equality, and the orders are strict and total.
-- Assumes nothing.
use mathlib.Core.Bool.{Bool, ◌&&◌, false, true}
use mathlib.Core.List.{List, [], ◌∷◌}
use mathlib.Core.Logic.{◌≢◌}
use mathlib.Core.Path.{◌∙◌, ◌≡◌, ap, refl, sym}
use Prim.Native.Nat.{ℕ}
use Rattle.std.specs.Cmp.Lexicographic.{slice_partial_cmp}
use Rattle.std.specs.Ordering.{int_cmp, is_eq, is_gt, is_lt, is_some_and, nat_cmp, ordering_then, partial_ordering_then}
use Rattle.std.specs.Prelude.{Option, None, Some}
use Rattle.std.specs.declared.cmp.Ordering.{Ordering}
use Rattle.std.specs.declared.cmp.Ordering.TheVariants.{Less, Equal, Greater}
use lib.IntN.{ℤ}
use lib.Signed.{lt_z}
use native.Mathlib.Omega.{arith}
use borrow.Author.Tests.{eqb-false, eqb-true, le-ltb, lt-ltb, ltb-false, ltb-true, ne_eqb}
use lib.Dec.{eqb, ltb}
use Rattle.block_records.specs.declared.block_id.BlockId.{BlockId}
use Rattle.block_records.specs.declared.block_id.BlockIdShort.{BlockIdShort}
use Rattle.block_records.specs.declared.block_id.ShardIdent.{ShardIdent}
use Rattle.block_records.proofs.rules.OrderLaws.{asym, bytes_order, int_order, nat_order, then_order}
use Rattle.block_records.proofs.rules.Tests.{absurd_eq, clash, on}
use Rattle.block_records.specs.rules.BlockId.{id_shard, key_shard, less_hash, less_id, less_shard, same_hash, same_id, same_shard}
use Rattle.block_records.specs.rules.Order.{IsOrder, then_by}

-- a pair, by its parts
pair_order : {K L : Type 0} {s₁ l₁ : K → K → Bool} {s₂ l₂ : L → L → Bool} → IsOrder s₁ l₁ → IsOrder s₂ l₂
    → IsOrder (λ (a b : K × L). s₁ a.0 b.0 && s₂ a.1 b.1) (λ (a b : K × L). then_by (l₁ a.0 b.0) (s₁ a.0 b.0) (l₂ a.1 b.1))
pair_order {K} {L} o₁ o₂ = then_order (λ (a : K × L). a.0) (λ (a : K × L). a.1) (λ a b p q. λ i. (p i, q i)) o₁ o₂

pub shard_order : IsOrder same_shard less_shard
unfolding less_shard
shard_order =
    then_order (λ (s : ShardIdent). s.workchain) (λ (s : ShardIdent). s.prefix) (λ a b p q. λ i. record { workchain = p i; prefix = q i }) int_order nat_order

abbrev id_rest : BlockId → ℕ × (List ℕ × List ℕ)
id_rest a = (a.seqno, (a.root_hash, a.file_hash))

id_whole : (a b : BlockId) → id_shard a ≡ id_shard b → id_rest a ≡ id_rest b → a ≡ b
id_whole a b p q = λ i. record { shard = p i; seqno = (q i).0; root_hash = (q i).1.0; file_hash = (q i).1.1 }

pub id_order : IsOrder same_id less_id
unfolding less_id
id_order = then_order id_shard id_rest id_whole shard_order (pair_order nat_order (pair_order bytes_order bytes_order))

-- ===== by name =====

pub same_shard_true : (a b : ShardIdent) → same_shard a b ≡ true → a ≡ b
same_shard_true a b h = shard_order.same_eq a b h

pub same_shard_refl : (a : ShardIdent) → same_shard a a ≡ true
same_shard_refl a = shard_order.same_refl a

pub same_shard_false : (a b : ShardIdent) → same_shard a b ≡ false → a ≢ b
same_shard_false a b h e = clash (rw e (same_shard_refl b)) h

pub key_path : (a b : BlockIdShort) → key_shard a ≡ key_shard b → a.seqno ≡ b.seqno → a ≡ b
key_path a b p q = λ i. record { shard = p i; seqno = q i }

-- two keys are one or are not
pub key_dec : (a b : BlockIdShort) → Dec (a ≡ b)
key_dec a b =
    on (same_shard (key_shard a) (key_shard b))
    (λ s. on (eqb a.seqno b.seqno)
    (λ n. yes (key_path a b (same_shard_true (key_shard a) (key_shard b) s) (eqb-true a.seqno b.seqno n)))
    (λ n. no (λ e. eqb-false a.seqno b.seqno n (ap (λ (k : BlockIdShort). k.seqno) e))))
    (λ s. no (λ e. same_shard_false (key_shard a) (key_shard b) s (ap key_shard e)))

-- neither comes before the other: they are one
module _ {A : Type 0} {same less : A → A → Bool} (o : IsOrder same less) where
  order_level : (a b : A) → less a b ≡ false → less b a ≡ false → a ≡ b
  order_level a b p q = on (same a b) (λ s. o.same_eq a b s) (λ s. clash (o.tri a b s p) q)

pub shard_level : (a b : ShardIdent) → less_shard a b ≡ false → less_shard b a ≡ false → a ≡ b
shard_level a b p q = order_level shard_order a b p q

pub id_level : (a b : BlockId) → less_id a b ≡ false → less_id b a ≡ false → a ≡ b
id_level a b p q = order_level id_order a b p q

-- ===== what the language's `<` answers =====

-- one comparison after another
then_lt : (p r : Option Ordering) → is_some_and is_lt (partial_ordering_then p r) ≡ then_by (is_some_and is_lt p) (is_some_and is_eq p) (is_some_and is_lt r)
then_lt None r = refl
then_lt (Some Less) r = refl
then_lt (Some Equal) r = refl
then_lt (Some Greater) r = refl

then_eq : (p r : Option Ordering) → is_some_and is_eq (partial_ordering_then p r) ≡ is_some_and is_eq p && is_some_and is_eq r
then_eq None r = refl
then_eq (Some Less) r = refl
then_eq (Some Equal) r = refl
then_eq (Some Greater) r = refl

int_lt : (x y : ℤ) → is_lt (int_cmp x y) ≡ lt_z x y
int_lt x y = on (lt_z x y) (λ t. rw t) (λ t. on (lt_z y x) (λ u. rw (t, u)) (λ u. rw (t, u)))

pub nat_lt_is : (x y : ℕ) → is_lt (nat_cmp x y) ≡ ltb x y
nat_lt_is x y = on (ltb x y) (λ t. rw t) (λ t. on (eqb x y) (λ u. rw (t, u)) (λ u. rw (t, u)))

pub nat_eq_is : (x y : ℕ) → is_eq (nat_cmp x y) ≡ eqb x y
nat_eq_is x y =
    on (ltb x y) (λ t. let m = ltb-true x y t in rw (t, ne_eqb x y (λ e. absurd (omega arith))))
    (λ t. on (eqb x y) (λ u. rw (t, u)) (λ u. rw (t, u)))

pub nat_gt_is : (x y : ℕ) → is_gt (nat_cmp x y) ≡ ltb y x
nat_gt_is x y =
    on (ltb x y) (λ t. let m = ltb-true x y t in rw (t, le-ltb y x (omega arith)))
    (λ t. let m = ltb-false x y t in
    on (eqb x y) (λ u. let e = eqb-true x y u in rw (t, u, le-ltb y x (omega arith)))
    (λ u. let d = eqb-false x y u in rw (t, u, lt-ltb y x (omega arith))))

-- of hashes, byte by byte
abbrev bytes_cmp : List ℕ → List ℕ → Option Ordering
bytes_cmp xs ys = slice_partial_cmp (λ (x y : ℕ). Some (nat_cmp x y)) xs ys

bytes_lt : (xs ys : List ℕ) → is_some_and is_lt (bytes_cmp xs ys) ≡ less_hash xs ys
bytes_lt [] [] = refl
bytes_lt [] (y ∷ ys) = refl
bytes_lt (x ∷ xs) [] = refl
bytes_lt (x ∷ xs) (y ∷ ys) = then_lt (Some (nat_cmp x y)) (bytes_cmp xs ys) ∙ rw (nat_lt_is x y, nat_eq_is x y, bytes_lt xs ys)

bytes_eq_is : (xs ys : List ℕ) → is_some_and is_eq (bytes_cmp xs ys) ≡ same_hash xs ys
bytes_eq_is [] [] = refl
bytes_eq_is [] (y ∷ ys) = refl
bytes_eq_is (x ∷ xs) [] = refl
bytes_eq_is (x ∷ xs) (y ∷ ys) = then_eq (Some (nat_cmp x y)) (bytes_cmp xs ys) ∙ rw (nat_eq_is x y, bytes_eq_is xs ys)

abbrev shard_cmp : ShardIdent → ShardIdent → Option Ordering
shard_cmp a b = partial_ordering_then (Some (int_cmp a.workchain b.workchain)) (Some (nat_cmp a.prefix b.prefix))

pub shard_lt : (a b : ShardIdent) → is_some_and is_lt (shard_cmp a b) ≡ less_shard a b
unfolding less_shard
shard_lt a b =
    then_lt (Some (int_cmp a.workchain b.workchain)) (Some (nat_cmp a.prefix b.prefix))
    ∙ rw (int_lt a.workchain b.workchain, nat_lt_is a.prefix b.prefix)

shard_eq : (a b : ShardIdent) → is_some_and is_eq (shard_cmp a b) ≡ same_shard a b
shard_eq a b =
    then_eq (Some (int_cmp a.workchain b.workchain)) (Some (nat_cmp a.prefix b.prefix)) ∙ rw (nat_eq_is a.prefix b.prefix)

-- as `cmp` orders shards
abbrev pub shard_ordering : ShardIdent → ShardIdent → Ordering
shard_ordering a b = ordering_then (int_cmp a.workchain b.workchain) (nat_cmp a.prefix b.prefix)

pub shard_lt_is : (a b : ShardIdent) → is_lt (shard_ordering a b) ≡ less_shard a b
unfolding less_shard
shard_lt_is a b = by_first (int_cmp a.workchain b.workchain) (nat_cmp a.prefix b.prefix) ∙ rw (int_lt a.workchain b.workchain, nat_lt_is a.prefix b.prefix)
  where
    by_first : (p r : Ordering) → is_lt (ordering_then p r) ≡ then_by (is_lt p) (is_eq p) (is_lt r)
    by_first Less r = refl
    by_first Equal r = refl
    by_first Greater r = refl

pub shard_eq_is : (a b : ShardIdent) → is_eq (shard_ordering a b) ≡ same_shard a b
shard_eq_is a b = by_both (int_cmp a.workchain b.workchain) (nat_cmp a.prefix b.prefix) ∙ rw (nat_eq_is a.prefix b.prefix)
  where
    by_both : (p r : Ordering) → is_eq (ordering_then p r) ≡ is_eq p && is_eq r
    by_both Less r = refl
    by_both Equal r = refl
    by_both Greater r = refl

pub shard_gt_is : (a b : ShardIdent) → is_gt (shard_ordering a b) ≡ less_shard b a
shard_gt_is a b =
    on (less_shard a b)
    (λ t. not_less (shard_ordering a b) (shard_lt_is a b ∙ t) ∙ sym (asym shard_order a b t))
    (λ t. on (same_shard a b)
    (λ u. let e = shard_order.same_eq a b u in not_equal (shard_ordering a b) (shard_eq_is a b ∙ u) ∙ sym (rw e (shard_order.irrefl b)))
    (λ u. neither (shard_ordering a b) (shard_lt_is a b ∙ t) (shard_eq_is a b ∙ u) ∙ sym (shard_order.tri a b u t)))
  where
    not_less : (o : Ordering) → is_lt o ≡ true → is_gt o ≡ false
    not_less Less h = refl
    not_less Equal h = refl
    not_less Greater h = absurd_eq h

    not_equal : (o : Ordering) → is_eq o ≡ true → is_gt o ≡ false
    not_equal Less h = refl
    not_equal Equal h = refl
    not_equal Greater h = absurd_eq h

    neither : (o : Ordering) → is_lt o ≡ false → is_eq o ≡ false → is_gt o ≡ true
    neither Less h k = absurd_eq (sym h)
    neither Equal h k = absurd_eq (sym k)
    neither Greater h k = refl

-- as the language compares ids
abbrev pub id_cmp : BlockId → BlockId → Option Ordering
id_cmp a b =
    partial_ordering_then (shard_cmp a.shard b.shard) (partial_ordering_then (Some (nat_cmp a.seqno b.seqno))
    (partial_ordering_then (bytes_cmp a.root_hash b.root_hash) (bytes_cmp a.file_hash b.file_hash)))

pub id_lt : (a b : BlockId) → is_some_and is_lt (id_cmp a b) ≡ less_id a b
unfolding less_id
id_lt a b =
    let file = bytes_cmp a.file_hash b.file_hash in
    let root = partial_ordering_then (bytes_cmp a.root_hash b.root_hash) file in
    then_lt (shard_cmp a.shard b.shard) (partial_ordering_then (Some (nat_cmp a.seqno b.seqno)) root)
    ∙ rw (
      shard_lt a.shard b.shard,
      shard_eq a.shard b.shard,
      then_lt (Some (nat_cmp a.seqno b.seqno)) root,
      nat_lt_is a.seqno b.seqno,
      nat_eq_is a.seqno b.seqno,
      then_lt (bytes_cmp a.root_hash b.root_hash) file,
      bytes_lt a.root_hash b.root_hash,
      bytes_eq_is a.root_hash b.root_hash,
      bytes_lt a.file_hash b.file_hash,
    )
