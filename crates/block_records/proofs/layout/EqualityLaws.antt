-- Each test of equality of the records decides equality.
-- Assumes nothing.
use Rattle.std.specs.Option.{option_eq}
use Rattle.std.specs.Prelude.{None, Option, Some}
use lib.Pointwise.{pointwise}
use mathlib.Core.Bool.{Bool, beq, ◌&&◌, false, true}
use mathlib.Core.List.{List, [], ◌∷◌}
use mathlib.Core.Path.{◌∙◌, ◌≡◌, ap, ap₂, refl, sym}
use Prim.Native.Nat.{suc, zero, ℕ}
use borrow.Author.Tests.{eq-eqb, eqb-true}
use lib.Dec.{eqb}
use Rattle.block_records.specs.contracts.entry.BlockCacheEntryDataPartialEq.TheImpl.{eq-value as kind_eq-value}
use Rattle.block_records.specs.contracts.entry.BlockCacheEntryPartialEq.TheImpl.{eq-value as entry_eq-value}
use Rattle.block_records.specs.contracts.entry.CandidateStatusPartialEq.TheImpl.{eq-value as status_eq-value}
use Rattle.block_records.specs.declared.block_id.BlockIdShort.{BlockIdShort}
use Rattle.block_records.specs.declared.entry.BlockCacheEntry.{BlockCacheEntry}
use Rattle.block_records.specs.declared.entry.BlockCacheEntryData.{BlockCacheEntryData}
use Rattle.block_records.specs.declared.entry.BlockCacheEntryData.TheVariants.{Collated as collated, Received as received}
use Rattle.block_records.specs.declared.entry.CandidateStatus.{CandidateStatus}
use Rattle.block_records.specs.declared.entry.CandidateStatus.TheVariants.{Collated, Synced, Validated, ValidationSkipped}
use Rattle.block_records.specs.declared.top_block.TopBlock.{TopBlock}
use Rattle.block_records.specs.layout.Listed.{PrevIds, TopBlocks}
use Rattle.block_records.proofs.rules.BlockIdLaws.{id_order, key_path, shard_order}
use Rattle.block_records.proofs.rules.Tests.{absurd_eq}
use Rattle.block_records.specs.layout.Equality.{same_anchor, same_entry, same_kind, same_prev_ids, same_top, same_tops}
use Rattle.block_records.specs.rules.BlockId.{key_shard, same_id, same_key, same_shard}
use Rattle.block_records.specs.rules.Entry.{same_status, status_number}
use Rattle.block_records.specs.rules.Order.{IsSame}
use Rattle.std.specs.Cmp.{first_so, second_so}

-- ===== from the parts to the whole =====

module _ {A K L : Type 0} {s₁ : K → K → Bool} {s₂ : L → L → Bool} (f : A → K) (g : A → L)
    (whole : (a b : A) → f a ≡ f b → g a ≡ g b → a ≡ b) (d₁ : IsSame s₁) (d₂ : IsSame s₂) where
  pub both_same : IsSame (λ (a b : A). s₁ (f a) (f b) && s₂ (g a) (g b))
  both_same = record {
    same_eq = λ a b e. whole a b (d₁.same_eq (f a) (f b) (first_so _ _ e)) (d₂.same_eq (g a) (g b) (second_so (s₁ (f a) (f b)) _ e));
    same_refl = λ a. rw (d₁.same_refl (f a), d₂.same_refl (g a));
  }

pub pair_same : {K L : Type 0} {s₁ : K → K → Bool} {s₂ : L → L → Bool} → IsSame s₁ → IsSame s₂
    → IsSame (λ (a b : K × L). s₁ a.0 b.0 && s₂ a.1 b.1)
pair_same {K} {L} d₁ d₂ = both_same (λ (a : K × L). a.0) (λ (a : K × L). a.1) (λ a b p q. λ i. (p i, q i)) d₁ d₂

module _ {A : Type 0} (same : A → A → Bool) where
  list_eq : ((a b : A) → same a b ≡ true → a ≡ b) → (a b : List A) → pointwise same a b ≡ true → a ≡ b
  list_eq h [] [] e = refl
  list_eq h [] (y ∷ ys) e = absurd_eq e
  list_eq h (x ∷ xs) [] e = absurd_eq e
  list_eq h (x ∷ xs) (y ∷ ys) e =
      ap₂ ◌∷◌ (h x y (first_so (same x y) (pointwise same xs ys) e)) (list_eq h xs ys (second_so (same x y) (pointwise same xs ys) e))

  list_refl : ((a : A) → same a a ≡ true) → (a : List A) → pointwise same a a ≡ true
  list_refl h [] = refl
  list_refl h (x ∷ xs) = rw (h x, list_refl h xs)

pub list_same : {A : Type 0} {s : A → A → Bool} → IsSame s → IsSame (λ (a b : List A). pointwise s a b)
list_same {s = s} d = record { same_eq = list_eq s d.same_eq; same_refl = list_refl s d.same_refl }

pub nat_same : IsSame eqb
nat_same = record { same_eq = eqb-true; same_refl = λ a. eq-eqb a a refl }

-- ===== the records =====

pub id_same : IsSame same_id
id_same = record { same_eq = id_order.same_eq; same_refl = id_order.same_refl }

pub shard_same : IsSame same_shard
shard_same = record { same_eq = shard_order.same_eq; same_refl = shard_order.same_refl }

pub key_same : IsSame same_key
key_same = both_same key_shard (λ (k : BlockIdShort). k.seqno) key_path shard_same nat_same

bool_eq : (a b : Bool) → beq a b ≡ true → a ≡ b
bool_eq true true e = refl
bool_eq true false e = absurd_eq e
bool_eq false true e = absurd_eq e
bool_eq false false e = refl

bool_refl : (a : Bool) → beq a a ≡ true
bool_refl true = refl
bool_refl false = refl

pub bool_same : IsSame beq
bool_same = record { same_eq = bool_eq; same_refl = bool_refl }

pub top_same : IsSame same_top
top_same =
    both_same (λ (t : TopBlock). t.ref_by_mc_seqno) (λ (t : TopBlock). (t.block_id, t.updated))
    (λ a b p q. λ i. record { ref_by_mc_seqno = p i; block_id = (q i).0; updated = (q i).1 }) nat_same (pair_same id_same bool_same)

pub prev_ids_same : IsSame same_prev_ids
prev_ids_same =
    both_same (λ (p : PrevIds). p.count) (λ (p : PrevIds). p.items) (λ a b p q. λ i. record { count = p i; items = q i }) nat_same (list_same id_same)

pub tops_same : IsSame same_tops
tops_same =
    both_same (λ (p : TopBlocks). p.count) (λ (p : TopBlocks). p.items) (λ a b p q. λ i. record { count = p i; items = q i }) nat_same (list_same top_same)

option_eq_is : {A : Type 0} (same : A → A → Bool) → IsSame same → (a b : Option A) → option_eq same a b ≡ true → a ≡ b
option_eq_is same d None None e = refl
option_eq_is same d None (Some y) e = absurd_eq e
option_eq_is same d (Some x) None e = absurd_eq e
option_eq_is same d (Some x) (Some y) e = ap Some (d.same_eq x y e)

option_eq_refl : {A : Type 0} (same : A → A → Bool) → IsSame same → (a : Option A) → option_eq same a a ≡ true
option_eq_refl same d None = refl
option_eq_refl same d (Some x) = d.same_refl x

pub option_same : {A : Type 0} (same : A → A → Bool) → IsSame same → IsSame (option_eq same)
option_same same d = record { same_eq = option_eq_is same d; same_refl = option_eq_refl same d }

pub anchor_same : IsSame same_anchor
anchor_same = option_same eqb nat_same

status_of : ℕ → CandidateStatus
status_of zero = Collated
status_of (suc zero) = Validated
status_of (suc (suc zero)) = ValidationSkipped
status_of (suc (suc (suc n))) = Synced

status_back : (s : CandidateStatus) → status_of (status_number s) ≡ s
unfolding status_of
status_back Collated = refl
status_back Validated = refl
status_back ValidationSkipped = refl
status_back Synced = refl

pub status_same : IsSame same_status
status_same = record {
  same_eq = λ a b e. sym (status_back a) ∙ (ap status_of (eqb-true (status_number a) (status_number b) e) ∙ status_back b);
  same_refl = λ a. eq-eqb (status_number a) (status_number a) refl;
}

-- what a Collated entry holds, as a tuple
abbrev Parts : Type 0
Parts = CandidateStatus × (Bool × (ℕ × (ℕ × ℕ)))

parts_same : IsSame {A = Parts} (λ (a b : Parts). same_status a.0 b.0 && (beq a.1.0 b.1.0 && (eqb a.1.1.0 b.1.1.0 && (eqb a.1.1.1.0 b.1.1.1.0 && eqb a.1.1.1.1 b.1.1.1.1))))
parts_same = pair_same status_same (pair_same bool_same (pair_same nat_same (pair_same nat_same nat_same)))

kind_eq : (a b : BlockCacheEntryData) → same_kind a b ≡ true → a ≡ b
kind_eq (collated s r g w p) (collated s' r' g' w' p') e =
    ap (λ (t : Parts). collated t.0 t.1.0 t.1.1.0 t.1.1.1.0 t.1.1.1.1)
    (parts_same.same_eq (s, (r, (g, (w, p)))) (s', (r', (g', (w', p')))) e)
kind_eq (collated s r g w p) (received c d) e = absurd_eq e
kind_eq (received c d) (collated s r g w p) e = absurd_eq e
kind_eq (received c d) (received c' d') e =
    ap₂ received (bool_eq c c' (first_so (beq c c') (same_anchor d d') e)) (anchor_same.same_eq d d' (second_so (beq c c') (same_anchor d d') e))

kind_refl : (a : BlockCacheEntryData) → same_kind a a ≡ true
kind_refl (collated s r g w p) = parts_same.same_refl (s, (r, (g, (w, p))))
kind_refl (received c d) = rw (bool_refl c, anchor_same.same_refl d)

pub kind_same : IsSame same_kind
kind_same = record { same_eq = kind_eq; same_refl = kind_refl }

abbrev EntryRest : Type 0
EntryRest = PrevIds × ((Option ℕ) × (ℕ × (ℕ × BlockCacheEntryData)))

abbrev entry_rest : BlockCacheEntry → EntryRest
entry_rest e = (e.prev_ids, (e.top_anchor, (e.ref_by_mc_seqno, (e.payload, e.«data»))))

entry_whole : (a b : BlockCacheEntry) → a.block_id ≡ b.block_id → entry_rest a ≡ entry_rest b → a ≡ b
entry_whole a b p q = λ i. record {
  block_id = p i;
  prev_ids = (q i).0;
  top_anchor = (q i).1.0;
  ref_by_mc_seqno = (q i).1.1.0;
  payload = (q i).1.1.1.0;
  «data» = (q i).1.1.1.1;
}

pub entry_same : IsSame same_entry
unfolding same_entry
entry_same =
    both_same (λ (e : BlockCacheEntry). e.block_id) entry_rest entry_whole id_same
    (pair_same prev_ids_same (pair_same anchor_same (pair_same nat_same (pair_same nat_same kind_same))))

-- ===== the derives compute the tests =====

pub status_derived : (a b : CandidateStatus) → status_eq-value.it a b ≡ same_status a b
status_derived Collated Collated = refl
status_derived Collated Validated = refl
status_derived Collated ValidationSkipped = refl
status_derived Collated Synced = refl
status_derived Validated Collated = refl
status_derived Validated Validated = refl
status_derived Validated ValidationSkipped = refl
status_derived Validated Synced = refl
status_derived ValidationSkipped Collated = refl
status_derived ValidationSkipped Validated = refl
status_derived ValidationSkipped ValidationSkipped = refl
status_derived ValidationSkipped Synced = refl
status_derived Synced Collated = refl
status_derived Synced Validated = refl
status_derived Synced ValidationSkipped = refl
status_derived Synced Synced = refl

kind_derived : (a b : BlockCacheEntryData) → kind_eq-value.it a b ≡ same_kind a b
kind_derived (collated s r g w p) (collated s' r' g' w' p') =
    ap (λ (t : Bool). t && (beq r r' && (eqb g g' && (eqb w w' && eqb p p')))) (status_derived s s')
kind_derived (collated s r g w p) (received c d) = refl
kind_derived (received c d) (collated s r g w p) = refl
kind_derived (received c d) (received c' d') = refl

pub entry_derived : (a b : BlockCacheEntry) → entry_eq-value.it a b ≡ same_entry a b
unfolding same_entry
entry_derived a b =
    ap (λ (k : Bool). same_id a.block_id b.block_id && (same_prev_ids a.prev_ids b.prev_ids && (same_anchor a.top_anchor b.top_anchor
    && (eqb a.ref_by_mc_seqno b.ref_by_mc_seqno && (eqb a.payload b.payload && k))))) (kind_derived a.«data» b.«data»)
