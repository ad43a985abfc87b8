-- On a packed group, what the code does to the places is the rule of the model, packed; and what a lookup then answers.
-- Assumes nothing.
use Rattle.std.specs.Prelude.{Err, Option, option_map, None, Some, map, cond, filter}
use mathlib.Core.Bool.{Bool, ◌||◌, false, not, true}
use mathlib.Core.List.{List}
use mathlib.Core.Path.{◌∙◌, ◌≡◌, ap, refl, sym}
use Prim.Native.Nat.{◌≤◌, ℕ}
use borrow.Author.Tests.{le-leb, lt-leb, ltb-false, ltb-true}
use lib.Dec.{eqb, leb, ltb}
use lib.ListN.{length}
use Rattle.block_records.specs.declared.block_id.BlockIdShort.{BlockIdShort}
use Rattle.block_records.proofs.arrays.ArrayLaws.{each_put, each_select}
use Rattle.block_records.proofs.rules.ListLaws.{by_number, rising_each, rising_put, rising_select}
use Rattle.block_records.proofs.rules.Tests.{on}
use Rattle.blocks_group.specs.declared.group.Group.{Group}
use Rattle.block_records.specs.layout.Listed.{listed, packed}
use Rattle.block_records.specs.rules.Entry.{Entry, is_received, kind_received}
use Rattle.block_records.specs.rules.Lists.{put, rising}
use Rattle.blocks_group.proofs.arrays.LookupLaws.{find_each, find_retained, if_passes, seqno_place_finds}
use Rattle.blocks_group.proofs.layout.BlockLaws.{packed_before, packed_kind, packed_seqno}
use Rattle.blocks_group.proofs.layout.GroupLaws.{listed_packed}
use Rattle.blocks_group.proofs.rules.GroupLaws.{at_without_same, entry_seqno}
use Rattle.blocks_group.specs.arrays.Group.{block_at, found_at, other_seqno, place_of_seqno, put_block, refresh_group, without_block, retain_blocks}
use Rattle.blocks_group.specs.arrays.Search.{seqno_place}
use Rattle.blocks_group.specs.layout.Block.{BlockLaws, BlockParts, block_before, block_kind, block_seqno, pack_block, zero_block}
use Rattle.blocks_group.specs.layout.Group.{pack_group, with_blocks}
use Rattle.blocks_group.specs.rules.Group.{GroupModel, at_seqno, below_boundary, collated_above, collected, entry_before, has_seqno, refresh, with_entries, without, without_collated_above}
use Rattle.std.proofs.lemmas.List.{length-map}

-- where it would be the 17th, nothing changes
abbrev pub put_model : Entry → GroupModel → GroupModel
put_model e m = cond (leb (length (put entry_before e m.entries)) 16) (with_entries (put entry_before e m.entries) m) m

pub put_model_fits : (e : Entry) (m : GroupModel) → length (put entry_before e m.entries) ≤ 16 → put_model e m ≡ with_entries (put entry_before e m.entries) m
put_model_fits e m h = rw (le-leb (length (put entry_before e m.entries)) 16 h)

-- after entries are retained
pub at_retained : (n : ℕ) (p : Entry → Bool) (es : List Entry) → rising entry_before es ≡ true → at_seqno n (filter p es) ≡ if_passes p (at_seqno n es)
at_retained n p es r = find_retained entry_seqno n p es r

-- where the search finds no place for a block of the seqno, there is none
pub block_vacant : {B : Type 0} (k : BlockParts B) (n j : ℕ) (g : Group B) → place_of_seqno k n g ≡ Err j → block_at k n g ≡ None
block_vacant k n j g e = ap (found_at (zero_block k) (listed g.entries)) e

module _ {B : Type 0} (k : BlockParts B) (h : BlockLaws k) where
  -- ===== a block put in its place =====

  module _ (e : Entry) (m : GroupModel) where
    pub put_block_packed : put_block k (pack_block k e) (pack_group k m) ≡ pack_group k (put_model e m)
    put_block_packed =
        let after = put entry_before e m.entries in
        let l = length-map after (pack_block k) in
        ap (λ (bs : List B). record { mark = m.mark; boundary = m.boundary; entries = cond (leb (length bs) 16) (packed 16 (zero_block k) bs) (pack_group k m).entries })
        (ap (put (block_before k) (pack_block k e)) (listed_packed k m) ∙ each_put (pack_block k) entry_before (block_before k) (packed_before k h) e m.entries)
        ∙ on (leb (length after) 16)
        (λ t. rw (ap (λ (n : ℕ). leb n 16) l ∙ t, t))
        (λ t. rw (ap (λ (n : ℕ). leb n 16) l ∙ t, t))

  -- ===== blocks retained by a test =====

  -- a test of blocks that says what a test of the entries says
  module _ (q : B → Bool) (p : Entry → Bool) (same : (e : Entry) → q (pack_block k e) ≡ p e) (m : GroupModel) where
    pub retain_packed : retain_blocks k q (pack_group k m) ≡ pack_group k (with_entries (filter p m.entries) m)
    retain_packed =
        ap (λ (bs : List B). with_blocks k (filter q bs) (pack_group k m)) (listed_packed k m)
        ∙ ap (λ (bs : List B). with_blocks k bs (pack_group k m)) (each_select (pack_block k) p q same m.entries)

  -- from the boundary on: collect
  from_boundary : (key : BlockIdShort) (o : Option BlockIdShort) → o ≡ Some key → (e : Entry) → leb key.seqno (block_seqno k (pack_block k e)) ≡ not (below_boundary o e)
  from_boundary key o b e =
      ap (leb key.seqno) (packed_seqno k h e)
      ∙ rw b
      (on (ltb e.id.seqno key.seqno)
      (λ t. rw (t, lt-leb key.seqno e.id.seqno (ltb-true e.id.seqno key.seqno t)))
      (λ t. rw (t, le-leb key.seqno e.id.seqno (ltb-false e.id.seqno key.seqno t))))

  -- up to a seqno or Received: remove next collated
  up_to_or_received : (n : ℕ) (e : Entry) → leb (block_seqno k (pack_block k e)) n || kind_received (block_kind k (pack_block k e)) ≡ not (collated_above n e)
  up_to_or_received n e =
      (λ i. leb (packed_seqno k h e i) n || kind_received (packed_kind k h e i))
      ∙ on (ltb n e.id.seqno)
      (λ t. rw (t, lt-leb e.id.seqno n (ltb-true n e.id.seqno t)) (sym (not_not (is_received e))))
      (λ t. rw (t, le-leb e.id.seqno n (ltb-false n e.id.seqno t)))
    where
      not_not : (b : Bool) → not (not b) ≡ b
      not_not true = refl
      not_not false = refl

  of_another : (n : ℕ) (e : Entry) → other_seqno k n (pack_block k e) ≡ not (has_seqno n e)
  of_another n e = ap (λ (s : ℕ). not (eqb s n)) (packed_seqno k h e)

  module _ (m : GroupModel) where
    pub collected_packed : (key : BlockIdShort) → m.boundary ≡ Some key →
        retain_blocks k (λ (b : B). leb key.seqno (block_seqno k b)) (pack_group k m) ≡ pack_group k (collected m)
    collected_packed key b = retain_packed (λ (b : B). leb key.seqno (block_seqno k b)) (λ (e : Entry). not (below_boundary m.boundary e)) (from_boundary key m.boundary b) m

    pub without_collated_above_packed : (n : ℕ) →
        retain_blocks k (λ (b : B). leb (block_seqno k b) n || kind_received (block_kind k b)) (pack_group k m) ≡ pack_group k (without_collated_above n m)
    without_collated_above_packed n =
        retain_packed (λ (b : B). leb (block_seqno k b) n || kind_received (block_kind k b)) (λ (e : Entry). not (collated_above n e)) (up_to_or_received n) m

    pub remove_block_packed : (n : ℕ) → without_block k n (pack_group k m) ≡ pack_group k (with_entries (without n m.entries) m)
    remove_block_packed n = retain_packed (other_seqno k n) (λ (e : Entry). not (has_seqno n e)) (of_another n) m

    -- ===== the mark =====

    pub refresh_packed : (n : ℕ) → refresh_group n (pack_group k m) ≡ pack_group k (refresh n m)
    refresh_packed n = refl

  -- ===== what a lookup answers: the entry at the seqno, packed =====

  module _ (n : ℕ) (m : GroupModel) (rises : rising entry_before m.entries ≡ true) where
    pub block_at_packed : block_at k n (pack_group k m) ≡ option_map (pack_block k) (at_seqno n m.entries)
    block_at_packed =
        ap (λ (bs : List B). found_at (zero_block k) bs (seqno_place n (map (block_seqno k) bs))) (listed_packed k m)
        ∙ seqno_place_finds (block_seqno k) n (zero_block k) (map (pack_block k) m.entries)
        (rising_each (pack_block k) entry_before (block_before k) m.entries (λ x y t. packed_before k h x y ∙ t) rises)
        ∙ find_each (pack_block k) (has_seqno n) (λ (b : B). eqb (block_seqno k b) n) (λ e. ap (λ (s : ℕ). eqb s n) (packed_seqno k h e)) m.entries

  -- ===== and after a put, a removal and a retain, on a packed group of rising seqnos =====

  module _ (n : ℕ) (m : GroupModel) (rises : rising entry_before m.entries ≡ true) where
    pub block_at_put : (e : Entry) → length (put entry_before e m.entries) ≤ 16 →
        block_at k n (put_block k (pack_block k e) (pack_group k m)) ≡ option_map (pack_block k) (at_seqno n (put entry_before e m.entries))
    block_at_put e fits =
        ap (block_at k n) (put_block_packed e m ∙ ap (pack_group k) (put_model_fits e m fits))
        ∙ block_at_packed n (with_entries (put entry_before e m.entries) m) (rising_put entry_before (by_number entry_seqno) e m.entries rises)

    pub block_at_retained : (q : B → Bool) (p : Entry → Bool) → ((e : Entry) → q (pack_block k e) ≡ p e) →
        block_at k n (retain_blocks k q (pack_group k m)) ≡ option_map (pack_block k) (if_passes p (at_seqno n m.entries))
    block_at_retained q p same =
        ap (block_at k n) (retain_packed q p same m)
        ∙ block_at_packed n (with_entries (filter p m.entries) m) (rising_select entry_before p m.entries rises)
        ∙ ap (option_map (pack_block k)) (at_retained n p m.entries rises)

    -- a removed block is not found again
    pub block_at_removed : block_at k n (without_block k n (pack_group k m)) ≡ None
    block_at_removed =
        ap (block_at k n) (remove_block_packed m n)
        ∙ block_at_packed n (with_entries (without n m.entries) m) (rising_select entry_before (λ (e : Entry). not (has_seqno n e)) m.entries rises)
        ∙ ap (option_map (pack_block k)) (at_without_same n m.entries)
