-- On a packed group of rising seqnos a store is the rule of the model, packed: questions 7 and 8, then the change that the rule makes.
-- Assumes nothing.
use Rattle.block_records.specs.declared.questions.Refusal.{Refusal}
use Rattle.block_records.specs.declared.questions.Refusal.TheVariants.{AlreadyStored, NoRoom}
use Rattle.std.specs.Prelude.{Option, option_map, None, Some, cond, is_some, Err, Ok, Result}
use mathlib.Core.Bool.{Bool, ◌||◌, false, not, true}
use mathlib.Core.List.{List, [], ◌∷◌}
use mathlib.Core.Path.{◌∙◌, ◌≡◌, ap, ap₂, refl}
use Prim.Native.Nat.{◌≤◌, ℕ}
use borrow.Author.Tests.{eqb-true}
use lib.Dec.{ltb}
use lib.ListN.{length}
use Rattle.block_records.specs.declared.block_id.BlockId.{BlockId}
use Rattle.block_records.specs.declared.entry.BlockCacheEntryData.{BlockCacheEntryData}
use Rattle.block_records.specs.declared.store_records.BlockCandidate.{BlockCandidate}
use Rattle.block_records.specs.declared.store_records.ReceivedBlock.{ReceivedBlock}
use Rattle.blocks_group.specs.declared.group.Group.{Group}
use Rattle.blocks_group.specs.declared.store.GroupStore.{GroupStore}
use Rattle.blocks_group.specs.declared.store.StoreAnswer.{StoreAnswer}
use Rattle.blocks_group.specs.declared.store.StoreAnswer.TheVariants.{Stored as stored_answer, Synced as synced_answer}
use Rattle.blocks_group.specs.declared.store.StoreStep.{StoreStep}
use Rattle.block_records.proofs.rules.Finds.{find_passes}
use Rattle.block_records.proofs.rules.Tests.{absurd_eq, on, some_not_none}
use Rattle.block_records.specs.rules.BlockId.{same_id}
use Rattle.block_records.specs.rules.Entry.{Entry, fresh_received, is_received, kind_received, with_kind}
use Rattle.block_records.specs.rules.Lists.{rising}
use Rattle.block_records.specs.rules.Questions.{Question, ask, first_no}
use Rattle.blocks_group.proofs.arrays.GroupLaws.{block_at_packed, put_block_packed, put_model_fits, refresh_packed}
use Rattle.blocks_group.proofs.layout.BlockLaws.{packed_entry, packed_kind, packed_with_kind}
use Rattle.blocks_group.proofs.layout.GroupLaws.{listed_packed}
use Rattle.blocks_group.proofs.rules.GroupLaws.{put_fits}
use Rattle.blocks_group.specs.arrays.Group.{refresh_group}
use Rattle.blocks_group.specs.arrays.Store.{collated_in, collated_step, has_place, put_change, put_refreshed, map_ok, received_in, received_step, collated_store, received_store, stored_step}
use Rattle.blocks_group.specs.layout.Block.{BlockLaws, BlockParts, block_kind, pack_block, with_block_data}
use Rattle.blocks_group.specs.layout.Group.{pack_group}
use Rattle.blocks_group.specs.rules.Group.{GroupModel, Stored, at_seqno, changed_entries, collated_kind, entry_before, given_mark, has_seqno, received_kind, refresh, store_collated_at, store_received_at, vacant_or, with_entries}
use Rattle.std.proofs.lemmas.List.{length-map}

-- ===== the stores of the model =====

-- 7, then 8: no entry stands there or one that passes; an entry stands there or there is room
abbrev pub place_questions : (Entry → Bool) → Option Entry → Bool → List Question
place_questions other o room = ask AlreadyStored (vacant_or other o) ∷ ask NoRoom (is_some o || room) ∷ []

abbrev pub collated_place_questions : Option Entry → Bool → List Question
collated_place_questions o room = place_questions is_received o room

abbrev pub received_place_questions : Option Entry → Bool → List Question
received_place_questions o room = place_questions (λ (e : Entry). not (is_received e)) o room

pub record ModelStore : Type 0 where
  pub answer : StoreAnswer
  pub group : GroupModel

-- refused; else a value
abbrev pub unless : {A : Type 0} → Option Refusal → A → Result A Refusal
unless None x = Ok x
unless (Some refusal) x = Err refusal

-- stored, with the two flags
abbrev pub stored_into : Stored → GroupModel → ModelStore
stored_into s g = record { answer = stored_answer s.both s.mismatch; group = g }

abbrev pub with_change : Option Entry → GroupModel → GroupModel
with_change x g = with_entries (changed_entries x g.entries) g

abbrev pub model_room : GroupModel → Bool
model_room g = ltb (length g.entries) 16

-- the collated store, by what stands at the candidate's seqno
abbrev pub collated_outcome : BlockCandidate → Option Entry → GroupModel → Result ModelStore Refusal
collated_outcome c o g =
    unless (first_no (collated_place_questions o (model_room g))) (stored_into (store_collated_at c o) (with_change (store_collated_at c o).change g))

-- the received store: Synced, or by what stands at its seqno; then the mark is refreshed
abbrev pub received_outcome : ℕ → ReceivedBlock → Option Entry → GroupModel → Result ModelStore Refusal
received_outcome zerostate r o g =
    cond (is_some (given_mark r.block_id.seqno g.mark))
    (Ok (record { answer = synced_answer; group = g }))
    (unless (first_no (received_place_questions o (model_room g)))
    (stored_into (store_received_at zerostate r o) (refresh r.block_id.seqno (with_change (store_received_at zerostate r o).change g))))

-- ===== what is put stands at the seqno, so that it fits =====

abbrev StandsAt : ℕ → Option Entry → Type 0
StandsAt n None = Unit {0}
StandsAt n (Some e) = e.id.seqno ≡ n

found_stands : (n : ℕ) (es : List Entry) (o : Option Entry) → at_seqno n es ≡ o → StandsAt n o
found_stands n es None f = tt
found_stands n es (Some e) f = eqb-true e.id.seqno n (find_passes (has_seqno n) es f)

collated_stands : (c : BlockCandidate) (o : Option Entry) → StandsAt c.block_id.seqno o → StandsAt c.block_id.seqno (store_collated_at c o).change
collated_stands c None h = refl
collated_stands c (Some e) h = on (same_id e.id c.block_id) (λ t. rw t h) (λ t. rw t tt)

received_stands : (z : ℕ) (r : ReceivedBlock) (o : Option Entry) → StandsAt r.block_id.seqno o → StandsAt r.block_id.seqno (store_received_at z r o).change
received_stands z r None h = refl
received_stands z r (Some e) h = on (same_id e.id r.block_id) (λ t. rw t h) (λ t. rw t refl)

-- a received store that is not refused puts an entry in
received_changes : (z : ℕ) (r : ReceivedBlock) (o : Option Entry) → is_some (store_received_at z r o).change ≡ true
received_changes z r None = refl
received_changes z r (Some e) = on (same_id e.id r.block_id) (λ t. rw t) (λ t. rw t)

room_asked : (other : Entry → Bool) (o : Option Entry) (room : Bool) → first_no (place_questions other o room) ≡ None → is_some o || room ≡ true
room_asked other None true h = refl
room_asked other None false h = some_not_none refl h
room_asked other (Some e) room h = refl

module _ (n : ℕ) (g : GroupModel) (rises : rising entry_before g.entries ≡ true) (few : length g.entries ≤ 16) where
  change_fits : (x : Option Entry) → StandsAt n x → is_some (at_seqno n g.entries) || model_room g ≡ true → length (changed_entries x g.entries) ≤ 16
  change_fits None s room = few
  change_fits (Some e) s room = put_fits n e g (at_seqno n g.entries) rises few refl s room

  passed_fits : (other : Entry → Bool) (x : Option Entry) → StandsAt n x → first_no (place_questions other (at_seqno n g.entries) (model_room g)) ≡ None →
      length (changed_entries x g.entries) ≤ 16
  passed_fits other x s q = change_fits x s (room_asked other (at_seqno n g.entries) (model_room g) q)

-- a store of the model, as it is held
abbrev pub pack_stored : {B : Type 0} → BlockParts B → ModelStore → GroupStore B
pack_stored k s = record { answer = s.answer; group = pack_group k s.group }

abbrev pub pack_store : {B : Type 0} → BlockParts B → Result ModelStore Refusal → Result (GroupStore B) Refusal
pack_store k = map_ok (pack_stored k)

-- two values that are one where nothing is refused
unless_same : {A C D : Type 0} (f : A → D) (h : C → D) (x : A) (y : C) (q : Option Refusal) → (q ≡ None → f x ≡ h y) → map_ok f (unless q x) ≡ map_ok h (unless q y)
unless_same f h x y None e = ap Ok (e refl)
unless_same f h x y (Some n) e = refl

module _ {B : Type 0} (k : BlockParts B) (h : BlockLaws k) where
  -- ===== a step at a packed block =====

  -- the step of a rule's result
  abbrev packed_step : Stored → StoreStep B
  packed_step s = stored_step s.both s.mismatch (option_map (pack_block k) s.change)

  -- a block with the kind that a store makes of its own
  changed_packed : (f : BlockCacheEntryData → BlockCacheEntryData) (e : Entry) →
      with_block_data k (f (block_kind k (pack_block k e))) (pack_block k e) ≡ pack_block k (with_kind (f e.kind) e)
  changed_packed f e = ap (λ (d : BlockCacheEntryData). with_block_data k (f d) (pack_block k e)) (packed_kind k h e) ∙ packed_with_kind k h (f e.kind) e

  abbrev collated_at : BlockCandidate → BlockCacheEntryData → BlockId → B → Result (StoreStep B) Refusal
  collated_at c d i b = cond (kind_received d) (cond (same_id i c.block_id) (Ok (stored_step true false (Some b))) (Ok (stored_step false true None))) (Err AlreadyStored)

  collated_step_packed : (c : BlockCandidate) (room : Bool) (o : Option Entry) →
      collated_step k c room (option_map (pack_block k) o) ≡ unless (first_no (collated_place_questions o room)) (packed_step (store_collated_at c o))
  unfolding collated_step
  collated_step_packed c true None = refl
  collated_step_packed c false None = refl
  collated_step_packed c room (Some e) =
      (λ i. collated_at c (packed_kind k h e i) (packed_entry k h e i).block_id (changed_packed (collated_kind c) e i))
      ∙ on (is_received e) (λ t. rw t (on (same_id e.id c.block_id) (λ u. rw u) (λ u. rw u))) (λ t. rw t)

  abbrev received_at : ReceivedBlock → BlockCacheEntryData → BlockId → B → B → Result (StoreStep B) Refusal
  received_at r d i b fresh =
      cond (kind_received d) (Err AlreadyStored) (cond (same_id i r.block_id) (Ok (stored_step true false (Some b))) (Ok (stored_step false true (Some fresh))))

  received_step_packed : (z : ℕ) (r : ReceivedBlock) (room : Bool) (o : Option Entry) →
      received_step k z r room (option_map (pack_block k) o) ≡ unless (first_no (received_place_questions o room)) (packed_step (store_received_at z r o))
  unfolding received_step
  received_step_packed z r true None = refl
  received_step_packed z r false None = refl
  received_step_packed z r room (Some e) =
      (λ i. received_at r (packed_kind k h e i) (packed_entry k h e i).block_id (changed_packed received_kind e i) (pack_block k (fresh_received z r)))
      ∙ on (is_received e) (λ t. rw t) (λ t. rw t (on (same_id e.id r.block_id) (λ u. rw u) (λ u. rw u)))

  -- ===== a change put into a packed group =====

  room_packed : (g : GroupModel) → has_place (pack_group k g) ≡ model_room g
  room_packed g = ap (λ (bs : List B). ltb (length bs) 16) (listed_packed k g) ∙ ap (λ (n : ℕ). ltb n 16) (length-map g.entries (pack_block k))

  put_change_packed : (g : GroupModel) (x : Option Entry) → length (changed_entries x g.entries) ≤ 16 →
      put_change k (option_map (pack_block k) x) (pack_group k g) ≡ pack_group k (with_change x g)
  put_change_packed g None f = refl
  put_change_packed g (Some e) f = put_block_packed k h e g ∙ ap (pack_group k) (put_model_fits e g f)

  put_refreshed_packed : (n : ℕ) (g : GroupModel) (x : Option Entry) → is_some x ≡ true → length (changed_entries x g.entries) ≤ 16 →
      put_refreshed k n (option_map (pack_block k) x) (pack_group k g) ≡ pack_group k (refresh n (with_change x g))
  put_refreshed_packed n g None p f = absurd_eq p
  put_refreshed_packed n g (Some e) p f = ap (refresh_group n) (put_change_packed g (Some e) f) ∙ refresh_packed k h (with_change (Some e) g) n

  -- ===== the stores =====

  module _ (g : GroupModel) (rises : rising entry_before g.entries ≡ true) (few : length g.entries ≤ 16) where
    pub store_collated_packed : (c : BlockCandidate) → collated_store k c (pack_group k g) ≡ pack_store k (collated_outcome c (at_seqno c.block_id.seqno g.entries) g)
    unfolding collated_store
    store_collated_packed c =
        let n = c.block_id.seqno in
        let o : Option Entry = at_seqno n g.entries in
        let s : Stored = store_collated_at c o in
        let into : StoreStep B → GroupStore B = collated_in k (pack_group k g) in
        ap₂ (λ (room : Bool) (x : Option B). map_ok into (collated_step k c room x)) (room_packed g) (block_at_packed k h n g rises)
        ∙ ap (map_ok into) (collated_step_packed c (model_room g) o)
        ∙ unless_same into (pack_stored k) (packed_step s) (stored_into s (with_change s.change g)) (first_no (collated_place_questions o (model_room g)))
        (λ e. ap (λ (x : Group B). record { answer = stored_answer s.both s.mismatch; group = x })
        (put_change_packed g s.change (passed_fits n g rises few is_received s.change (collated_stands c o (found_stands n g.entries o refl)) e)))

    pub store_received_packed : (z : ℕ) (r : ReceivedBlock) → received_store k z r (pack_group k g) ≡ pack_store k (received_outcome z r (at_seqno r.block_id.seqno g.entries) g)
    unfolding received_store
    store_received_packed z r =
        let n = r.block_id.seqno in
        let o : Option Entry = at_seqno n g.entries in
        let s : Stored = store_received_at z r o in
        let into : StoreStep B → GroupStore B = received_in k n (pack_group k g) in
        on (is_some (given_mark n g.mark))
        (λ t. rw t)
        (λ t. rw t
        (ap₂ (λ (room : Bool) (x : Option B). map_ok into (received_step k z r room x)) (room_packed g) (block_at_packed k h n g rises)
        ∙ ap (map_ok into) (received_step_packed z r (model_room g) o)
        ∙ unless_same into (pack_stored k) (packed_step s) (stored_into s (refresh n (with_change s.change g))) (first_no (received_place_questions o (model_room g)))
        (λ e. ap (λ (x : Group B). record { answer = stored_answer s.both s.mismatch; group = x })
        (put_refreshed_packed n g s.change (received_changes z r o)
        (passed_fits n g rises few (λ (x : Entry). not (is_received x)) s.change (received_stands z r o (found_stands n g.entries o refl)) e)))))
