-- RULES.md, Collated store and Received store: of one group, for every group, sound or not.
-- Assumes nothing.
use Rattle.block_records.specs.declared.questions.Refusal.{Refusal}
use Rattle.block_records.specs.declared.questions.Refusal.TheVariants.{AlreadyStored, NoRoom}
use Rattle.std.specs.Prelude.{Bool, false, true, ℕ, ltb, length, Option, None, Some, cond, is_some, Err, Ok, Result}
use Rattle.std.specs.Result.{result_map_both}
use Rattle.block_records.specs.declared.store_records.BlockCandidate.{BlockCandidate}
use Rattle.block_records.specs.declared.store_records.ReceivedBlock.{ReceivedBlock}
use Rattle.blocks_group.specs.declared.group.Group.{Group}
use Rattle.blocks_group.specs.declared.store.GroupStore.{GroupStore}
use Rattle.blocks_group.specs.declared.store.StoreAnswer.TheVariants.{Stored as stored_answer, Synced as synced_answer}
use Rattle.blocks_group.specs.declared.store.StoreStep.{StoreStep}
use Rattle.block_records.specs.layout.Listed.{listed}
use Rattle.block_records.specs.rules.BlockId.{same_id}
use Rattle.block_records.specs.rules.Entry.{fresh_collated, fresh_received, kind_received}
use Rattle.block_records.specs.rules.Limits.{entries_limit}
use Rattle.blocks_group.specs.arrays.Group.{block_at, put_block, refresh_group}
use Rattle.blocks_group.specs.layout.Block.{BlockParts, block_kind, pack_block, with_block_data}
use Rattle.blocks_group.specs.rules.Group.{collated_kind, given_mark, received_kind}

-- the mark reaches the seqno
abbrev pub known_synced : ℕ → Option ℕ → Bool
known_synced n m = is_some (given_mark n m)

-- fewer blocks are listed than there are places
abbrev pub has_place : {B : Type 0} → Group B → Bool
has_place g = ltb (length (listed g.entries)) entries_limit

-- stored, with the two flags and the change
abbrev pub stored_step : {B : Type 0} → Bool → Bool → Option B → StoreStep B
stored_step both mismatch change = record { answer = stored_answer both mismatch; change = change }

-- a fresh block, or 8 if no place is left
abbrev pub fresh_step : {B : Type 0} → Bool → B → Result (StoreStep B) Refusal
fresh_step room b = cond room (Ok (stored_step false false (Some b))) (Err NoRoom)

-- what is made of a value; a refusal stays
abbrev pub map_ok : {A C : Type 0} → (A → C) → Result A Refusal → Result C Refusal
map_ok made = result_map_both made (λ refusal. refusal)

module _ {B : Type 0} (k : BlockParts B) where
  -- The collated store, by whether the group has a place left and by the block at the candidate's seqno. None: a fresh one, or 8 if no place is left. A
  -- Collated one: 7. A Received one with the candidate's id: its kind becomes `collated_kind`, and both is answered; with another id it stays, and
  -- mismatch is answered.
  unfoldable pub collated_step : BlockCandidate → Bool → Option B → Result (StoreStep B) Refusal
  collated_step c room None = fresh_step room (pack_block k (fresh_collated c))
  collated_step c room (Some b) =
      cond (kind_received (block_kind k b))
      (cond (same_id (k.entry b).block_id c.block_id)
      (Ok (stored_step true false (Some (with_block_data k (collated_kind c (block_kind k b)) b))))
      (Ok (stored_step false true None)))
      (Err AlreadyStored)

  -- The received store of a block that is not synced, by the same two. None: a fresh one, or 8 if no place is left. A Received one: 7. A Collated one
  -- with the block's id: its kind becomes `received_kind`, and both is answered; with another id a fresh one takes its place, and mismatch is answered.
  unfoldable pub received_step : ℕ → ReceivedBlock → Bool → Option B → Result (StoreStep B) Refusal
  received_step zerostate r room None = fresh_step room (pack_block k (fresh_received zerostate r))
  received_step zerostate r room (Some b) =
      cond (kind_received (block_kind k b)) (Err AlreadyStored)
      (cond (same_id (k.entry b).block_id r.block_id)
      (Ok (stored_step true false (Some (with_block_data k (received_kind (block_kind k b)) b))))
      (Ok (stored_step false true (Some (pack_block k (fresh_received zerostate r))))))

  -- the change put into the group, if there is one
  abbrev pub put_change : Option B → Group B → Group B
  put_change None g = g
  put_change (Some b) g = put_block k b g

  -- the same, and the mark refreshed with the change
  abbrev pub put_refreshed : ℕ → Option B → Group B → Group B
  put_refreshed n None g = g
  put_refreshed n (Some b) g = refresh_group n (put_block k b g)

  -- the step's answer, and the group with its change
  abbrev pub collated_in : Group B → StoreStep B → GroupStore B
  collated_in g s = record { answer = s.answer; group = put_change s.change g }

  -- the same, and the mark refreshed with the change
  abbrev pub received_in : ℕ → Group B → StoreStep B → GroupStore B
  received_in n g s = record { answer = s.answer; group = put_refreshed n s.change g }

  -- Collated store: the step at what stands at the candidate's seqno; the mark stays.
  unfoldable pub collated_store : BlockCandidate → Group B → Result (GroupStore B) Refusal
  collated_store c g = map_ok (collated_in g) (collated_step c (has_place g) (block_at k c.block_id.seqno g))

  -- Received store: where the group's mark reaches the block's seqno, Synced and the group as it was; else the step at what stands at that seqno.
  unfoldable pub received_store : ℕ → ReceivedBlock → Group B → Result (GroupStore B) Refusal
  received_store zerostate r g =
      cond (known_synced r.block_id.seqno g.mark)
      (Ok (record { answer = synced_answer; group = g }))
      (map_ok (received_in r.block_id.seqno g) (received_step zerostate r (has_place g) (block_at k r.block_id.seqno g)))
