-- Tail ids on a packed cache: each step is the rule's, packed; so is the whole walk; and the call.
-- Assumes nothing.
use Rattle.blocks_group.proofs.arrays.GroupLaws.{block_at_packed}
use Rattle.blocks_group.proofs.rules.GroupLaws.{GroupParts, group_parts}
use Rattle.blocks_group.specs.arrays.Group.{block_at}
use Rattle.blocks_group.specs.layout.Block.{master_laws, master_parts}
use Rattle.blocks_group.specs.layout.Group.{pack_group}
use Rattle.blocks_group.specs.rules.Group.{at_seqno, has_seqno}
use Rattle.blocks_group.specs.rules.Soundness.{fits_in}
use Rattle.block_records.specs.declared.questions.Refusal.{Refusal}
use Rattle.block_records.specs.declared.questions.Refusal.TheVariants.{NoMaster, SeqnoLimit, Unsound}
use Rattle.std.specs.List.{find, flat_map, fold}
use Rattle.std.specs.Prelude.{Option, option_map, None, Some, map, cond, is_some, Err, Ok, Result, is_none}
use Rattle.std.proofs.Common.{◌≡◌, ℕ, zero, suc, ◌+◌, ◌<◌, ◌≤◌, Bool, true, false, not, ◌||◌, eqb, leb, List, [], ◌∷◌, ◌++◌, length, get_or, take, set, sym, refl, ap, ◌∙◌, subst, ap₂, append_assoc, append-nil, le_refl, arith, length-append, get_or-take, lt-ltb, le-leb, leb-true}
use lib.Seq.{get_or_at}
use Rattle.block_records.specs.declared.block_id.BlockId.{BlockId}
use Rattle.block_records.specs.declared.block_id.BlockIdShort.{BlockIdShort}
use Rattle.block_records.specs.declared.block_id.ShardIdent.{ShardIdent}
use Rattle.block_records.specs.declared.entry.BlockCacheEntry.{BlockCacheEntry}
use Rattle.block_records.specs.declared.entry.MasterBlock.{MasterBlock}
use Rattle.block_records.specs.declared.top_block.TopBlock.{TopBlock}
use Rattle.blocks_cache.specs.declared.cache.Cache.{Cache}
use Rattle.blocks_cache.specs.declared.tail_ids.TailIdsRow.{TailIdsRow}
use Rattle.blocks_cache.specs.declared.tail_ids.TailWalk.{TailWalk}
use Rattle.block_records.proofs.arrays.ArrayLaws.{each_put, padded_longer}
use Rattle.block_records.proofs.arrays.PlaceLaws.{at_within, element_at, place_each, place_finds, put_replaces}
use Rattle.block_records.proofs.arrays.ScanLaws.{overwritten_padded, put_longer, replaced_length, set_replaces}
use Rattle.block_records.proofs.layout.EntryLaws.{take_padded, view_pack_prev_ids, view_pack_tops}
use Rattle.block_records.proofs.rules.BlockIdLaws.{shard_order}
use Rattle.block_records.proofs.rules.Finds.{find_member}
use Rattle.block_records.proofs.rules.ListLaws.{every_member}
use Rattle.block_records.proofs.rules.OrderLaws.{differs, less_not_same}
use Rattle.block_records.proofs.rules.Tests.{clash, on}
use Rattle.block_records.specs.arrays.Arrays.{overwritten, spliced}
use Rattle.block_records.specs.arrays.Place.{place}
use Rattle.block_records.specs.layout.Entry.{pack_entry, pack_master, pack_prev_ids, pack_tops}
use Rattle.block_records.specs.layout.Zeros.{zero_id, zero_prev_ids}
use Rattle.block_records.specs.rules.BlockId.{id_shard, is_masterchain, key, less_shard, listed_prev_ids, listed_tops, same_shard}
use Rattle.block_records.specs.rules.Entry.{Entry}
use Rattle.block_records.specs.rules.Lists.{padded, put, rising}
use Rattle.block_records.specs.rules.Questions.{Question, ask, entry_fits, first_no, key_fits, seqno_fits}
use Rattle.blocks_cache.proofs.layout.CheckLaws.{checked, checked_yes, next_refuses, passed_on, refused_by, sound_refuses}
use Rattle.blocks_cache.proofs.arrays.LookupLaws.{cached_block_packed}
use Rattle.blocks_cache.proofs.arrays.TailRowLaws.{passed, picked, row_level, row_once}
use Rattle.blocks_cache.proofs.arrays.TailWalkLaws.{queue_passed}
use Rattle.blocks_cache.proofs.layout.CacheLaws.{sound_cache_packed}
use Rattle.blocks_cache.proofs.layout.CallOnLaws.{on_sound, second_part_decides}
use Rattle.blocks_cache.specs.arrays.Lookup.{cached_block}
use Rattle.blocks_cache.specs.arrays.TailIds.{TailRows, TailStep, block_tails, cached_row, found_step, fresh_ids, hold_given, hold_row, listed_tails, missing_row, no_step, pack_tail, pack_tails, put_row, read_tails, replaces_row, row_at, row_before, row_below, row_held_at, row_place, set_row, step_of, tails_say, tails_at, take_queued, take_tail_id, view_tail, view_tails, with_rows, zero_tail, zeroed_tails}
use Rattle.blocks_cache.specs.layout.Cache.{call_on, pack, pack_outcome, sound_cache, unlent_outcome, view}
use Rattle.cache_rules.proofs.CountLaws.{shards_previous}
use Rattle.cache_rules.proofs.SoundLaws.{parts}
use Rattle.cache_rules.proofs.TailAnswer.{at_most_17, done_fits, ended, tails_same}
use Rattle.cache_rules.proofs.TailLevels.{flat_map_append}
use Rattle.cache_rules.proofs.TailRows.{fold_append, fold_rising}
use Rattle.cache_rules.specs.Calls.{Call, Effect, TailRow, read_tail_ids, refused, tail_ids, unlent}
use Rattle.cache_rules.specs.Effects.{answered, effect, outcome_of, plain, tail_ids_entry}
use Rattle.cache_rules.specs.Extraction.{previous_cached, top_id}
use Rattle.cache_rules.specs.Model.{Model, ShardModel, block_under}
use Rattle.cache_rules.specs.Refusals.{further, sound_model}
use Rattle.cache_rules.specs.TailIds.{first_row, found_gives, found_queues, gives, hold, hold_over, less_option, queues, tail_before, tails_of, top_ids}
use Rattle.cache_rules.specs.TailIdsOnce.{OnceWalk, knows, once_begin, once_id, once_one, once_times, unknown_ids}
use lib.ListN.{get_or-map}
use Rattle.std.proofs.lemmas.List.{get_or_default, length-map}
use Rattle.std.specs.Cmp.{second_so}

-- ===== rows, packed =====

view_pack_tail : (t : TailRow) → view_tail (pack_tail t) ≡ t
view_pack_tail t = λ i. record { shard = t.shard; id = t.id; previous = view_pack_prev_ids t.previous i }

view_pack_each : (ts : List TailRow) → map view_tail (map pack_tail ts) ≡ ts
view_pack_each [] = refl
view_pack_each (t ∷ ts) = ap₂ ◌∷◌ (view_pack_tail t) (view_pack_each ts)

listed_packed : (ts : List TailRow) → listed_tails (pack_tails ts) ≡ map pack_tail ts
listed_packed ts = take_padded 17 zero_tail (map pack_tail ts)

pub view_pack_tails : (ts : List TailRow) → view_tails (pack_tails ts) ≡ ts
view_pack_tails ts = ap (map view_tail) (listed_packed ts) ∙ view_pack_each ts

-- ===== a row held =====

-- whether a new row replaces the one that is held
replaces_packed : (t h : TailRow) → replaces_row (pack_tail t) (pack_tail h) ≡ not (is_some h.id) || less_option t.id h.id
replaces_packed t h = by t.id h.id
  where
    by : (a b : Option BlockId) → is_none b || less_option a b ≡ not (is_some b) || less_option a b
    by None None = refl
    by None (Some b) = refl
    by (Some a) None = refl
    by (Some a) (Some b) = refl

put_packed : (t : TailRow) (rows : List TailRow) → length (put tail_before t rows) ≤ 17 → put_row (pack_tail t) (pack_tails rows) ≡ pack_tails (put tail_before t rows)
put_packed t rows h =
    let e : put row_before (pack_tail t) (map pack_tail rows) ≡ map pack_tail (put tail_before t rows) = each_put pack_tail tail_before row_before (λ x y. refl) t rows in
    let n = length-map (put tail_before t rows) pack_tail in
    rw (listed_packed rows, e, le-leb (length (map pack_tail (put tail_before t rows))) 17 (omega arith))

abbrev row_under : ShardIdent → TailRow → Bool
row_under s t = less_shard t.shard s

abbrev row_of : ShardIdent → TailRow → Bool
row_of s t = same_shard t.shard s

place_packed : (s : ShardIdent) (rows : List TailRow) → row_place s (pack_tails rows) ≡ place (row_under s) (row_of s) rows
place_packed s rows = ap (place (row_below s) (row_at s)) (listed_packed rows) ∙ place_each pack_tail (row_below s) (row_at s) rows

-- d is any row
find_packed : (s : ShardIdent) (rows : List TailRow) → rising tail_before rows ≡ true → (d : TailRow) →
    find (row_of s) rows ≡ element_at (row_under s) (row_of s) d (row_place s (pack_tails rows)) rows
find_packed s rows r d =
    place_finds (row_under s) (row_of s) tail_before (λ x t. less_not_same shard_order x.shard s t)
    (λ x y t u l. rw (differs shard_order y.shard s (λ e. clash (shard_order.trans s x.shard y.shard (shard_order.tri x.shard s u t) l) (rw e (shard_order.irrefl s))))) d rows r
    ∙ ap (λ (p : Result ℕ ℕ). element_at (row_under s) (row_of s) d p rows) (sym (place_packed s rows))

row_packed_at : (rows : List TailRow) (k : ℕ) (d : TailRow) → k < length rows → get_or (pack_tails rows).items k zero_tail ≡ pack_tail (get_or rows k d)
row_packed_at rows k d h =
    let n = length-map rows pack_tail in
    sym (get_or-take (length (map pack_tail rows)) (pack_tails rows).items k zero_tail (omega arith))
    ∙ ap (λ (xs : List TailIdsRow). get_or xs k zero_tail) (listed_packed rows)
    ∙ get_or_default (map pack_tail rows) k zero_tail (pack_tail d) (omega arith)
    ∙ get_or-map pack_tail rows k d

-- a row in the place of another of its shard
set_packed : (t : TailRow) (rows : List TailRow) (k : ℕ) → row_place t.shard (pack_tails rows) ≡ Ok k → k < length rows → set_row k (pack_tail t) (pack_tails rows) ≡ pack_tails (put tail_before t rows)
set_packed t rows k e l =
    let n = length-map rows pack_tail in
    let xs = map pack_tail rows in
    let m : put row_before (pack_tail t) xs ≡ spliced k (k + 1) (pack_tail t) xs =
    put_replaces row_before (pack_tail t) (row_at t.shard) (row_once (pack_tail t)) (row_level (pack_tail t)) xs k (sym (ap (place (row_below t.shard) (row_at t.shard)) (listed_packed rows)) ∙ e) in
    let q : put row_before (pack_tail t) xs ≡ map pack_tail (put tail_before t rows) = each_put pack_tail tail_before row_before (λ x y. refl) t rows in
    let s : take (length xs) (padded 17 zero_tail xs) ≡ xs = take_padded 17 zero_tail xs in
    let long = padded_longer 17 zero_tail xs in
    let c : length xs ≡ length (spliced k (k + 1) (pack_tail t) xs) =
    replaced_length (pack_tail t) (padded 17 zero_tail xs) (length xs) long k (omega arith) ∙ ap (λ (ys : List TailIdsRow). length (spliced k (k + 1) (pack_tail t) ys)) s in
    let a : set (padded 17 zero_tail xs) k (pack_tail t) ≡ padded 17 zero_tail (map pack_tail (put tail_before t rows)) =
    set_replaces (pack_tail t) (padded 17 zero_tail xs) (length xs) long k (omega arith)
    ∙ ap (λ (ys : List TailIdsRow). overwritten (spliced k (k + 1) (pack_tail t) ys) (padded 17 zero_tail xs)) s
    ∙ overwritten_padded 17 zero_tail (spliced k (k + 1) (pack_tail t) xs) xs (omega (arith, c))
    ∙ ap (padded 17 zero_tail) (sym m ∙ q) in
    let b : length xs ≡ length (map pack_tail (put tail_before t rows)) = c ∙ ap (λ (ys : List TailIdsRow). length ys) (sym m ∙ q) in
    λ i. record { count = b i; items = a i }

module _ (rows : List TailRow) (t : TailRow) (rises : rising tail_before rows ≡ true) (few : length (hold rows t) ≤ 17) where
  hold_by : (p : Result ℕ ℕ) → row_place t.shard (pack_tails rows) ≡ p → row_held_at (pack_tail t) p (pack_tails rows) ≡ pack_tails (hold rows t)
  hold_by (Err k) e =
      let f : find (row_of t.shard) rows ≡ None = find_packed t.shard rows rises t ∙ ap (λ (p : Result ℕ ℕ). element_at (row_under t.shard) (row_of t.shard) t p rows) e in
      let q : hold rows t ≡ put tail_before t rows = ap (λ (o : Option TailRow). hold_over t o rows) f in
      put_packed t rows (subst (λ (xs : List TailRow). length xs ≤ 17) q few) ∙ ap pack_tails (sym q)
  hold_by (Ok k) e =
      let h = get_or rows k t in
      let f : find (row_of t.shard) rows ≡ Some h = find_packed t.shard rows rises t ∙ ap (λ (p : Result ℕ ℕ). element_at (row_under t.shard) (row_of t.shard) t p rows) e in
      let l = at_within (row_under t.shard) (row_of t.shard) rows k (sym (place_packed t.shard rows) ∙ e) in
      let q : hold rows t ≡ cond (not (is_some h.id) || less_option t.id h.id) (put tail_before t rows) rows = ap (λ (o : Option TailRow). hold_over t o rows) f in
      let g : replaces_row (pack_tail t) (get_or (pack_tails rows).items k zero_tail) ≡ not (is_some h.id) || less_option t.id h.id =
      ap (replaces_row (pack_tail t)) (row_packed_at rows k t l) ∙ replaces_packed t h in
      on (not (is_some h.id) || less_option t.id h.id)
      (λ u.
      let v : hold rows t ≡ put tail_before t rows = q ∙ sym (picked (not (is_some h.id) || less_option t.id h.id) (put tail_before t rows) rows u) in
      sym (picked (replaces_row (pack_tail t) (get_or (pack_tails rows).items k zero_tail)) (set_row k (pack_tail t) (pack_tails rows)) (pack_tails rows) (g ∙ u))
      ∙ set_packed t rows k e l ∙ ap pack_tails (sym v))
      (λ u.
      let v : hold rows t ≡ rows = q ∙ sym (passed (not (is_some h.id) || less_option t.id h.id) (put tail_before t rows) rows u) in
      sym (passed (replaces_row (pack_tail t) (get_or (pack_tails rows).items k zero_tail)) (set_row k (pack_tail t) (pack_tails rows)) (pack_tails rows) (g ∙ u)) ∙ ap pack_tails (sym v))

  pub hold_packed : hold_row (pack_tail t) (pack_tails rows) ≡ pack_tails (hold rows t)
  unfolding hold_row
  hold_packed = hold_by (row_place t.shard (pack_tails rows)) refl

-- ===== what an id gives and queues =====

-- what a step does to packed rows, and the ids that it queues
record Says (s : TailStep) (given_rows : List TailRow) (queued_ids : List BlockId) : Type 0 where
  holds : (rows : List TailRow) → rising tail_before rows ≡ true → length (fold hold rows given_rows) ≤ 17 → hold_given s (pack_tails rows) ≡ pack_tails (fold hold rows given_rows)
  queues_them : listed_prev_ids s.queued ≡ queued_ids

no_step_says : Says no_step [] []
unfolding zero_prev_ids
no_step_says = record { holds = λ rows r h. refl; queues_them = refl }

missing_says : (i : BlockId) → Says (record { given = true; row = missing_row i; queued = zero_prev_ids }) (record { shard = id_shard i; id = None; previous = i ∷ [] } ∷ []) []
unfolding zero_prev_ids
missing_says i = record { holds = λ rows r h. hold_packed rows (record { shard = id_shard i; id = None; previous = i ∷ [] }) r h; queues_them = refl }

cached_says : (i : BlockId) (ps : List BlockId) →
    Says (record { given = true; row = cached_row i (pack_prev_ids ps); queued = pack_prev_ids ps }) (record { shard = id_shard i; id = Some i; previous = ps } ∷ []) ps
cached_says i ps = record { holds = λ rows r h. hold_packed rows (record { shard = id_shard i; id = Some i; previous = ps }) r h; queues_them = view_pack_prev_ids ps }

module _ (m : ℕ) (as_top : Bool) (i : BlockId) where
  found_says : (o : Option Entry) → Says (found_step m as_top i (option_map pack_entry o)) (found_gives m as_top i o) (found_queues m as_top o)
  found_says None = on as_top (λ t. rw t (missing_says i)) (λ t. rw t no_step_says)
  found_says (Some x) = on (as_top || eqb x.reference m) (λ t. rw t (cached_says i x.previous)) (λ t. rw t no_step_says)

  step_says : (mo : Model) → sound_model mo ≡ true → Says (step_of (pack mo) m as_top i) (gives mo.shards m as_top i) (queues mo.shards m as_top i)
  unfolding step_of
  step_says mo ok =
      let o = block_under mo.shards (key i) in
      let f : Says (found_step m as_top i (cached_block i (pack mo))) (found_gives m as_top i o) (found_queues m as_top o) =
      subst (λ (b : Option BlockCacheEntry). Says (found_step m as_top i b) (found_gives m as_top i o) (found_queues m as_top o)) (sym (cached_block_packed mo ok i)) (found_says o) in
      on (eqb i.seqno 0) (λ t. rw t no_step_says) (λ t. rw t f)

-- ===== rows do not become fewer =====

hold_longer : (rows : List TailRow) (t : TailRow) → length rows ≤ length (hold rows t)
hold_longer rows t = by (find (row_of t.shard) rows)
  where
    by : (o : Option TailRow) → length rows ≤ length (hold_over t o rows)
    by None = put_longer tail_before t rows
    by (Some h) = on (not (is_some h.id) || less_option t.id h.id) (λ u. rw u (put_longer tail_before t rows)) (λ u. rw u (le_refl (length rows)))

fold_longer : (ts rows : List TailRow) → length rows ≤ length (fold hold rows ts)
fold_longer [] rows = le_refl (length rows)
fold_longer (t ∷ ts) rows = omega (arith, hold_longer rows t, fold_longer ts (hold rows t))

-- ===== ids that are not known yet =====

unknown_append : (known xs ys : List BlockId) → unknown_ids known (xs ++ ys) ≡ unknown_ids known xs ++ unknown_ids (known ++ unknown_ids known xs) ys
unknown_append known [] ys = rw (append-nil known)
unknown_append known (x ∷ xs) ys =
    on (knows known x)
    (λ t. rw t (unknown_append known xs ys))
    (λ t.
    let a : known ++ (x ∷ unknown_ids (known ++ (x ∷ [])) xs) ≡ (known ++ (x ∷ [])) ++ unknown_ids (known ++ (x ∷ [])) xs = sym (append_assoc known (x ∷ []) (unknown_ids (known ++ (x ∷ [])) xs)) in
    rw (t, a) (ap (λ (r : List BlockId). x ∷ r) (unknown_append (known ++ (x ∷ [])) xs ys)))

fresh_unknown_ids : (known ps : List BlockId) → length (known ++ unknown_ids known ps) ≤ 256 → fresh_ids known ps ≡ unknown_ids known ps
unfolding fresh_ids
fresh_unknown_ids known ps h = rw (le-leb (length known + length (unknown_ids known ps)) 256 (omega (arith, length-append known (unknown_ids known ps))))

-- ===== the walk =====

-- nothing waits: nothing changes
once_idle : (k : ℕ) (gs : List ShardModel) (m : ℕ) (w : OnceWalk) → w.queue ≡ [] → once_times k gs m w ≡ w
once_idle zero gs m w e = refl
once_idle (suc k) gs m w e = ap (once_times k gs m) (ap (once_id gs m w) e) ∙ once_idle k gs m w e

-- turns after the end change nothing
once_ended : (k r : ℕ) (gs : List ShardModel) (m : ℕ) (w : OnceWalk) → (once_times k gs m w).queue ≡ [] → k ≤ r → once_times r gs m w ≡ once_times k gs m w
once_ended zero r gs m w e h = once_idle r gs m w e
once_ended (suc k) zero gs m w e h = absurd (omega arith)
once_ended (suc k) (suc r) gs m w e h = once_ended k r gs m (once_one gs m w) e (omega arith)

abbrev packed_state : List TailRow → List BlockId → TailWalk
packed_state rows known = record { tails = pack_tails rows; queue = known }

module _ (mo : Model) (ok : sound_model mo ≡ true) (m : ℕ) where
  abbrev gs : List ShardModel
  gs = mo.shards

  -- one id
  take_packed : (as_top : Bool) (i : BlockId) (rows : List TailRow) (known : List BlockId) → rising tail_before rows ≡ true →
      length (fold hold rows (gives gs m as_top i)) ≤ 17 → length (known ++ unknown_ids known (queues gs m as_top i)) ≤ 256 →
      take_tail_id (pack mo) m as_top (packed_state rows known) i ≡ packed_state (fold hold rows (gives gs m as_top i)) (known ++ unknown_ids known (queues gs m as_top i))
  unfolding take_tail_id
  take_packed as_top i rows known r h k =
      let s = step_says m as_top i mo ok in
      let a = s.holds rows r h in
      let b : known ++ fresh_ids known (listed_prev_ids (step_of (pack mo) m as_top i).queued) ≡ known ++ unknown_ids known (queues gs m as_top i) =
      ap (λ (ps : List BlockId). known ++ fresh_ids known ps) s.queues_them ∙ ap (λ (ps : List BlockId). known ++ ps) (fresh_unknown_ids known (queues gs m as_top i) k) in
      λ j. record { tails = a j; queue = b j }

  -- all tops in turn
  tops_packed : (is : List BlockId) (rows : List TailRow) (known : List BlockId) → rising tail_before rows ≡ true →
      length (fold hold rows (flat_map (gives gs m true) is)) ≤ 17 → length (known ++ unknown_ids known (flat_map (queues gs m true) is)) ≤ 256 →
      fold (take_tail_id (pack mo) m true) (packed_state rows known) is
      ≡ packed_state (fold hold rows (flat_map (gives gs m true) is)) (known ++ unknown_ids known (flat_map (queues gs m true) is))
  tops_packed [] rows known r h k = ap (packed_state rows) (sym (append-nil known))
  tops_packed (i ∷ is) rows known r h k =
      let rows₁ = fold hold rows (gives gs m true i) in
      let known₁ = known ++ unknown_ids known (queues gs m true i) in
      let a : fold hold rows (gives gs m true i ++ flat_map (gives gs m true) is) ≡ fold hold rows₁ (flat_map (gives gs m true) is) = fold_append hold rows (gives gs m true i) (flat_map (gives gs m true) is) in
      let b : known ++ unknown_ids known (queues gs m true i ++ flat_map (queues gs m true) is) ≡ known₁ ++ unknown_ids known₁ (flat_map (queues gs m true) is) =
      ap (λ (ps : List BlockId). known ++ ps) (unknown_append known (queues gs m true i) (flat_map (queues gs m true) is))
      ∙ sym (append_assoc known (unknown_ids known (queues gs m true i)) (unknown_ids known₁ (flat_map (queues gs m true) is))) in
      let h₁ : length (fold hold rows₁ (flat_map (gives gs m true) is)) ≤ 17 = subst (λ (xs : List TailRow). length xs ≤ 17) a h in
      let k₁ : length (known₁ ++ unknown_ids known₁ (flat_map (queues gs m true) is)) ≤ 256 = subst (λ (xs : List BlockId). length xs ≤ 256) b k in
      ap (λ (w : TailWalk). fold (take_tail_id (pack mo) m true) w is)
      (take_packed true i rows known r (omega (arith, fold_longer (flat_map (gives gs m true) is) rows₁, h₁))
      (omega (arith, length-append known₁ (unknown_ids known₁ (flat_map (queues gs m true) is)), k₁)))
      ∙ tops_packed is rows₁ known₁ (fold_rising (gives gs m true i) rows r) h₁ k₁
      ∙ ap₂ packed_state (sym a) (sym b)

  -- then the queue: each id once, from the rows that the tops gave
  module _ (rows₀ : List TailRow) (rises : rising tail_before rows₀ ≡ true) where
    abbrev rows_after : List BlockId → List TailRow
    rows_after ids = fold hold rows₀ (flat_map (gives gs m false) ids)

    rows_one : (ids : List BlockId) (i : BlockId) → rows_after (ids ++ (i ∷ [])) ≡ fold hold (rows_after ids) (gives gs m false i)
    rows_one ids i =
        ap (fold hold rows₀) (flat_map_append (gives gs m false) ids (i ∷ []) ∙ ap (λ (ts : List TailRow). flat_map (gives gs m false) ids ++ ts) (append-nil (gives gs m false i)))
        ∙ fold_append hold rows₀ (flat_map (gives gs m false) ids) (gives gs m false i)

    abbrev once_walked : ℕ → List BlockId → List BlockId → OnceWalk
    once_walked k ids queue = once_times k gs m (record { done = ids; queue = queue })

    -- the next turn's queue
    abbrev queue_after : List BlockId → BlockId → List BlockId → List BlockId
    queue_after ids i rest = rest ++ unknown_ids ((ids ++ (i ∷ [])) ++ rest) (queues gs m false i)

    known_one : (ids : List BlockId) (i : BlockId) (rest : List BlockId) →
        (ids ++ (i ∷ rest)) ++ unknown_ids (ids ++ (i ∷ rest)) (queues gs m false i) ≡ (ids ++ (i ∷ [])) ++ queue_after ids i rest
    known_one ids i rest =
        let e : ids ++ (i ∷ rest) ≡ (ids ++ (i ∷ [])) ++ rest = sym (append_assoc ids (i ∷ []) rest) in
        ap (λ (xs : List BlockId). xs ++ unknown_ids xs (queues gs m false i)) e ∙ append_assoc (ids ++ (i ∷ [])) rest (unknown_ids ((ids ++ (i ∷ [])) ++ rest) (queues gs m false i))

    -- neither rows nor known ids become fewer
    rows_grow : (k : ℕ) (ids queue : List BlockId) → length (rows_after ids) ≤ length (rows_after (once_walked k ids queue).done)
    rows_grow zero ids queue = le_refl (length (rows_after ids))
    rows_grow (suc k) ids [] = rows_grow k ids []
    rows_grow (suc k) ids (i ∷ rest) =
        omega (arith, fold_longer (gives gs m false i) (rows_after ids), ap length (rows_one ids i), rows_grow k (ids ++ (i ∷ [])) (queue_after ids i rest))

    known_grow : (k : ℕ) (ids queue : List BlockId) → length (ids ++ queue) ≤ length ((once_walked k ids queue).done ++ (once_walked k ids queue).queue)
    known_grow zero ids queue = le_refl (length (ids ++ queue))
    known_grow (suc k) ids [] = known_grow k ids []
    known_grow (suc k) ids (i ∷ rest) =
        omega (
          arith,
          length-append (ids ++ (i ∷ rest)) (unknown_ids (ids ++ (i ∷ rest)) (queues gs m false i)),
          ap length (known_one ids i rest),
          known_grow k (ids ++ (i ∷ [])) (queue_after ids i rest),
        )

    queue_packed : (k : ℕ) (ids queue : List BlockId) → length (rows_after (once_walked k ids queue).done) ≤ 17 → length ((once_walked k ids queue).done ++ (once_walked k ids queue).queue) ≤ 256 →
        take_queued k (pack mo) m (length ids) (packed_state (rows_after ids) (ids ++ queue))
        ≡ packed_state (rows_after (once_walked k ids queue).done) ((once_walked k ids queue).done ++ (once_walked k ids queue).queue)
    unfolding take_queued
    queue_packed zero ids queue h n = refl
    queue_packed (suc k) ids [] h n =
        queue_passed (suc k) (pack mo) m (length ids) (packed_state (rows_after ids) (ids ++ [])) (omega (arith, ap length (append-nil ids)))
        ∙ ap (λ (w : OnceWalk). packed_state (rows_after w.done) (w.done ++ w.queue)) (sym (once_idle k gs m (record { done = ids; queue = [] }) refl))
    queue_packed (suc k) ids (i ∷ rest) h n =
        let l : length (ids ++ (i ∷ rest)) ≡ length ids + length (i ∷ rest) = length-append ids (i ∷ rest) in
        let g : get_or (ids ++ (i ∷ rest)) (length ids) zero_id ≡ i = get_or_at ids i rest zero_id (length ids) refl in
        let next = ids ++ (i ∷ []) in
        let q : fold hold (rows_after ids) (gives gs m false i) ≡ rows_after next = sym (rows_one ids i) in
        let one : take_tail_id (pack mo) m false (packed_state (rows_after ids) (ids ++ (i ∷ rest))) i ≡ packed_state (rows_after next) (next ++ queue_after ids i rest) =
        take_packed false i (rows_after ids) (ids ++ (i ∷ rest)) (fold_rising (flat_map (gives gs m false) ids) rows₀ rises)
        (omega (arith, ap length q, rows_grow k next (queue_after ids i rest), h))
        (omega (arith, ap length (known_one ids i rest), known_grow k next (queue_after ids i rest), n))
        ∙ ap₂ packed_state q (known_one ids i rest) in
        let j : length ids + 1 ≡ length next = omega (arith, length-append ids (i ∷ [])) in
        rw (lt-ltb (length ids) (length (ids ++ (i ∷ rest))) (omega arith), g)
        (ap (take_queued k (pack mo) m (length ids + 1)) one
        ∙ ap (λ (x : ℕ). take_queued k (pack mo) m x (packed_state (rows_after next) (next ++ queue_after ids i rest))) j
        ∙ queue_packed k next (queue_after ids i rest) h n)

-- ===== a master's rows =====

module _ (mo : Model) (ok : sound_model mo ≡ true) (M : Entry) (fit : entry_fits M ≡ true) where
  abbrev mm : ℕ
  mm = M.id.seqno

  abbrev tops_rows : List TailRow
  tops_rows = fold hold (first_row M ∷ []) (flat_map (gives mo.shards mm true) (top_ids M))

  abbrev tops_queue : List BlockId
  tops_queue = unknown_ids [] (flat_map (queues mo.shards mm true) (top_ids M))

  previous_few : previous_cached mo.shards ≤ 256
  previous_few = let p = (parts mo ok).rest.shards in omega (arith, shards_previous mo.shards p.each_ok, leb-true (length mo.shards) 8 p.count)

  module _ (k : ℕ) (enough : previous_cached mo.shards ≤ k) where
    abbrev at_end : OnceWalk
    at_end = once_times (previous_cached mo.shards) mo.shards mm (once_begin mo.shards M)

    same_walk : once_times k mo.shards mm (once_begin mo.shards M) ≡ at_end
    same_walk = once_ended (previous_cached mo.shards) k mo.shards mm (once_begin mo.shards M) (ended mo ok M) enough

    end_rows : fold hold tops_rows (flat_map (gives mo.shards mm false) (once_times k mo.shards mm (once_begin mo.shards M)).done) ≡ tails_of mo.shards M
    end_rows = ap (λ (w : OnceWalk). fold hold tops_rows (flat_map (gives mo.shards mm false) w.done)) same_walk ∙ tails_same mo ok M

    end_few : length (fold hold tops_rows (flat_map (gives mo.shards mm false) (once_times k mo.shards mm (once_begin mo.shards M)).done)) ≤ 17
    end_few = subst (λ (ts : List TailRow). length ts ≤ 17) (sym end_rows) (at_most_17 mo ok M fit)

    known_few : length ((once_times k mo.shards mm (once_begin mo.shards M)).done ++ (once_times k mo.shards mm (once_begin mo.shards M)).queue) ≤ 256
    known_few =
        subst (λ (w : OnceWalk). length (w.done ++ w.queue) ≤ 256) (sym same_walk)
        (omega (arith, length-append at_end.done at_end.queue, ap length (ended mo ok M), done_fits mo ok M, previous_few))

    rises : rising tail_before tops_rows ≡ true
    rises = fold_rising (flat_map (gives mo.shards mm true) (top_ids M)) (first_row M ∷ []) refl

    tops_taken : fold (take_tail_id (pack mo) mm true) (packed_state (first_row M ∷ []) []) (map top_id (listed_tops (pack_tops M.tops))) ≡ packed_state tops_rows tops_queue
    tops_taken =
        ap (λ (ts : List TopBlock). fold (take_tail_id (pack mo) mm true) (packed_state (first_row M ∷ []) []) (map top_id ts)) (view_pack_tops M.tops)
        ∙ tops_packed mo ok mm (top_ids M) (first_row M ∷ []) [] refl
        (omega (arith, rows_grow mo ok mm tops_rows rises k [] tops_queue, end_few))
        (omega (arith, known_grow mo ok mm tops_rows rises k [] tops_queue, known_few))

    walk_packed : (take_queued k (pack mo) mm 0 (fold (take_tail_id (pack mo) mm true) (packed_state (first_row M ∷ []) []) (map top_id (listed_tops (pack_tops M.tops))))).tails
        ≡ pack_tails (tails_of mo.shards M)
    walk_packed =
        ap (λ (w : TailWalk). (take_queued k (pack mo) mm 0 w).tails) tops_taken
        ∙ ap (λ (w : TailWalk). w.tails) (queue_packed mo ok mm tops_rows rises k [] tops_queue end_few known_few)
        ∙ ap pack_tails end_rows

  pub block_tails_packed : block_tails (pack_master M) (pack mo) ≡ pack_tails (tails_of mo.shards M)
  unfolding block_tails
  block_tails_packed = walk_packed 256 previous_few

-- ===== the call =====

-- 12: the zerostate is not passed, or there is a master at the seqno
abbrev cached_question : BlockIdShort → Model → List Question
cached_question k m = ask NoMaster (leb k.seqno m.zerostate || is_some (at_seqno k.seqno m.masters.entries)) ∷ []

module _ (k : BlockIdShort) (mo : Model) (ok : sound_model mo ≡ true) where
  abbrev call : Call
  call = unlent (read_tail_ids k)

  abbrev masters_ok : GroupParts is_masterchain mo.masters
  masters_ok = group_parts is_masterchain mo.masters (parts mo ok).rest.masters

  master_fits : (M : Entry) → at_seqno k.seqno mo.masters.entries ≡ Some M → entry_fits M ≡ true
  master_fits M f =
      second_so (is_masterchain (id_shard M.id)) (entry_fits M)
      (every_member (fits_in is_masterchain) mo.masters.entries masters_ok.fit (find_member (has_seqno k.seqno) mo.masters.entries f))

  -- what is read, and that it has zeros in what its answer does not use
  abbrev Read : Result TailRows Refusal → Type 0
  Read r = (unlent_outcome (pack mo) (tails_say r) ≡ pack_outcome (answered (first_no (cached_question k mo)) mo (unlent (read_tail_ids k)))) × (r ≡ zeroed_tails r)

  -- the rule's outcome, by what was asked and what its effect is
  ruled : (o : Option Refusal) → first_no (cached_question k mo) ≡ o → pack_outcome (answered o mo call) ≡ pack_outcome (answered (first_no (cached_question k mo)) mo call)
  ruled o q = ap (λ (x : Option Refusal). pack_outcome (answered x mo call)) (sym q)

  effected : (e : Effect) → effect mo (read_tail_ids k) ≡ e → first_no (cached_question k mo) ≡ None →
      pack_outcome (outcome_of e []) ≡ pack_outcome (answered (first_no (cached_question k mo)) mo call)
  effected e q n = ap (λ (x : Effect). pack_outcome (outcome_of x [])) (sym q) ∙ ruled None n

  effect_early : leb k.seqno mo.zerostate ≡ true → effect mo (read_tail_ids k) ≡ plain (tail_ids []) mo
  unfolding effect
  effect_early h = sym (picked (leb k.seqno mo.zerostate) (plain (tail_ids []) mo) (tail_ids_entry (at_seqno k.seqno mo.masters.entries) mo) h)

  effect_late : leb k.seqno mo.zerostate ≡ false → (o : Option Entry) → at_seqno k.seqno mo.masters.entries ≡ o → effect mo (read_tail_ids k) ≡ tail_ids_entry o mo
  unfolding effect
  effect_late h o f =
      sym (passed (leb k.seqno mo.zerostate) (plain (tail_ids []) mo) (tail_ids_entry (at_seqno k.seqno mo.masters.entries) mo) h)
      ∙ ap (λ (x : Option Entry). tail_ids_entry x mo) f

  read_at : leb k.seqno mo.zerostate ≡ false → (o : Option Entry) → at_seqno k.seqno mo.masters.entries ≡ o → Read (tails_at (option_map pack_master o) (pack mo))
  read_at h None f = (ruled (Some NoMaster) (rw (h, f)), refl)
  read_at h (Some M) f =
      let ts = tails_of mo.shards M in
      let v : ◌≡◌ {A = Result TailRows Refusal} (Ok (block_tails (pack_master M) (pack mo))) (Ok (pack_tails ts)) = ap Ok (block_tails_packed mo ok M (master_fits M f)) in
      let s = view_pack_tails ts in (
        ap (λ (r : Result TailRows Refusal). unlent_outcome (pack mo) (tails_say r)) v ∙ ap (λ (xs : List TailRow). unlent_outcome (pack mo) (tail_ids xs)) s
            ∙ effected (plain (tail_ids ts) mo) (effect_late h (Some M) f) (rw (h, f)),
        v ∙ ap (λ (xs : List TailRow). Ok (pack_tails xs)) (sym s) ∙ ap zeroed_tails (sym v),
      )

  pub read_packed : Read (read_tails k.seqno (pack mo))
  unfolding read_tails
  read_packed =
      let at = tails_at (block_at master_parts k.seqno (pack_group master_parts mo.masters)) (pack mo) in
      on (leb k.seqno mo.zerostate)
      (λ h. subst Read (picked (leb k.seqno mo.zerostate) (Ok (with_rows [])) at h) (effected (plain (tail_ids []) mo) (effect_early h) (rw h), refl))
      (λ h.
      let e = block_at_packed master_parts master_laws k.seqno mo.masters masters_ok.order in
      subst Read (ap (λ (o : Option MasterBlock). tails_at o (pack mo)) (sym e) ∙ passed (leb k.seqno mo.zerostate) (Ok (with_rows [])) at h)
      (read_at h (at_seqno k.seqno mo.masters.entries) refl))

module _ (c : Cache) (k : BlockIdShort) where
  pub tails_unsound : (x : Refusal) → Err x ≡ checked (sound_cache c) Unsound → unlent_outcome c (refused x) ≡ call_on c (unlent (read_tail_ids k))
  tails_unsound = sound_refuses c (unlent (read_tail_ids k))

  module _ (ok : sound_cache c ≡ true) where
    asked_key : further (view c) 0 (read_tail_ids k) ≡ ask SeqnoLimit (key_fits k) ∷ cached_question k (view c)
    unfolding further
    asked_key = refl

    pub tails_refuses : (x : Refusal) → Err x ≡ checked (seqno_fits k.seqno) SeqnoLimit → unlent_outcome c (refused x) ≡ call_on c (unlent (read_tail_ids k))
    tails_refuses = next_refuses c (unlent (read_tail_ids k)) (key_fits k) SeqnoLimit (cached_question k (view c)) ok asked_key

    pub tails_are : seqno_fits k.seqno ≡ true → unlent_outcome c (tails_say (read_tails k.seqno c)) ≡ call_on c (unlent (read_tail_ids k))
    tails_are h =
        on_sound (unlent (read_tail_ids k)) (λ (x : Cache). unlent_outcome x (tails_say (read_tails k.seqno x))) (cached_question k) (λ m s. (read_packed k m s).0) c ok
        ∙ sym (second_part_decides c (unlent (read_tail_ids k)) ok (ask SeqnoLimit (key_fits k) ∷ []) (cached_question k (view c)) asked_key (rw h))

    pub tails_zeroed : read_tails k.seqno c ≡ zeroed_tails (read_tails k.seqno c)
    tails_zeroed =
        let p = sound_cache_packed c ok in
        subst (λ (x : Cache). read_tails k.seqno x ≡ zeroed_tails (read_tails k.seqno x)) (sym p.0) (read_packed k (view c) p.1).1

pub ruleset tail_calls = (passed_on, refused_by, checked_yes, tails_unsound, tails_refuses, tails_are, tails_zeroed)
