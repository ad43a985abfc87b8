-- Peek on a cache as it is held is the rule on its model; its result has zeros in what its answer does not use.
-- Assumes nothing.
use Rattle.block_records.specs.layout.Listed.{packed}
use Rattle.blocks_group.proofs.arrays.QueryLaws.{first_applied_packed}
use Rattle.blocks_group.specs.arrays.Queries.{first_applied_block}
use Rattle.blocks_group.specs.layout.Block.{master_laws, master_parts}
use Rattle.block_records.specs.declared.questions.Refusal.{Refusal}
use Rattle.block_records.specs.declared.questions.Refusal.TheVariants.{SeqnoLimit, Unsound}
use Rattle.std.specs.Prelude.{Option, option_map, None, Some, map, filter, Err, Ok}
use Rattle.std.proofs.Common.{◌≡◌, ℕ, ◌+◌, ◌<◌, ◌≤◌, true, eqb, List, [], ◌∷◌, ◌++◌, length, drop, get_or, set, sym, refl, ap, ◌∙◌, ap₂, append_assoc, append-nil, arith, length-append, eq-eqb, ne_eqb}
use Rattle.block_records.specs.declared.block_id.BlockIdShort.{BlockIdShort}
use Rattle.block_records.specs.declared.entry.BlockCacheEntry.{BlockCacheEntry}
use Rattle.block_records.specs.declared.entry.MasterBlock.{MasterBlock}
use Rattle.block_records.specs.declared.top_block.TopBlock.{TopBlock}
use Rattle.blocks_cache.specs.declared.cache.Cache.{Cache}
use Rattle.blocks_cache.specs.declared.peek.PeekRow.{PeekRow}
use Rattle.block_records.proofs.arrays.LoopLaws.{drop_next, set_padded}
use Rattle.std.proofs.lemmas.List.{drop_all, map-append, length-map}
use Rattle.block_records.specs.declared.listed.Listed.{Listed}
use Rattle.block_records.proofs.layout.EntryLaws.{view_pack_tops, take_padded}
use Rattle.block_records.proofs.rules.Tests.{on, some_not_none}
use Rattle.block_records.specs.layout.Entry.{pack_entry, pack_master, pack_tops}
use Rattle.block_records.specs.rules.BlockId.{key, listed_tops}
use Rattle.block_records.specs.rules.Entry.{Entry}
use Rattle.block_records.specs.rules.Lists.{padded}
use Rattle.block_records.specs.rules.Questions.{ask, seqno_fits}
use Rattle.blocks_cache.proofs.arrays.LookupLaws.{cached_block_packed}
use Rattle.blocks_cache.proofs.layout.CheckLaws.{checked, checked_yes, next_refuses, passed_on, refused_by, sound_refuses}
use Rattle.blocks_cache.proofs.layout.CallOnLaws.{on_sound, second_part_decides}
use Rattle.blocks_cache.specs.arrays.Lookup.{cached_block}
use Rattle.blocks_cache.specs.arrays.Peek.{found_peek, held_peek, held_seen_top, held_view_tops, naming_row, pack_row, pack_view, peek_block, peek_says, top_row, view_row, zero_row, zeroed_peek}
use Rattle.blocks_cache.specs.layout.Cache.{HeldOutcome, call_on, pack, pack_outcome, sound_cache, unlent_outcome, view}
use Rattle.cache_rules.specs.Calls.{Call, Row, View, peek, peeked, refused, unlent}
use Rattle.cache_rules.specs.Effects.{answered, effect, outcome_of, peek_entry}
use Rattle.cache_rules.specs.Extraction.{seen_top, starting_items, starts, view_tops}
use Rattle.cache_rules.specs.Model.{Model, block_under, first_applied}
use Rattle.cache_rules.specs.Refusals.{further, sound_model}

-- ===== on a packed cache =====

row_packed : (m : ℕ) (t : TopBlock) (o : Option Entry) (rest : View) → held_seen_top t (naming_row m t (option_map pack_entry o)) rest ≡ seen_top m t o rest
row_packed m t None rest = refl
row_packed m t (Some e) rest = on (eqb e.reference m) (λ u. rw u) (λ u. rw u)

tops_packed : (n : ℕ) (m : Model) → sound_model m ≡ true → (ts : List TopBlock) → held_view_tops n (pack m) ts ≡ view_tops n m.shards ts
unfolding top_row
tops_packed n m ok [] = refl
tops_packed n m ok (t ∷ ts) =
    ap₂ (λ (o : Option BlockCacheEntry) (v : View). held_seen_top t (naming_row n t o) v) (cached_block_packed m ok t.block_id) (tops_packed n m ok ts)
    ∙ row_packed n t (block_under m.shards (key t.block_id)) (view_tops n m.shards ts)

view_pack_rows : (rs : List Row) → map view_row (map pack_row rs) ≡ rs
view_pack_rows [] = refl
view_pack_rows (r ∷ rs) = ap (λ (x : List Row). r ∷ x) (view_pack_rows rs)

-- what a view is packed into says that view
view_said : (row : Row) (v : View) → peek_says (Ok (Some (found_peek (pack_row row) (pack_view v)))) ≡ peeked row v
view_said row v =
    ap (λ (rs : List Row). peeked row (record { rows = rs; missing = v.missing })) (ap (map view_row) (take_padded 8 zero_row (map pack_row v.rows)) ∙ view_pack_rows v.rows)

entry_peeked : (m : Model) → sound_model m ≡ true → (o : Option Entry) →
    unlent_outcome (pack m) (peek_says (Ok (option_map (peek_block (pack m)) (option_map pack_master o)))) ≡ pack_outcome (outcome_of (peek_entry o m) [])
entry_peeked m ok None = refl
entry_peeked m ok (Some M) =
    let row : Row = record { id = M.id; reference = M.reference; payload = M.payload } in
    let v : held_view_tops M.id.seqno (pack m) (filter (starts m.zerostate) (listed_tops (pack_tops M.tops))) ≡ view_tops M.id.seqno m.shards (starting_items m.zerostate M) =
    ap (λ (ts : List TopBlock). held_view_tops M.id.seqno (pack m) (filter (starts m.zerostate) ts)) (view_pack_tops M.tops)
    ∙ tops_packed M.id.seqno m ok (starting_items m.zerostate M) in
    ap (unlent_outcome (pack m))
    (ap (λ (x : View). peek_says (Ok (Some (found_peek (pack_row row) (pack_view x))))) v ∙ view_said row (view_tops M.id.seqno m.shards (starting_items m.zerostate M)))

-- what is read of a cache, as an outcome
abbrev Read : ℕ → Cache → HeldOutcome
Read f c = unlent_outcome c (peek_says (Ok (held_peek f c)))

peek_packed : (f : ℕ) (m : Model) → sound_model m ≡ true → Read f (pack m) ≡ pack_outcome (answered None m (unlent (peek f)))
unfolding held_peek effect
peek_packed f m ok =
    ap (λ (o : Option MasterBlock). unlent_outcome (pack m) (peek_says (Ok (option_map (peek_block (pack m)) o)))) (first_applied_packed master_parts master_laws f m.masters)
    ∙ entry_peeked m ok (first_applied f m)

-- ===== the call =====

-- there are zeros beyond the rows
pub peek_zeroed : (f : ℕ) (c : Cache) → Ok (held_peek f c) ≡ zeroed_peek (Ok (held_peek f c))
unfolding held_peek
peek_zeroed f c = zeroed (first_applied_block master_parts f c.masters)
  where
    zeroed : (o : Option MasterBlock) → Ok (option_map (peek_block c) o) ≡ zeroed_peek (Ok (option_map (peek_block c) o))
    zeroed None = refl
    zeroed (Some b) =
        let v = held_view_tops b.entry.block_id.seqno c (filter (starts c.zerostate_mc_seqno) (listed_tops b.tops)) in
        let row : PeekRow = record { block_id = b.entry.block_id; ref_by_mc_seqno = b.entry.ref_by_mc_seqno; payload = b.entry.payload } in
        ap (λ (rs : List PeekRow). Ok (Some (record { master = row; tops = packed 8 zero_row rs; missing = v.missing }))) (sym (take_padded 8 zero_row (map pack_row v.rows)))

module _ (c : Cache) (f : ℕ) where
  abbrev call : Call
  call = unlent (peek f)

  asked_from : further (view c) 0 (peek f) ≡ ask SeqnoLimit (seqno_fits f) ∷ []
  unfolding further
  asked_from = refl

  pub peek_unsound : (x : Refusal) → Err x ≡ checked (sound_cache c) Unsound → unlent_outcome c (refused x) ≡ call_on c (unlent (peek f))
  peek_unsound = sound_refuses c call

  module _ (ok : sound_cache c ≡ true) where
    pub peek_refuses : (x : Refusal) → Err x ≡ checked (seqno_fits f) SeqnoLimit → unlent_outcome c (refused x) ≡ call_on c (unlent (peek f))
    peek_refuses = next_refuses c call (seqno_fits f) SeqnoLimit [] ok asked_from

    pub peek_is : seqno_fits f ≡ true → unlent_outcome c (peek_says (Ok (held_peek f c))) ≡ call_on c (unlent (peek f))
    peek_is h = on_sound call (Read f) (λ m. []) (peek_packed f) c ok ∙ sym (second_part_decides c call ok (ask SeqnoLimit (seqno_fits f) ∷ []) [] asked_from (rw h))

pub ruleset peek_calls = (passed_on, refused_by, checked_yes, peek_unsound, peek_refuses, peek_is, peek_zeroed)

-- ===== a top's row =====

module _ (c : Cache) (m : ℕ) (t : TopBlock) where
  pub row_absent : None ≡ cached_block t.block_id c → top_row m c t ≡ None
  unfolding top_row
  row_absent e = ap (naming_row m t) (sym e)

  module _ (b : BlockCacheEntry) (e : Some b ≡ cached_block t.block_id c) where
    pub row_foreign : (b.ref_by_mc_seqno ≡ m → ⊥) → top_row m c t ≡ None
    unfolding top_row
    row_foreign o = ap (naming_row m t) (sym e) ∙ rw (ne_eqb b.ref_by_mc_seqno m o)

    pub row_naming : b.ref_by_mc_seqno ≡ m → top_row m c t ≡ Some (record { id = t.block_id; reference = t.ref_by_mc_seqno; payload = b.payload })
    unfolding top_row
    row_naming o = ap (naming_row m t) (sym e) ∙ rw (eq-eqb b.ref_by_mc_seqno m o)

pub ruleset top_rows = (row_absent, row_foreign, row_naming)

-- what an optional row says, as it is held
pub row_of_none : (o : Option Row) → None ≡ option_map pack_row o → o ≡ None
row_of_none None e = refl
row_of_none (Some r) e = absurd (none_not_some e)
  where
    none_not_some : ◌≡◌ {A = Option PeekRow} None (Some (pack_row r)) → ⊥
    none_not_some q = some_not_none {P = ⊥} refl (sym q)

pub row_of_some : (o : Option Row) (p : PeekRow) → Some p ≡ option_map pack_row o → o ≡ Some (view_row p)
row_of_some None p e = some_not_none {P = None ≡ Some (view_row p)} refl e
row_of_some (Some r) p e = ap (option_map view_row) (sym e)

-- ===== the loop over the starting items =====

-- rows, and a view after them
abbrev after_rows : List Row → View → View
after_rows rs v = record { rows = rs ++ v.rows; missing = v.missing }

-- the rows of the first n items, which are few, and what is left to see
pub record Viewed (m : ℕ) (c : Cache) (items : List TopBlock) (n : ℕ) (out : Listed PeekRow 8) : Type 0 where
  pub few : length items ≤ 8
  pub seen_rows : List Row
  pub count : n ≡ length seen_rows
  pub places : out ≡ packed 8 zero_row (map pack_row seen_rows)
  pub rest : held_view_tops m c items ≡ after_rows seen_rows (held_view_tops m c (drop n items))

module _ {m : ℕ} {c : Cache} {items : List TopBlock} {n : ℕ} {out : Listed PeekRow 8} (v : Viewed m c items n out) where
  -- the view ends with no further row
  view_ends : (o : Option BlockIdShort) → held_view_tops m c (drop n items) ≡ record { rows = []; missing = o } → record { rows = out; gap = o } ≡ pack_view (held_view_tops m c items)
  view_ends o e =
      let w : after_rows v.seen_rows (record { rows = []; missing = o }) ≡ record { rows = v.seen_rows; missing = o } = rw append-nil in
      let q = v.rest ∙ ap (after_rows v.seen_rows) e ∙ w in
      let a = v.places in
      (λ j. record { rows = a j; gap = o }) ∙ ap pack_view (sym q)

  pub view_passed : length items ≤ n → record { rows = out; gap = None } ≡ pack_view (held_view_tops m c items)
  view_passed h = view_ends None (ap (held_view_tops m c) (drop_all n items h))

  -- d is any item
  module _ (d : TopBlock) (k : n < length items) where
    abbrev item : TopBlock
    item = get_or items n d

    next : held_view_tops m c (drop n items) ≡ held_seen_top item (top_row m c item) (held_view_tops m c (drop (n + 1) items))
    next = ap (held_view_tops m c) (drop_next items n d k)

    pub view_stop : top_row m c item ≡ None → record { rows = out; gap = Some (key item.block_id) } ≡ pack_view (held_view_tops m c items)
    view_stop o = view_ends (Some (key item.block_id)) (next ∙ ap (λ (x : Option Row). held_seen_top item x (held_view_tops m c (drop (n + 1) items))) o)

    pub view_more : (r : Row) → top_row m c item ≡ Some r → Viewed m c items (n + 1) (record { count = out.count + 1; items = set out.items out.count (pack_row r) })
    view_more r o =
        let rs = v.seen_rows in
        let nx = held_view_tops m c (drop (n + 1) items) in
        let len : length (map pack_row rs) ≡ n = length-map rs pack_row ∙ sym v.count in
        let q = v.places in
        let w : after_rows rs (record { rows = r ∷ nx.rows; missing = nx.missing }) ≡ after_rows (rs ++ (r ∷ [])) nx =
        ap (λ (xs : List Row). record { rows = xs; missing = nx.missing }) (sym (append_assoc rs (r ∷ []) nx.rows)) in
        let counted : length (map pack_row rs) + 1 ≡ length (map pack_row (rs ++ (r ∷ []))) =
        sym (length-map (rs ++ (r ∷ [])) pack_row ∙ length-append rs (r ∷ []) ∙ ap (λ (l : ℕ). l + 1) (sym (length-map rs pack_row))) in
        let placed : set (padded 8 zero_row (map pack_row rs)) (length (map pack_row rs)) (pack_row r) ≡ padded 8 zero_row (map pack_row (rs ++ (r ∷ []))) =
        set_padded 8 zero_row (map pack_row rs) (length (map pack_row rs)) (pack_row r) refl (omega (arith, v.few)) ∙ ap (padded 8 zero_row) (sym (map-append pack_row rs (r ∷ []))) in
        let few = v.few in
        record {
          few = few;
          seen_rows = rs ++ (r ∷ []);
          count = omega (arith, length-append rs (r ∷ []), v.count);
          places = (λ j. record { count = (q j).count + 1; items = set (q j).items (q j).count (pack_row r) }) ∙ (λ j. record { count = counted j; items = placed j });
          rest = v.rest ∙ ap (after_rows rs) (next ∙ ap (λ (x : Option Row). held_seen_top item x nx) o) ∙ w;
        }
