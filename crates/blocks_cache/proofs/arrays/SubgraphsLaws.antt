-- Pop and sync extraction as the code answers them are the rules' calls: answer, cache and slice, refusals too.
-- Assumes nothing.
use Rattle.block_records.specs.layout.Listed.{listed}
use Rattle.blocks_group.proofs.arrays.GroupLaws.{block_at_packed, refresh_packed, remove_block_packed}
use Rattle.blocks_group.proofs.arrays.QueryLaws.{applied_above_packed, first_applied_packed}
use Rattle.blocks_group.proofs.rules.GroupLaws.{group_parts}
use Rattle.blocks_group.specs.arrays.Group.{block_at, refresh_group}
use Rattle.blocks_group.specs.arrays.Queries.{any_applied_above, first_applied_block}
use Rattle.blocks_group.specs.layout.Block.{block_seqno, master_laws, master_parts}
use Rattle.blocks_group.specs.layout.Group.{MasterGroup}
use Rattle.std.specs.List.{find}
use Rattle.blocks_group.specs.rules.Group.{at_seqno, entry_before}
use Rattle.block_records.specs.declared.questions.Refusal.{Refusal}
use Rattle.block_records.specs.declared.range.AppliedRange.{AppliedRange}
use Rattle.block_records.specs.declared.questions.Refusal.TheVariants.{NothingApplied, SeqnoLimit, Unsound}
use Rattle.std.specs.Prelude.{Option, option_map, None, Some, map, is_some, Err, Ok, Result, ⊤}
use Rattle.std.proofs.Common.{leb-true, ◌≡◌, ℕ, ◌≤◌, Bool, true, not, List, [], ◌∷◌, ◌++◌, length, sym, refl, ap, ◌∙◌}
use Rattle.block_records.specs.declared.block_id.BlockId.{BlockId}
use Rattle.block_records.specs.declared.entry.BlockCacheEntry.{BlockCacheEntry}
use Rattle.block_records.specs.declared.entry.MasterBlock.{MasterBlock}
use Rattle.blocks_cache.specs.declared.cache.Cache.{Cache}
use Rattle.blocks_cache.specs.declared.extraction.Extraction.{Extraction}
use Rattle.blocks_cache.specs.declared.extraction.McBlockSubgraph.{McBlockSubgraph}
use Rattle.blocks_cache.specs.declared.extraction.SubgraphExtract.{SubgraphExtract}
use Rattle.blocks_cache.specs.declared.extraction.SubgraphExtract.TheVariants.{AlreadyExtracted as already_answer, Extracted as extracted_answer, Popped as popped_extract}
use Rattle.block_records.proofs.layout.EntryLaws.{view_pack_entry, take_padded}
use Rattle.block_records.proofs.rules.Tests.{some_not_none}
use Rattle.block_records.specs.layout.Entry.{pack_entry, pack_master}
use Rattle.block_records.specs.layout.Zeros.{zero_entry}
use Rattle.block_records.specs.rules.BlockId.{is_masterchain}
use Rattle.block_records.specs.rules.Entry.{Entry}
use Rattle.block_records.specs.rules.Lists.{rising}
use Rattle.block_records.proofs.layout.QuestionLaws.{first_no_append, or_else}
use Rattle.cache_rules.proofs.SoundSteps.{all_yes}
use Rattle.block_records.specs.rules.Questions.{Question, ask, first_no, passed, seqno_fits}
use Rattle.blocks_cache.proofs.layout.CheckLaws.{not_found, passed_no, passed_on, passed_yes}
use Rattle.blocks_cache.proofs.arrays.MasterDataLaws.{drop_ids_below_packed}
use Rattle.blocks_cache.proofs.layout.CacheLaws.{sound_cache_packed}
use Rattle.blocks_cache.proofs.layout.CallLaws.{no_leaves}
use Rattle.blocks_cache.specs.arrays.Extraction.{held_walk, pack_extraction, view_master}
use Rattle.blocks_cache.specs.arrays.Subgraphs.{extract_outcome, extract_questions, handed_out, held_extract, move_applied_start, subgraph_of, zeroed_extract, zeroed_subgraph}
use Rattle.blocks_cache.specs.layout.Cache.{HeldOutcome, answered_on, call_on, pack, pack_outcome, questions_on, sound_cache, view}
use Rattle.cache_rules.proofs.SoundLaws.{parts}
use Rattle.cache_rules.specs.Calls.{Call, Request, extracted, pop, popped, refused, sync}
use Rattle.cache_rules.specs.Effects.{at_front, effect, extract_of, extracted_model, masters_without, outcome_of, pop_entry, sync_entry}
use Rattle.cache_rules.specs.Extraction.{Walk, extraction_of}
use Rattle.cache_rules.specs.Model.{Model, applied_above, first_applied, moved_start}
use Rattle.cache_rules.specs.Refusals.{further, slice_questions}
use Rattle.std.proofs.lemmas.List.{length-map}

-- ===== a walk, packed =====

-- M with what is counted of a packed walk
pub walk_numbers : (b : MasterBlock) (w : Walk) → record { master = b; joined = (pack_extraction w).blocks.count; taken = (pack_extraction w).taken } ≡ subgraph_of b w
unfolding pack_extraction
walk_numbers b w = let n = length-map w.joined pack_entry in λ i. record { master = b; joined = n i; taken = w.taken }

-- the blocks that are listed in it, at the front of a slice
pub walk_blocks : (w : Walk) (x : Extraction) → x ≡ pack_extraction w → (lent : List BlockCacheEntry) → at_front (listed x.blocks) lent ≡ at_front (map pack_entry w.joined) lent
unfolding pack_extraction
walk_blocks w x e lent =
    ap (λ (y : Extraction). at_front (listed y.blocks) lent) e ∙ ap (λ (bs : List BlockCacheEntry). at_front bs lent) (take_padded 128 zero_entry (map pack_entry w.joined))

-- ===== what was found =====

map_none : (o : Option Entry) → option_map pack_master o ≡ None → o ≡ None
map_none None e = refl
map_none (Some M) e = some_not_none refl e

map_some : (o : Option Entry) (b : MasterBlock) → option_map pack_master o ≡ Some b → (M : Entry) × (o ≡ Some M) × (b ≡ pack_master M)
map_some None b e = some_not_none e refl
map_some (Some M) b e = (M, refl, cc)

-- ===== what is handed out of a packed cache =====

-- a cache with another range, and with other masters
abbrev with_range : Option AppliedRange → Cache → Cache
with_range r c =
    record { zerostate_mc_seqno = c.zerostate_mc_seqno; masters = c.masters; «data» = record { ids = c.«data».ids; range = r }; shards = c.shards }

abbrev with_masters : MasterGroup → Cache → Cache
with_masters g c = record { zerostate_mc_seqno = c.zerostate_mc_seqno; masters = g; «data» = c.«data»; shards = c.shards }

module _ (m : Model) (M : Entry) (w : Walk) where
  -- the model without M and its subgraph, with the range as it was
  abbrev left : Model
  left = extracted_model M w (masters_without M m) m.range m

  handed_out_packed : handed_out (pack_master M) w (pack m) ≡ pack left
  unfolding pack_extraction
  handed_out_packed =
      let g = remove_block_packed master_parts master_laws m.masters M.id.seqno in
      let d = drop_ids_below_packed M.id.seqno m in
      let s = (pack left).shards in
      λ i. record { zerostate_mc_seqno = m.zerostate; masters = g i; «data» = d i; shards = s }

module _ (c : Cache) (ok : sound_cache c ≡ true) where
  abbrev m : Model
  m = view c

  held : c ≡ pack m
  held = (sound_cache_packed c ok).0

  -- ===== M, found as b, handed out =====

  module _ (b : MasterBlock) (M : Entry) (found : b ≡ pack_master M) where
    viewed : view_master b ≡ M
    viewed = ap view_master found ∙ view_pack_entry M

    walked : held_walk b c ≡ extraction_of M m
    walked = ap (λ (e : Entry). extraction_of e m) viewed

    left_is : (h : Cache) → h ≡ handed_out b (held_walk b c) c → h ≡ pack (left m M (extraction_of M m))
    left_is h e = e ∙ (λ i. handed_out (found i) (walked i) (held i)) ∙ handed_out_packed m M (extraction_of M m)

    extract_is : (s : McBlockSubgraph) → s ≡ subgraph_of b (held_walk b c) → held_extract s ≡ extract_of M (extraction_of M m)
    extract_is s e = ap held_extract e ∙ (λ i. record { block = viewed i; joined = length (walked i).joined; taken = (walked i).taken })

    slice_is : (out lent : List BlockCacheEntry) → out ≡ at_front (map pack_entry (held_walk b c).joined) lent → out ≡ at_front (map pack_entry (extraction_of M m).joined) lent
    slice_is out lent e = e ∙ ap (λ (w : Walk). at_front (map pack_entry w.joined) lent) walked

    whole : (s : McBlockSubgraph) → s ≡ subgraph_of b (held_walk b c) → s ≡ zeroed_subgraph s
    whole s e =
        let t : b ≡ pack_master (view_master b) = found ∙ ap pack_master (sym viewed) in
        e ∙ (λ i. record { master = t i; joined = length (held_walk b c).joined; taken = (held_walk b c).taken }) ∙ ap zeroed_subgraph (sym e)

  module _ (lent : List BlockCacheEntry) where
    -- a pop and a sync extraction by the rules, packed
    abbrev pop_ruled : ℕ → HeldOutcome
    pop_ruled f = pack_outcome (outcome_of (pop_entry (first_applied f m) m) lent)

    abbrev sync_ruled : ℕ → HeldOutcome
    sync_ruled n = pack_outcome (outcome_of (sync_entry (at_seqno n m.masters.entries) m) lent)

    -- ===== pop =====

    module _ (f : ℕ) where
      pop_chooses : first_applied_block master_parts f c.masters ≡ option_map pack_master (first_applied f m)
      pop_chooses = ap (λ (x : Cache). first_applied_block master_parts f x.masters) held ∙ first_applied_packed master_parts master_laws f m.masters

      pub pop_none : first_applied_block master_parts f c.masters ≡ None → extract_outcome c (Err NothingApplied) lent ≡ pop_ruled f
      pop_none e =
          ap (λ (x : Cache). extract_outcome x (Err NothingApplied) lent) held
          ∙ ap (λ (o : Option Entry). pack_outcome (outcome_of (pop_entry o m) lent)) (sym (map_none (first_applied f m) (sym pop_chooses ∙ e)))

      module _ (b : MasterBlock) (e : first_applied_block master_parts f c.masters ≡ Some b) (h : Cache) (s : McBlockSubgraph) (out : List BlockCacheEntry)
          (subgraph : s ≡ subgraph_of b (held_walk b c)) where
        pub pop_some : (above : Bool) → above ≡ any_applied_above master_parts (block_seqno master_parts b) c.masters → h ≡ handed_out b (held_walk b c) c →
            out ≡ at_front (map pack_entry (held_walk b c).joined) lent →
            extract_outcome (with_range (moved_start (block_seqno master_parts b) h.«data».range) h) (Ok (popped_extract s (not above))) out ≡ pop_ruled f
        pop_some above a left written =
            let t = map_some (first_applied f m) b (sym pop_chooses ∙ e) in
            let M = t.0 in
            let d = t.2 in
            let h' = left_is b M d h left in
            let s' = extract_is b M d s subgraph in
            let o' = slice_is b M d out lent written in
            let a' : above ≡ is_some (find (applied_above M.id.seqno) m.masters.entries) =
            a ∙ (λ i. any_applied_above master_parts (block_seqno master_parts (d i)) (held i).masters) ∙ applied_above_packed master_parts master_laws M.id.seqno m.masters in
            (λ i. record { cache = with_range (moved_start (block_seqno master_parts (d i)) (h' i).«data».range) (h' i); answer = popped (s' i) (not (a' i)); slice = o' i })
            ∙ ap (λ (x : Option Entry). pack_outcome (outcome_of (pop_entry x m) lent)) (sym t.1)

        pub pop_zeroed : (last : Bool) → Ok (popped_extract s last) ≡ zeroed_extract (Ok (popped_extract s last))
        pop_zeroed last =
            let t = map_some (first_applied f m) b (sym pop_chooses ∙ e) in ap (λ (x : McBlockSubgraph). Ok (popped_extract x last)) (whole b t.0 t.2 s subgraph)

    -- ===== sync extraction =====

    module _ (n : ℕ) where
      sync_chooses : block_at master_parts n c.masters ≡ option_map pack_master (at_seqno n m.masters.entries)
      sync_chooses =
          let rise : rising entry_before m.masters.entries ≡ true = (group_parts is_masterchain m.masters (parts m (sound_cache_packed c ok).1).rest.masters).order in
          ap (λ (x : Cache). block_at master_parts n x.masters) held ∙ block_at_packed master_parts master_laws n m.masters rise

      pub sync_none : block_at master_parts n c.masters ≡ None → extract_outcome c (Ok already_answer) lent ≡ sync_ruled n
      sync_none e =
          ap (λ (x : Cache). extract_outcome x (Ok already_answer) lent) held
          ∙ ap (λ (o : Option Entry). pack_outcome (outcome_of (sync_entry o m) lent)) (sym (map_none (at_seqno n m.masters.entries) (sym sync_chooses ∙ e)))

      module _ (b : MasterBlock) (e : block_at master_parts n c.masters ≡ Some b) (h : Cache) (s : McBlockSubgraph) (out : List BlockCacheEntry)
          (subgraph : s ≡ subgraph_of b (held_walk b c)) where
        pub sync_some : h ≡ handed_out b (held_walk b c) c → out ≡ at_front (map pack_entry (held_walk b c).joined) lent →
            extract_outcome (with_masters (refresh_group (block_seqno master_parts b) h.masters) (with_range (move_applied_start h.«data».range b) h)) (Ok (extracted_answer s)) out ≡ sync_ruled n
        sync_some left written =
            let t = map_some (at_seqno n m.masters.entries) b (sym sync_chooses ∙ e) in
            let M = t.0 in
            let d = t.2 in
            let h' = left_is b M d h left in
            let s' = extract_is b M d s subgraph in
            let o' = slice_is b M d out lent written in
            (λ i.
            record {
              cache = with_masters (refresh_group (block_seqno master_parts (d i)) (h' i).masters) (with_range (move_applied_start (h' i).«data».range (d i)) (h' i));
              answer = extracted (s' i);
              slice = o' i;
            })
            ∙ (λ i.
            record {
              cache = with_masters (refresh_packed master_parts master_laws (masters_without M m) M.id.seqno i) (pack (extracted_model M (extraction_of M m) (masters_without M m) (move_applied_start m.range (pack_master M)) m));
              answer = extracted (extract_of M (extraction_of M m));
              slice = at_front (map pack_entry (extraction_of M m).joined) lent;
            })
            ∙ ap (λ (x : Option Entry). pack_outcome (outcome_of (sync_entry x m) lent)) (sym t.1)

        pub sync_zeroed : Ok (extracted_answer s) ≡ zeroed_extract (Ok (extracted_answer s))
        sync_zeroed =
            let t = map_some (at_seqno n m.masters.entries) b (sym sync_chooses ∙ e) in ap (λ (x : McBlockSubgraph). Ok (extracted_answer x)) (whole b t.0 t.2 s subgraph)

pub ruleset pop_effects = (passed_on, not_found, pop_none)

pub ruleset sync_effects = (sync_none, sync_zeroed)

-- ===== the calls =====

module _ (c : Cache) (lent : List BlockCacheEntry) where
  abbrev asked : ℕ → Option Refusal
  asked n = first_no (extract_questions c n (length lent))

  -- all three questions are passed
  module _ (n : ℕ) (u : ⊤) (y : Ok u ≡ passed (asked n)) where
    pub extract_sound : sound_cache c ≡ true
    extract_sound = (all_yes (extract_questions c n (length lent)) (passed_yes (asked n) u y)).0

    pub extract_places : 128 ≤ length lent
    extract_places = leb-true 128 (length lent) (all_yes (extract_questions c n (length lent)) (passed_yes (asked n) u y)).1.1.0

  module _ (q : Request) (n : ℕ) (rest : List Question) (asks : further (view c) (length lent) q ≡ ask SeqnoLimit (seqno_fits n) ∷ slice_questions (length lent) ++ rest) where
    abbrev call : Call
    call = record { request = q; lent = lent }

    asked_first : (o : Option Refusal) → asked n ≡ o → first_no (questions_on c call) ≡ or_else o (first_no rest)
    asked_first o e =
        ap (λ (qs : List Question). first_no (ask Unsound (sound_cache c) ∷ qs)) asks ∙ first_no_append (extract_questions c n (length lent)) rest ∙ ap (λ (x : Option Refusal). or_else x (first_no rest)) e

    refuses : (x : Refusal) → Err x ≡ passed (asked n) → (r : Result SubgraphExtract Refusal) → r ≡ Err x → extract_outcome c r lent ≡ call_on c call
    refuses x z r e =
        ap (λ (y : Result SubgraphExtract Refusal). extract_outcome c y lent) e ∙ sym (no_leaves c call x (asked_first (Some x) (passed_no (asked n) x z)))

    decides : (u : ⊤) → Ok u ≡ passed (asked n) → answered_on (first_no rest) c call ≡ call_on c call
    unfolding call_on
    decides u y = ap (λ (x : Option Refusal). answered_on x c call) (sym (asked_first None (passed_yes (asked n) u y)))

  -- 11 is asked by the search itself
  module _ (f : ℕ) where
    abbrev pop_rest : List Question
    pop_rest = ask NothingApplied (is_some (first_applied f (view c))) ∷ []

    pop_asks : further (view c) (length lent) (pop f) ≡ ask SeqnoLimit (seqno_fits f) ∷ slice_questions (length lent) ++ pop_rest
    unfolding further
    pop_asks = refl

    pub pop_refused : (x : Refusal) → Err x ≡ passed (asked f) → (r : Result SubgraphExtract Refusal) → r ≡ Err x → extract_outcome c r lent ≡ call_on c (record { request = pop f; lent = lent })
    pop_refused = refuses (pop f) f pop_rest pop_asks

    pub pop_called : (u : ⊤) → Ok u ≡ passed (asked f) → pack_outcome (outcome_of (pop_entry (first_applied f (view c)) (view c)) lent) ≡ call_on c (record { request = pop f; lent = lent })
    unfolding effect
    pop_called u y = found (first_applied f (view c)) refl ∙ decides (pop f) f pop_rest pop_asks u y
      where
        found : (o : Option Entry) → first_applied f (view c) ≡ o →
            pack_outcome (outcome_of (pop_entry o (view c)) lent) ≡ answered_on (first_no (ask NothingApplied (is_some o) ∷ [])) c (record { request = pop f; lent = lent })
        found None e = ap (λ (x : Cache). record { cache = x; answer = refused NothingApplied; slice = lent }) (sym (sound_cache_packed c (extract_sound f u y)).0)
        found (Some M) e = ap (λ (o : Option Entry). pack_outcome (outcome_of (pop_entry o (view c)) lent)) (sym e)

  module _ (i : BlockId) where
    sync_asks : further (view c) (length lent) (sync i) ≡ ask SeqnoLimit (seqno_fits i.seqno) ∷ slice_questions (length lent) ++ []
    unfolding further
    sync_asks = refl

    pub sync_refused : (x : Refusal) → Err x ≡ passed (asked i.seqno) → (r : Result SubgraphExtract Refusal) → r ≡ Err x → extract_outcome c r lent ≡ call_on c (record { request = sync i; lent = lent })
    sync_refused = refuses (sync i) i.seqno [] sync_asks

    pub sync_called : (u : ⊤) → Ok u ≡ passed (asked i.seqno) → pack_outcome (outcome_of (sync_entry (at_seqno i.seqno (view c).masters.entries) (view c)) lent) ≡ call_on c (record { request = sync i; lent = lent })
    unfolding effect
    sync_called u y = decides (sync i) i.seqno [] sync_asks u y

pub ruleset pop_calls = (passed_on, extract_sound, extract_places, pop_refused, pop_called)

pub ruleset sync_calls = (passed_on, extract_sound, extract_places, sync_refused, sync_called)
