-- RULES.md, Pop and Sync extraction: what the code hands out of a cache, what it leaves, and what its answer says, for every cache. On a sound cache
-- that is the rules' effect, packed (proofs/arrays/SubgraphsLaws).
-- Assumes nothing.
use Rattle.blocks_group.specs.arrays.Group.{without_block}
use Rattle.blocks_group.specs.layout.Block.{block_seqno, master_parts}
use Rattle.block_records.specs.declared.questions.Refusal.{Refusal}
use Rattle.block_records.specs.declared.range.AppliedRange.{AppliedRange}
use Rattle.std.specs.Prelude.{ℕ, List, ◌∷◌, length, min, cond, Option, Err, Ok, Result}
use Rattle.block_records.specs.declared.entry.BlockCacheEntry.{BlockCacheEntry}
use Rattle.block_records.specs.declared.entry.MasterBlock.{MasterBlock}
use Rattle.blocks_cache.specs.declared.cache.Cache.{Cache}
use Rattle.blocks_cache.specs.declared.extraction.McBlockSubgraph.{McBlockSubgraph}
use Rattle.blocks_cache.specs.declared.extraction.SubgraphExtract.{SubgraphExtract}
use Rattle.blocks_cache.specs.declared.extraction.SubgraphExtract.TheVariants.{AlreadyExtracted as already_answer, Extracted as extracted_answer, Popped as popped_extract}
use Rattle.block_records.specs.layout.Entry.{pack_master}
use Rattle.block_records.specs.rules.Entry.{kind_applied}
use Rattle.block_records.specs.rules.Limits.{array_places}
use Rattle.blocks_cache.specs.arrays.Extraction.{pack_extraction, view_master}
use Rattle.blocks_cache.specs.arrays.MasterData.{drop_ids_below}
use Rattle.blocks_cache.specs.layout.Cache.{HeldOutcome, sound_cache}
use Rattle.cache_rules.specs.Calls.{Answer, Extract, already_extracted, extracted, popped, refused}
use Rattle.cache_rules.specs.Extraction.{Walk}
use Rattle.cache_rules.specs.Refusals.{slice_questions}
use Rattle.block_records.specs.declared.questions.Refusal.TheVariants.{SeqnoLimit, Unsound}
use Rattle.block_records.specs.rules.Questions.{Question, ask, seqno_fits}
use Rattle.cache_rules.specs.Model.{moved_start}

-- ===== the questions that both requests ask =====

-- soundness, the seqno, and the places of the lent slice
abbrev pub extract_questions : Cache → ℕ → ℕ → List Question
extract_questions c n places = ask Unsound (sound_cache c) ∷ ask SeqnoLimit (seqno_fits n) ∷ slice_questions places

-- ===== what is handed out, and what is left =====

-- M with the walk's numbers
abbrev pub subgraph_of : MasterBlock → Walk → McBlockSubgraph
subgraph_of b w = record { master = b; joined = length w.joined; taken = w.taken }

-- the masters without M, the walk's shard groups, and the ids from M's seqno on
abbrev pub handed_out : MasterBlock → Walk → Cache → Cache
handed_out b w c =
    record {
      zerostate_mc_seqno = c.zerostate_mc_seqno;
      masters = without_block master_parts (block_seqno master_parts b) c.masters;
      «data» = drop_ids_below (block_seqno master_parts b) c.«data»;
      shards = (pack_extraction w).shards;
    }

-- the range moved on past M, if M is applied
abbrev pub move_applied_start : Option AppliedRange → MasterBlock → Option AppliedRange
move_applied_start r b = cond (kind_applied b.entry.«data») (moved_start (block_seqno master_parts b) r) r

-- ===== an answer as the rules say it =====

-- M, and the two numbers
abbrev pub held_extract : McBlockSubgraph → Extract
held_extract s = record { block = view_master s.master; joined = s.joined; taken = s.taken }

-- what is handed out, already extracted, or the refusal
abbrev pub extract_says : Result SubgraphExtract Refusal → Answer
extract_says (Ok (popped_extract s last)) = popped (held_extract s) last
extract_says (Ok (extracted_answer s)) = extracted (held_extract s)
extract_says (Ok already_answer) = already_extracted
extract_says (Err n) = refused n

-- the answer, the cache, and the slice as it then is
abbrev pub extract_outcome : Cache → Result SubgraphExtract Refusal → List BlockCacheEntry → HeldOutcome
extract_outcome c r slice = record { cache = c; answer = extract_says r; slice = slice }

-- zeros in M's unused places
abbrev pub zeroed_subgraph : McBlockSubgraph → McBlockSubgraph
zeroed_subgraph s = record { master = pack_master (view_master s.master); joined = s.joined; taken = s.taken }

-- the same of an answer
abbrev pub zeroed_extract : Result SubgraphExtract Refusal → Result SubgraphExtract Refusal
zeroed_extract (Ok (popped_extract s last)) = Ok (popped_extract (zeroed_subgraph s) last)
zeroed_extract (Ok (extracted_answer s)) = Ok (extracted_answer (zeroed_subgraph s))
zeroed_extract (Ok already_answer) = Ok already_answer
zeroed_extract (Err n) = Err n

-- ===== an array in place of a slice =====

-- how many of its places are lent: all of them where fewer are there than asked for
abbrev pub lent_places : ℕ → ℕ
lent_places n = min n array_places
