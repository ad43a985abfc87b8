use borrow.Author.Rules.{rules}
use native.Mathlib.Omega.{arith}
use Rattle.std.proofs.Common.{◌≡◌, ◌∙◌, get_or, length}
use Rattle.block_records.proofs.arrays.LoopLaws.{length_mapped}
use Rattle.blocks_cache.proofs.arrays.ExtractionLaws.{compacted, length_compact}
use Rattle.blocks_cache.proofs.arrays.FromFnLaws.{made_is}
use Rattle.blocks_cache.specs.arrays.Extraction.{compact_shard, compact_shards}
use Rattle.blocks_cache.specs.declared.cache.ShardGroup.{ShardGroup}
use Rattle.blocks_cache.specs.declared.lookup.GroupSeqnos.{GroupSeqnos}
use Rattle.blocks_cache.proofs.extraction.compact_shards.Goals as goal

pub returns-clause-items : goal.returns-clause-items
returns-clause-items c =
    let gs = c.args.shards.now.items in
    let ss = c.args.seqnos.now in
    let n : length gs ≡ 8 = search (rules, length_mapped) in
    let m : length ss ≡ 8 = search rules in
    let same : length gs ≡ length ss = omega arith in
    let k = length_compact gs ss same in
    made_is _ _ (compact_shards gs ss)
    (λ i r q h. (
      λ l d.
          let e : (g : ShardGroup) × (s : GroupSeqnos) × (g ≡ get_or gs i g) × (s ≡ get_or ss i s) × (r ≡ compact_shard g s) = search rules in
          e.4 ∙ compacted gs ss i d e.0 e.1 (omega arith) same e.2 e.3,
      search rules,
    )) c.from_fn.result 8 c.from_fn.ensures.items (omega arith)
