use borrow.Author.Rules.{rules}
use Rattle.std.specs.Prelude.{◌≡◌, length}
use Rattle.block_records.proofs.arrays.LoopLaws.{length_mapped}
use Rattle.blocks_cache.proofs.arrays.FromFnLaws.{made_maps}
use Rattle.blocks_cache.specs.arrays.Shards.{shard_ident}
use Rattle.blocks_cache.proofs.lookup.shard_idents.Goals as goal

pub returns : goal.returns
returns c =
    let n : length c.args.shards.now.items ≡ 8 = search (rules, length_mapped) in
    made_maps _ _ shard_ident c.args.shards.now.items (λ i r q k. search rules) c.from_fn.result 8 c.from_fn.ensures.items n
