use borrow.Author.Rules.{rules}
use native.Mathlib.Omega.{arith}
use mathlib.Core.Path.{◌≡◌, ◌∙◌}
use mathlib.Core.List.{map}
use Prim.Native.Nat.{◌≤◌}
use Rattle.std.specs.Prelude.{None, length, option_map, slice_get}
use Rattle.block_records.proofs.arrays.ArrayLaws.{length_padded, length_take_few}
use Rattle.block_records.specs.layout.Listed.{listed}
use Rattle.block_records.specs.rules.Lists.{padded}
use Rattle.blocks_cache.proofs.arrays.FromFnLaws.{made_is, place_or_none}
use Rattle.blocks_cache.specs.arrays.Lookup.{seqno_here}
use Rattle.blocks_group.specs.layout.Block.{block_seqno, shard_parts}
use Rattle.blocks_cache.proofs.lookup.group_seqnos.Goals as goal
use Rattle.std.proofs.lemmas.List.{length-map}

pub returns : goal.returns
returns c =
    let g = c.args.group.now in
    let bs = listed g.entries in
    let places : length g.entries.items ≡ 16 = search rules in
    let few : length bs ≤ 16 = omega (arith, places, length_take_few g.entries.count g.entries.items) in
    let t = padded 16 None (map seqno_here bs) in
    let long : length t ≡ 16 = length_padded 16 None (map seqno_here bs) (omega (arith, length-map bs seqno_here)) in
    let e : c.from_fn.result ≡ t =
    made_is _ _ t
    (λ i r q k. (
      λ m d.
          let s : r ≡ option_map (block_seqno shard_parts) (slice_get bs i) = search rules in
          s ∙ place_or_none (block_seqno shard_parts) 16 bs i d (omega arith),
      search rules,
    )) c.from_fn.result 16 c.from_fn.ensures.items long in
    λ i. record { entries = e i; mark = g.mark }
