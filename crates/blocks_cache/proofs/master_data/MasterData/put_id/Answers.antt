-- Compared by seqno.
use mathlib.Core.Path.{ap, ◌∙◌}
use borrow.Author.Rules.{rules}
use Rattle.std.specs.Ordering.{nat_cmp}
use Rattle.block_records.specs.declared.block_id.BlockId.{BlockId}
use Rattle.block_records.proofs.arrays.ListedLaws.{compares_by}
use Rattle.block_records.specs.layout.Listed.{put_listed}
use Rattle.cache_rules.specs.Model.{id_before}
use Rattle.blocks_cache.proofs.master_data.MasterData.put_id.Goals as goal

pub returns : goal.returns
returns c =
    let d = c.args.self.now in
    let i = c.args.id in
    let e =
    c.put_by-self.ensures (λ (x : BlockId). nat_cmp x.seqno i.seqno) (search rules) id_before (compares_by (λ (x : BlockId). x.seqno) i)
    ∙ ap (λ (z : BlockId). put_listed 32 z id_before i d.ids) c.zero_id.ensures in
    λ k. record { ids = e k; range = d.range }
