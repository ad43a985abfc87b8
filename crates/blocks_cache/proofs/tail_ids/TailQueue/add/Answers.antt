use Rattle.std.proofs.Common.{◌≡◌, List, length, sym, ap, ◌∙◌, rules}
use Rattle.block_records.proofs.arrays.LoopLaws.{length_mapped}
use Rattle.block_records.specs.declared.block_id.BlockId.{BlockId}
use Rattle.block_records.specs.layout.Entry.{pack_prev_ids}
use Rattle.block_records.specs.rules.BlockId.{listed_prev_ids}
use Rattle.blocks_cache.specs.arrays.TailIds.{fresh_ids}
use Rattle.blocks_cache.proofs.arrays.TailQueueLaws.{still_queue}
use Rattle.blocks_cache.proofs.tail_ids.TailQueue.add.Goals as goal

pub invariant_of-self : goal.invariant_of-self
invariant_of-self c =
    let q = c.self.inside in
    let ps = listed_prev_ids c.args.prev in
    let of_fresh = c.next_ids-fresh.ensures ∙ ap (λ (ids : List BlockId). pack_prev_ids (fresh_ids ids ps)) (sym c.self.view_is) in
    let two : length c.next_ids-fresh.result.items ≡ 2 = search (rules, length_mapped) in
    still_queue q.ids q.fingerprints q.count c.self.invariant ps c.next_ids-fresh.result of_fresh two _ _ _ _ c.fingerprint.ensures c.fingerprint-2.ensures
