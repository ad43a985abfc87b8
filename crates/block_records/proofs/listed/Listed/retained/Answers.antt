use native.Mathlib.Omega.{arith}
use mathlib.Core.Path.{◌≡◌, ap, sym, ◌∙◌}
use lib.ListN.{get_or, length}
use Prim.Native.Nat.{◌≤◌}
use borrow.Author.Rules.{rules}
use lib.Seq.{take_all}
use Rattle.std.specs.Prelude.{filter}
use Rattle.block_records.specs.layout.Listed.{packed, pushed}
use Rattle.block_records.proofs.arrays.ArrayLaws.{length_take_few}
use Rattle.block_records.proofs.arrays.ScanLaws.{retain_no, retain_yes}
use Rattle.block_records.proofs.listed.Listed.retained.Goals.{then-stays, else-stays}
use Rattle.block_records.proofs.listed.Listed.retained.Goals as goal

pub loop-item-init : goal.loop-item-init
loop-item-init g c = record { few = omega (arith, ap (λ l. l.count) c.empty-kept.ensures); kept = λ p h. c.empty-kept.ensures }

pub loop-item-preserved : goal.loop-item-preserved
loop-item-preserved g c =
    let xs = c.listed-item-items.result.now in
    let i = c.loop-item.item-index in
    let x = c.item-item.result in
    let f = c.loop-item.invariant.few in
    let here : x ≡ get_or xs i x = c.item-item.is in
    let items : length c.args.self.now.items ≡ g.row.N = search rules in
    let long : length xs ≤ g.row.N = rw c.listed-item-items.ensures (omega (arith, items, length_take_few c.args.self.now.count c.args.self.now.items)) in
    elim c.if-stays.branch [
      | then-stays w ↦
          let now : c.if-stays.kept ≡ pushed (get_or xs i x) c.loop-item.kept = w.kept-is ∙ w.push.ensures ∙ ap (λ y. pushed y c.loop-item.kept) here in
          record {
            few = omega (arith, f, ap (λ l. l.count) now);
            kept = λ p h. now ∙ retain_yes p g.row.N c.args.zero xs i x c.loop-item.kept (c.loop-item.invariant.kept p h)
                (ap p (sym here) ∙ sym (h (_, tt) _ c.stays.ensures) ∙ w.if-stays.true) c.loop-item-test.true long;
          }
      | else-stays w ↦ record {
        few = omega (arith, f, ap (λ l. l.count) w.kept-is);
        kept = λ p h. w.kept-is ∙ retain_no p g.row.N c.args.zero xs i x c.loop-item.kept (c.loop-item.invariant.kept p h)
            (ap p (sym here) ∙ sym (h (_, tt) _ c.stays.ensures) ∙ w.if-stays.false) c.loop-item-test.true;
      }
    ]

pub returns : goal.returns
returns g c = λ p h.
    let xs = c.listed-item-items.result.now in
    c.loop-item.invariant.kept p (λ x b q. h x.0 b q)
    ∙ ap (λ ys. packed g.row.N c.args.zero (filter p ys)) (take_all c.loop-item.item-index xs c.loop-item-test.false ∙ c.listed-item-items.ensures)
