-- The item goes in where its place is found, or in the place of the one there.
use mathlib.Core.Path.{◌≡◌, ap, sym, ◌∙◌}
use lib.ListN.{length, take}
use Prim.Native.Nat.{◌<◌, ◌≤◌}
use borrow.Author.Rules.{rules}
use borrow.Author.Tests.{le-ltb, lt-ltb, ltb-false, ltb-true}
use Rattle.std.specs.Ordering.{is_eq, is_lt}
use Rattle.block_records.proofs.arrays.ListedLaws.{put_between, put_in_place, put_nowhere}
use Rattle.block_records.proofs.arrays.ScanLaws.{few_listed}
use Rattle.block_records.specs.arrays.Place.{place}
use Rattle.block_records.proofs.listed.Listed.put_by.Goals as goal

pub returns-in-Ok : goal.returns-in-Ok
returns-in-Ok g c = λ cmp h lt o.
    let s = c.args.self.now in
    let long : length s.items ≡ g.row.N = search rules in
    let k = c.in-Ok.at in
    let e = sym c.in-Ok.is ∙ c.place_by.ensures.place cmp h ∙ ap (place (λ x. is_lt (cmp x)) (λ x. is_eq (cmp x))) c.listed.ensures in
    let w : k < length (take s.count s.items) = rw c.listed.ensures at (rw c.in-Ok.is at c.place_by.ensures.within) in
    c.spliced.ensures ∙ put_in_place g.row.N c.args.zero lt c.args.item cmp o s long k w e

pub returns-then-self : goal.returns-then-self
returns-then-self g c = λ cmp h lt o.
    let s = c.args.self.now in
    let long : length s.items ≡ g.row.N = search rules in
    let k = c.in-Err.at in
    let e = sym c.in-Err.is ∙ c.place_by.ensures.place cmp h ∙ ap (place (λ x. is_lt (cmp x)) (λ x. is_eq (cmp x))) c.listed.ensures in
    let w : k ≤ length (take s.count s.items) = rw c.listed.ensures at (rw c.in-Err.is at c.place_by.ensures.within) in
    let r : length (take s.count s.items) < g.row.N = ltb-true _ _ (few_listed g.row.N s.count s.items long ∙ lt-ltb s.count g.row.N c.if-self.true) in
    c.spliced-then-self.ensures ∙ put_between g.row.N c.args.zero lt c.args.item cmp o s long k w r e

pub returns-else-self : goal.returns-else-self
returns-else-self g c = λ cmp h lt o.
    let s = c.args.self.now in
    let long : length s.items ≡ g.row.N = search rules in
    let k = c.in-Err.at in
    let e = sym c.in-Err.is ∙ c.place_by.ensures.place cmp h ∙ ap (place (λ x. is_lt (cmp x)) (λ x. is_eq (cmp x))) c.listed.ensures in
    let w : k ≤ length (take s.count s.items) = rw c.listed.ensures at (rw c.in-Err.is at c.place_by.ensures.within) in
    let r : g.row.N ≤ length (take s.count s.items) = ltb-false _ _ (few_listed g.row.N s.count s.items long ∙ le-ltb s.count g.row.N c.if-self.false) in
    put_nowhere g.row.N c.args.zero lt c.args.item cmp o s long k w r e
