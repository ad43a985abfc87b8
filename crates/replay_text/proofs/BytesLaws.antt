-- A text stands at a place where it stands at the front of what the line has from there on.
-- Assumes nothing.
use mathlib.Core.Bool.{◌&&◌}
use mathlib.Core.List.{List, [], ◌∷◌}
use mathlib.Core.Path.{◌∙◌, ◌≡◌, refl, sym}
use Prim.Native.Nat.{suc, ℕ}
use borrow.Author.Tests.{eq-eqb, eqb-false, eqb-true, ltb-false, ltb-true, ne_eqb}
use lib.Dec.{eqb, ltb}
use lib.ListN.{drop, get_or, length}
use Rattle.std.proofs.lemmas.List.{drop_all}
use Rattle.std.proofs.Math.Seq.{drop-cons}
use Rattle.std.specs.List.{starts_with}
use Rattle.block_records.proofs.rules.Tests.{on}
use Rattle.replay_text.specs.Bytes.{begins}

either_way : (a b : ℕ) → eqb a b ≡ eqb b a
either_way a b = on (eqb a b) (λ t. t ∙ sym (eq-eqb b a (sym (eqb-true a b t)))) (λ f. f ∙ sym (ne_eqb b a (λ e. eqb-false a b f (sym e))))

pub text_stands : (line : List ℕ) (at : ℕ) (text : List ℕ) → starts_with eqb (drop at line) text ≡ begins line at text
text_stands line at [] = refl
text_stands line at (byte ∷ text) =
    on (ltb at (length line))
    (λ t. rw (drop-cons line at 0 (ltb-true at (length line) t), t)
    (λ i. either_way byte (get_or line at 0) i && text_stands line (suc at) text i))
    (λ f. rw (drop_all at line (ltb-false at (length line) f), f))
