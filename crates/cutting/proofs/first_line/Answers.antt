-- Each field by itself: the place that `find` gives is where the newline stands, and the tests are those of the definitions. Assumes nothing.
use Prim.Native.Nat.{ℕ}
use mathlib.Core.Bool.{Bool}
use mathlib.Core.Path.{◌≡◌, ◌∙◌}
use native.Mathlib.Numerals.{add-one}
use borrow.Author.Rules.{rules}
use Rattle.cutting.specs.Lines.{newline_at}
use Rattle.cutting.specs.Cutting.{due, piece_size, piece_skip, first_line}
use Rattle.cutting.specs.declared.FirstLine.{FirstLine}
use Rattle.cutting.proofs.first_line.Goals as goal

same_fields : {a b c d : ℕ} {k l m n : Bool} → a ≡ b → k ≡ l → c ≡ d → m ≡ n
    → ◌≡◌ {A = FirstLine} (record { end = a; due = k; size = c; skip = m }) (record { end = b; due = l; size = d; skip = n })
same_fields e f g h = cc

pub returns : goal.returns
unfolding first_line due piece_size piece_skip
returns c =
    let q : c.find-e.result ≡ newline_at c.args.s.now = c.find-e.ensures.0 in
    (same_fields q (rw q) (c.after.ensures ∙ rw (c.choose-size.ensures, q, add-one)) (rw q), search rules)
