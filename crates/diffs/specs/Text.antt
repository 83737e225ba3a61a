-- What folddiff prints for two listings: 02, Q-9. Definitions only.
use Rattle.std.specs.Prelude.{ℕ, cond, List, [], ◌∷◌, ◌++◌, eqb}
use Rattle.printing.specs.Decimal.{refused_text}
use Rattle.telling.specs.Text.{kinds_text}
use Rattle.diffs.specs.Diffs.{diff_refusal, kinds_of}

-- "the program prints the refusal alone"
unfoldable pub diff_text : List ℕ → List ℕ → List ℕ
diff_text s t = cond (eqb (diff_refusal s t) 0) (kinds_text 1 (kinds_of s t)) (refused_text (diff_refusal s t) ++ (10 ∷ []))
