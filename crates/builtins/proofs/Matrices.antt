-- A call of words that is not refused and whose first value is a matrix is of select or of transpose. Select then has a scalar condition, which chooses a whole value. Assumes nothing.
use Prim.Native.Nat.{ℕ, ◌≤◌}
use mathlib.Core.Bool.{Bool, true, false, cond, false≢true}
use mathlib.Core.List.{List}
use mathlib.Core.Logic.{⊎_elim}
use mathlib.Core.Path.{◌≡◌, refl, ap, sym, ◌∙◌}
use lib.Dec.{lit<, eqb}
use lib.ListN.{length, take, drop, get_or}
use Rattle.readings.specs.declared.Reading.{Reading}
use Rattle.values.specs.declared.Scalar.TheVariants.{Boolean}
use Rattle.values.specs.declared.Kind.{Kind}
use Rattle.values.specs.declared.Kind.TheVariants.{Empty, One, Vec, Mat}
use Rattle.values.specs.declared.Value.{Value}
use Rattle.values.specs.Value.{kind_at, same_kind, empty_value}
use Rattle.values.specs.Program.{is_lanes}
use Rattle.values.proofs.Bools.{either}
use Rattle.words.specs.Words.{value_at, words_of}
use Rattle.calls.specs.declared.Builtin.TheVariants.{Select, Transpose}
use Rattle.calls.specs.Table.{Anything, Booleans, Selectable, matrix, builtin_at}
use Rattle.calls.specs.Refuse.{refusal_of}
use Rattle.calls.specs.Words.{call_of}
use Rattle.calls.specs.Program.{FirstMatrix, Passed3}
use Rattle.calls.proofs.Matrices.{matrix_rows}
use Rattle.calls.proofs.Passed.{ternary}
use Rattle.builtins.specs.declared.Answer.{Answer}
use Rattle.builtins.specs.Fold.{answered, fold_in}
use Rattle.builtins.specs.Logical.{select_of}
use Rattle.moves.specs.Moves.{transpose_of}
use Rattle.builtins.proofs.Called.{passed, folded}
use Rattle.words.proofs.There.{lanes_16, lane_there, all_there, words_there}
use Rattle.calls.proofs.Firsts.{first_matrix}
use Rattle.builtins.proofs.Chosen.{by_scalar, lanes_to_choose}
use Rattle.moves.proofs.Transposing.{turned_length}

no_lanes : (k : Kind) → matrix k ≡ true → is_lanes k ≡ true → ⊥
no_lanes (Mat c r w) m i = false≢true i
no_lanes Empty m i = false≢true m
no_lanes (One s) m i = false≢true m
no_lanes (Vec n s) m i = false≢true m

-- one of two values is chosen, and so one of two lists of words
chosen : (d : Bool) (xs ys : List ℕ) (u v : Value) → xs ≡ words_of u → ys ≡ words_of v → cond d xs ys ≡ words_of (cond d u v)
chosen true xs ys u v e g = e
chosen false xs ys u v e g = g

-- one value, in 16 lanes, and no loss
pub record OneValue (a : Answer) : Type 0 where
  pub refusal : a.refusal ≡ 0
  pub second : a.second ≡ empty_value
  pub sixteen : length a.first.lanes ≡ 16
  pub loss : a.loss ≡ 0

answers_one : (v : Value) → length v.lanes ≡ 16 → OneValue (answered v)
unfolding answered
answers_one v l = record { refusal = refl; second = refl; sixteen = l; loss = refl }

module _ (R : Reading) (w : List ℕ) (p : ℕ) (f : FirstMatrix w p) (z : refusal_of (call_of w) ≡ 0) where
  -- ---- select

  module _ (e : get_or w 0 0 ≡ 3) where
    is_select : builtin_at (get_or w 0 0) ≡ Select
    unfolding builtin_at
    is_select = rw e

    selects : Passed3 Anything Anything Booleans Selectable (value_at w 3) (value_at w 20) (value_at w 37)
    selects = ternary (get_or w 1 0) (kind_at (get_or w 2 0)) (value_at w 3) (value_at w 20) (value_at w 37) Anything Anything Booleans Selectable (passed w z Select is_select)

    scalar : same_kind (value_at w 37).kind (One Boolean) ≡ true
    scalar =
        ⊎_elim (λ t. t) (λ t. absurd (no_lanes (value_at w 3).kind (first_matrix f) (lanes_to_choose selects t)))
        (either (same_kind (value_at w 37).kind (One Boolean)))

    pub third_there : 54 ≤ length w
    third_there = all_there w 37 selects.third.formed

    selected : cond (eqb (get_or w 38 0) 0) (value_at w 3) (value_at w 20) ≡ select_of (value_at w 3) (value_at w 20) (value_at w 37)
    selected = rw (← lane_there w 37 third_there 0 (lit< tt)) (by_scalar selects scalar (lanes_16 w 3) (lanes_16 w 20))

    pub selected_words : cond (eqb (get_or w 38 0) 0) (take 17 (drop 3 w)) (take 17 (drop 20 w)) ≡ words_of (fold_in R (call_of w)).first
    unfolding answered
    selected_words =
        chosen (eqb (get_or w 38 0) 0) _ _ (value_at w 3) (value_at w 20) (words_there w 3 selects.first.formed) (words_there w 20 selects.second.formed)
        ∙ ap words_of selected ∙ ap (λ (a : Answer). words_of a.first) (sym (folded w z Select is_select R))

    selected_one : OneValue (fold_in R (call_of w))
    selected_one = rw (folded w z Select is_select R) (answers_one _ (ap (λ (v : Value). length v.lanes) (sym selected) ∙ chosen_16 (eqb (get_or w 38 0) 0)))
      where
        chosen_16 : (d : Bool) → length (cond d (value_at w 3) (value_at w 20)).lanes ≡ 16
        chosen_16 true = lanes_16 w 3
        chosen_16 false = lanes_16 w 20

  -- ---- transpose

  module _ (e : get_or w 0 0 ≡ 16) where
    is_transpose : builtin_at (get_or w 0 0) ≡ Transpose
    unfolding builtin_at
    is_transpose = rw e

    transposed_words : words_of (transpose_of (value_at w 3)) ≡ words_of (fold_in R (call_of w)).first
    unfolding answered
    transposed_words = ap (λ (a : Answer). words_of a.first) (sym (folded w z Transpose is_transpose R))

    transposed_one : OneValue (fold_in R (call_of w))
    transposed_one = rw (folded w z Transpose is_transpose R) (answers_one _ (turned_length (value_at w 3) (first_matrix f)))

  -- ---- either

  pub other_words : (get_or w 0 0 ≡ 3 → ⊥) → words_of (transpose_of (value_at w 3)) ≡ words_of (fold_in R (call_of w)).first
  other_words n = ⊎_elim (λ e. absurd (n e)) transposed_words (matrix_rows w z (first_matrix f))

  pub one_value : OneValue (fold_in R (call_of w))
  one_value = ⊎_elim selected_one transposed_one (matrix_rows w z (first_matrix f))
