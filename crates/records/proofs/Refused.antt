-- A call of words whose answer has a refusal is answered by that refusal alone: what a builtin of the table answers has none, which is one computed test over the table. Assumes nothing.
use Prim.Native.Nat.{ℕ, zero, suc}
use mathlib.Core.Bool.{Bool, true, false, cond, false≢true}
use mathlib.Core.List.{List}
use mathlib.Core.Logic.{⊎_elim}
use mathlib.Core.Path.{◌≡◌, refl, sym, ◌∙◌}
use native.Mathlib.Omega.{arith}
use lib.Dec.{eqb}
use lib.ListN.{get_or}
use Rattle.readings.specs.declared.Reading.{Reading}
use Rattle.values.specs.declared.Kind.{Kind}
use Rattle.values.specs.declared.Value.{Value}
use Rattle.values.specs.Value.{kind_at}
use Rattle.values.proofs.Bools.{either}
use Rattle.words.specs.Words.{value_at}
use Rattle.calls.specs.declared.Builtin.{Builtin}
use Rattle.calls.specs.Table.{Row, takes, builtin_at}
use Rattle.calls.specs.Refuse.{in_table, judged, refusal_of}
use Rattle.calls.specs.Words.{call_of}
use Rattle.calls.proofs.Shaped.{each}
use Rattle.builtins.specs.Fold.{refused, answered, answered_twice, answered_losing, answer_by, fold_by, fold_in}

in_table_lem : (row : Row) (n : ℕ) (t : Kind) (a b c : Value) → judged row n t a b c ≡ 0 → in_table row ≡ true
unfolding judged
in_table_lem row n t a b c e = ⊎_elim (λ known. known) (λ unknown. absurd (omega (arith, rw unknown at e))) (either (in_table row))

module _ (R : Reading) (t : Kind) (a b c : Value) where
  abbrev answers : ℕ → Builtin → Bool
  answers i which = cond (in_table (takes which)) (eqb (answer_by R which t a b c).refusal 0) true

  no_refusal : (i : ℕ) → in_table (takes (builtin_at i)) ≡ true → eqb (answer_by R (builtin_at i) t a b c).refusal 0 ≡ true
  unfolding answered answered_twice answered_losing
  no_refusal i h = rw h at (each answers (λ n. refl) refl i)

pub refused_so : (R : Reading) (w : List ℕ) → eqb (fold_in R (call_of w)).refusal 0 ≡ false → fold_in R (call_of w) ≡ refused (fold_in R (call_of w)).refusal
unfolding fold_in call_of refused
refused_so R w = by (refusal_of (call_of w)) refl
  where
    by : (n : ℕ) → refusal_of (call_of w) ≡ n → eqb (fold_by R n (call_of w)).refusal 0 ≡ false → fold_by R n (call_of w) ≡ refused (fold_by R n (call_of w)).refusal
    by zero e t =
        let k = in_table_lem (takes (builtin_at (get_or w 0 0))) (get_or w 1 0) (kind_at (get_or w 2 0)) (value_at w 3) (value_at w 20) (value_at w 37) e in
        absurd (false≢true (sym t ∙ no_refusal R (kind_at (get_or w 2 0)) (value_at w 3) (value_at w 20) (value_at w 37) (get_or w 0 0) k))
    by (suc n) e t = refl
