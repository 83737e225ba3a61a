-- Only select and transpose take a matrix first, which is one computed test over the table: of every other row no matrix is taken in the first place. Assumes nothing.
use Prim.Native.Nat.{ℕ}
use mathlib.Core.Bool.{Bool, true, false, not, cond, ◌||◌, false≢true}
use mathlib.Core.List.{List}
use mathlib.Core.Logic.{◌⊎◌, inl, inr, ⊎_elim}
use mathlib.Core.Path.{◌≡◌, refl}
use native.Mathlib.Omega.{arith}
use borrow.Author.Tests.{eqb-true}
use lib.Dec.{eqb}
use lib.ListN.{get_or}
use Rattle.values.specs.declared.Kind.{Kind}
use Rattle.values.specs.declared.Value.{Value}
use Rattle.values.specs.Value.{kind_at}
use Rattle.values.proofs.Bools.{either}
use Rattle.words.specs.Words.{value_at}
use Rattle.calls.specs.declared.Builtin.{Builtin}
use Rattle.calls.specs.Table.{Row, Absent, Unary, Binary, Ternary, Cast, taken, matrix, takes, builtin_at}
use Rattle.calls.specs.Refuse.{judged, refusal_of}
use Rattle.calls.specs.Words.{call_of}
use Rattle.calls.proofs.Shaped.{each}
use Rattle.calls.proofs.Converse.{implied, from_implied}
use Rattle.calls.proofs.Passed.{unary, binary, ternary, cast}

-- taken in the first place
abbrev taken_first : Row → Kind → Bool
taken_first Absent k = false
taken_first (Unary p) k = taken p k
taken_first (Binary p q m) k = taken p k
taken_first (Ternary p q r m) k = taken p k
taken_first (Cast p) k = taken p k

module _ (n : ℕ) (t : Kind) (a b c : Value) where
  first_taken : (row : Row) → judged row n t a b c ≡ 0 → taken_first row a.kind ≡ true
  unfolding judged
  first_taken Absent e = absurd (omega arith)
  first_taken (Unary p) e = (unary n t a b c p e).alone
  first_taken (Binary p q m) e = (binary n t a b c p q m e).first.alone
  first_taken (Ternary p q r m) e = (ternary n t a b c p q r m e).first.alone
  first_taken (Cast p) e = (cast n t a b c p e).value.alone

-- select's number is 3 and transpose's 16
abbrev only : ℕ → Builtin → Bool
only i b = cond (implied matrix (λ k. not (taken_first (takes b) k))) true (eqb i 3 || eqb i 16)

one_of : (i : ℕ) → eqb i 3 || eqb i 16 ≡ true → (i ≡ 3) ⊎ (i ≡ 16)
one_of i h =
    ⊎_elim (λ t. inl (eqb-true i 3 t)) (λ t. inr (eqb-true i 16 (rw t at h)))
    (either (eqb i 3))

-- a call of words that is not refused and whose first value is a matrix
pub matrix_rows : (w : List ℕ) → refusal_of (call_of w) ≡ 0 → matrix (value_at w 3).kind ≡ true
    → (get_or w 0 0 ≡ 3) ⊎ (get_or w 0 0 ≡ 16)
unfolding call_of
matrix_rows w e m =
    let i = get_or w 0 0 in
    let row = takes (builtin_at i) in
    let t = first_taken (get_or w 1 0) (kind_at (get_or w 2 0)) (value_at w 3) (value_at w 20) (value_at w 37) row e in
    ⊎_elim (λ none. absurd (false≢true (rw t at (from_implied matrix (λ k. not (taken_first row k)) none (value_at w 3).kind m))))
    (λ some. one_of i (rw some at (each only (λ n. refl) refl i)))
    (either (implied matrix (λ k. not (taken_first row k))))
