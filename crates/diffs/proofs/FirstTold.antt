-- Lines that are the same have the kind 0 and are passed over, and others have a kind that is told. So the line that is handed back is the first that is told. Assumes nothing.
use Prim.Native.Nat.{ℕ, suc}
use mathlib.Core.Path.{◌≡◌, refl}
use mathlib.Core.Bool.{Bool, true, false, cond}
use mathlib.Core.List.{List, [], ◌∷◌, map}
use native.Mathlib.Omega.{arith}
use borrow.Author.Tests.{lt-ltb, ne_eqb}
use lib.Dec.{ltb, eqb, leb-suc-suc}
use lib.ListN.{length, get_or}
use Rattle.buffers.specs.Text.{same_bytes}
use Rattle.buffers.proofs.Lookup.{same_true, same_itself, not_same}
use Rattle.cutting.specs.Lines.{lines}
use Rattle.kinds.specs.declared.Difference.{Difference}
use Rattle.kinds.specs.declared.Difference.TheVariants.{Alike, Missing, Refusal, OtherType, OtherValue, NanBits, ZeroSign}
use Rattle.kinds.specs.Kinds.{kind_number, line_kind}
use Rattle.kinds.proofs.Laws.{none_where_alike}
use Rattle.diffs.specs.Diffs.{line_kinds, diff_refusal, kinds_of, first_line, first_difference}
use Rattle.diffs.specs.Laws.{first_told, FirstSuchLine, EmptyWhere}

-- a kind that is told has a number
numbered : (d : Difference) → (d ≡ Alike → ⊥) → eqb (kind_number d) 0 ≡ false
numbered Alike h = absurd (h refl)
numbered Missing h = refl
numbered Refusal h = refl
numbered OtherType h = refl
numbered OtherValue h = refl
numbered NanBits h = refl
numbered ZeroSign h = refl

-- line n of the right listing, or of the left
abbrev line_of : ℕ → List (List ℕ) → List (List ℕ) → List ℕ
line_of n ls rs = cond (ltb n (length rs)) (get_or rs n []) (get_or ls n [])

first_such : (ls rs : List (List ℕ)) → first_line ls rs ≡ line_of (first_told (map kind_number (line_kinds ls rs))) ls rs
unfolding first_line first_told line_kinds
first_such [] [] = refl
first_such [] (r ∷ rs) = rw (lt-ltb 0 (suc (length rs)) (omega arith))
first_such (l ∷ ls) [] = refl
first_such (l ∷ ls) (r ∷ rs) = by (same_bytes l r) refl (first_such ls rs)
  where
    by : (b : Bool) → same_bytes l r ≡ b → first_line ls rs ≡ line_of (first_told (map kind_number (line_kinds ls rs))) ls rs
        → cond b (first_line ls rs) r ≡ line_of (first_told (kind_number (line_kind l r) ∷ map kind_number (line_kinds ls rs))) (l ∷ ls) (r ∷ rs)
    by true e rest =
        let n = first_told (map kind_number (line_kinds ls rs)) in
        rw ((none_where_alike l r).1 (same_true l r e), leb-suc-suc (suc n) (length rs)) rest
    by false e rest = rw (numbered (line_kind l r) (λ a. not_same l r e ((none_where_alike l r).0 a)), lt-ltb 0 (suc (length rs)) (omega arith))

pub first_such_line : FirstSuchLine
unfolding first_difference kinds_of
first_such_line s t e = rw e (first_such (lines s) (lines t))

no_line : (ls : List (List ℕ)) → first_line ls ls ≡ []
unfolding first_line
no_line [] = refl
no_line (l ∷ ls) = rw (same_itself l) (no_line ls)

pub empty_where : EmptyWhere
unfolding first_difference
empty_where = (λ s. by (eqb (diff_refusal s s) 0) (no_line (lines s)), λ s t h. rw (ne_eqb (diff_refusal s t) 0 h))
  where
    by : (b : Bool) {l : List ℕ} → l ≡ [] → cond b l [] ≡ []
    by true e = e
    by false e = refl
