-- What a call gives, from its refusal; and what a caller of words is told of it and finds written. By cases of the refusal and of the room. Assumes nothing.
use Prim.Native.Nat.{ℕ, zero, suc, ◌<◌, ◌≤◌}
use mathlib.Core.Bool.{Bool, true, false, cond}
use mathlib.Core.List.{List, [], ◌∷◌, ◌++◌}
use mathlib.Core.Path.{◌≡◌, refl, ap, sym, ◌∙◌}
use native.Mathlib.Omega.{arith}
use borrow.Author.Tests.{ne_eqb, lt-ltb, le-ltb}
use lib.Dec.{ltb, eqb}
use lib.ListN.{length, length-append}
use Rattle.readings.specs.declared.Reading.{Reading}
use Rattle.values.specs.declared.Kind.{Kind}
use Rattle.values.specs.declared.Value.{Value}
use Rattle.values.specs.Value.{empty_value}
use Rattle.buffers.specs.Memory.{put}
use Rattle.buffers.proofs.Puts.{put_nil, then}
use Rattle.words.specs.Words.{words_of}
use Rattle.calls.specs.declared.Builtin.{Builtin}
use Rattle.calls.specs.declared.Call.{Call}
use Rattle.calls.specs.Table.{takes}
use Rattle.calls.specs.Refuse.{judged, refusal_of}
use Rattle.calls.specs.Words.{call_of}
use Rattle.builtins.specs.declared.Answer.{Answer}
use Rattle.builtins.specs.Fold.{refused, answer_by, fold_by, fold_in}
use Rattle.builtins.specs.Words.{answer_of, refusal_in, written_in}
use Rattle.builtins.specs.Program.{Told}

-- a call that its row lets pass is answered by its builtin
pub folds : (R : Reading) (which : Builtin) (n : ℕ) (k : Kind) (a b c : Value) → judged (takes which) n k a b c ≡ 0
    → fold_in R (record { builtin = which; count = n; target = k; a = a; b = b; c = c }) ≡ answer_by R which k a b c
unfolding fold_in
folds R which n k a b c e = ap (λ (m : ℕ). fold_by R m (record { builtin = which; count = n; target = k; a = a; b = b; c = c })) e

-- and one that is answered has passed
pub unrefused : (R : Reading) (c : Call) → (fold_in R c).refusal ≡ 0 → refusal_of c ≡ 0
unfolding fold_in refused
unrefused R c = by (refusal_of c)
  where
    by : (m : ℕ) → (fold_by R m c).refusal ≡ 0 → m ≡ 0
    by zero r = refl
    by (suc m) r = r

by_refusal : (R : Reading) (m : ℕ) (c : Call) → (m ≡ 0 → ⊥) → (fold_by R m c).refusal ≡ m
unfolding refused
by_refusal R zero c h = absurd (h refl)
by_refusal R (suc m) c h = refl

refuses : (R : Reading) (c : Call) → (refusal_of c ≡ 0 → ⊥) → (fold_in R c).refusal ≡ refusal_of c
unfolding fold_in
refuses R c h = by_refusal R (refusal_of c) c h

-- ---- what is told and written

-- what is written where what is told depends on the room alone
by_room : (short : Bool) (xs : List ℕ) → cond (eqb (cond short 8 0) 0) xs [] ≡ cond short [] xs
by_room true xs = refl
by_room false xs = refl

module _ (a : Answer) (o : List ℕ) where
  pub told_short : length o < 35 → Told a o 8 o
  told_short h = record { told = sym (rw (lt-ltb _ _ h)); memory = sym (rw (lt-ltb _ _ h) (put_nil o 0)) }

  -- one value after the other, and the loss
  pub told_written : {o' o'' o''' : List ℕ} → 35 ≤ length o → length a.first.lanes ≡ 16 → length a.second.lanes ≡ 16
      → o' ≡ put o 0 (words_of a.first) → o'' ≡ put o' 17 (words_of a.second) → o''' ≡ put o'' 34 (a.loss ∷ []) → Told a o 0 o'''
  told_written {o'} {o''} h l l' e e' e'' =
      let values = words_of a.first ++ words_of a.second in
      let both : o'' ≡ put o 0 values = then o 0 (words_of a.first) (words_of a.second) (omega arith) e (omega arith) e' in
      let sizes : length values ≡ 34 = length-append (words_of a.first) (words_of a.second) ∙ omega (arith, l, l') in
      record { told = sym (rw (le-ltb _ _ h)); memory = then o 0 values (a.loss ∷ []) (omega (arith, sizes)) both (omega (arith, sizes)) e'' ∙ sym (rw (le-ltb _ _ h)) }

  -- of one value and no loss
  pub told_one : {o' o'' o''' : List ℕ} → 35 ≤ length o → length a.first.lanes ≡ 16 → a.second ≡ empty_value → a.loss ≡ 0
      → o' ≡ put o 0 (words_of a.first) → o'' ≡ put o' 17 (words_of empty_value) → o''' ≡ put o'' 34 (0 ∷ []) → Told a o 0 o'''
  unfolding empty_value
  told_one {o'} {o''} h l none nothing e e' e'' =
      told_written h l (rw none) e (e' ∙ ap (λ (v : Value). put o' 17 (words_of v)) (sym none)) (e'' ∙ ap (λ (n : ℕ). put o'' 34 (n ∷ [])) (sym nothing))

-- of a call that is refused
pub told_refused : (R : Reading) (o : List ℕ) (w : List ℕ) → (refusal_of (call_of w) ≡ 0 → ⊥)
    → (refusal_of (call_of w) ≡ refusal_in R (length o) w) × (o ≡ put o 0 (written_in R (length o) w))
unfolding refusal_in written_in
told_refused R o w h =
    let e : (fold_in R (call_of w)).refusal ≡ refusal_of (call_of w) = refuses R (call_of w) h in
    let n = ne_eqb (refusal_of (call_of w)) 0 h in
    (sym (rw (e, n)), sym (rw (e, n, n) (put_nil o 0)))

-- of one that is answered, in memory o before and o' after
pub told_answer : (R : Reading) (o : List ℕ) (w : List ℕ) {a : Answer} {r : ℕ} {o' : List ℕ} → a ≡ fold_in R (call_of w) → a.refusal ≡ 0 → Told a o r o'
    → (r ≡ refusal_in R (length o) w) × (o' ≡ put o 0 (written_in R (length o) w))
unfolding refusal_in written_in answer_of
told_answer R o w {a} e z t =
    let short = ltb (length o) 35 in
    (t.told ∙ sym (rw (← e, z)), t.memory ∙ sym (rw (← e, z) (ap (put o 0) (by_room short (words_of a.first ++ words_of a.second ++ a.loss ∷ [])))))
