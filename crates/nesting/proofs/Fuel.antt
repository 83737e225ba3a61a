-- The reader without its number: arguments are read by reading shorter lists, so any number above the length will do. By induction on the number. Assumes nothing.
use Prim.Native.Nat.{ℕ, zero, suc, ◌+◌, ◌<◌}
use mathlib.Core.Bool.{Bool, true, false, not, cond, ◌&&◌}
use mathlib.Core.List.{List}
use mathlib.Core.Option.{Option, none, some}
use mathlib.Core.Path.{◌≡◌, refl, ap, ◌∙◌}
use native.Mathlib.Omega.{arith}
use lib.Dec.{eqb}
use lib.ListN.{length, drop, length-drop, length-append}
use borrow.Author.Tests.{eqb-true, not-true}
use Rattle.values.proofs.Bools.{both}
use Rattle.nesting.specs.Grammar.{is_name, is_bitcast, letter_or_digit, Tree, Trees, last, text}
use Rattle.nesting.specs.Read.{first_word, mark_after, rest_after, opens, a_spelling, a_call, and_next, argument_by, arguments_by, trees_in, trees_of, tree_of}
use Rattle.nesting.proofs.Words.{word_front, some_long, mark_room}

pub record Opening (first : Bool) (w : List ℕ) (mark : ℕ) : Type 0 where
  pub may : first ≡ false
  pub name : is_name w ≡ true
  pub bracket : mark ≡ 40

pub opening : (first : Bool) (w : List ℕ) (mark : ℕ) → opens first w mark ≡ true → Opening first w mark
unfolding opens
opening first w mark e =
    let p = both (not first && is_name w) (eqb mark 40) e in
    let q = both (not first) (is_name w) p.0 in
    record { may = not-true first q.0; name = q.1; bracket = eqb-true mark 40 p.1 }

-- two ways to read that agree on shorter lists
module _ (f g : Bool → List ℕ → Option Trees) (first : Bool) (l : List ℕ) (h : (b : Bool) (k : List ℕ) → length k < length l → f b k ≡ g b k) where
  shorter : opens first (first_word l) (mark_after (first_word l) l) ≡ true → length (rest_after (first_word l) l) < length l
  unfolding is_name
  shorter e =
      let o = opening first (first_word l) (mark_after (first_word l) l) e in
      let n = some_long letter_or_digit (first_word l) o.name in
      let m = ap length (word_front l) ∙ length-append (first_word l) (drop (length (first_word l)) l) in
      omega (arith, length-drop (length (first_word l) + 1) l)

  argument_same : argument_by f first l (first_word l) ≡ argument_by g first l (first_word l)
  argument_same = by (opens first (first_word l) (mark_after (first_word l) l)) refl
    where
      by : (t : Bool) → opens first (first_word l) (mark_after (first_word l) l) ≡ t
          → cond t (a_call (first_word l) (f (is_bitcast (first_word l)) (rest_after (first_word l) l))) (a_spelling (first_word l))
          ≡ cond t (a_call (first_word l) (g (is_bitcast (first_word l)) (rest_after (first_word l) l))) (a_spelling (first_word l))
      by true e = ap (a_call (first_word l)) (h (is_bitcast (first_word l)) (rest_after (first_word l) l) (shorter e))
      by false e = refl

  arguments_same : (o : Option Tree) → arguments_by f l o ≡ arguments_by g l o
  arguments_same none = refl
  arguments_same (some t) = by (eqb (mark_after (text t) l) 41) (eqb (mark_after (text t) l) 59) refl
    where
      by : (u v : Bool) → eqb (mark_after (text t) l) 59 ≡ v
          → cond u (some (last t)) (cond v (and_next t (f false (rest_after (text t) l))) none)
          ≡ cond u (some (last t)) (cond v (and_next t (g false (rest_after (text t) l))) none)
      by true v e = refl
      by false false e = refl
      by false true e =
          let r = mark_room l (length (text t)) 59 (eqb-true _ _ e) (omega arith) in
          ap (and_next t) (h false (rest_after (text t) l) (omega (arith, length-drop (length (text t) + 1) l)))

  both_same : arguments_by f l (argument_by f first l (first_word l)) ≡ arguments_by g l (argument_by g first l (first_word l))
  both_same = ap (arguments_by f l) argument_same ∙ arguments_same (argument_by g first l (first_word l))

any_number : (n m : ℕ) (first : Bool) (l : List ℕ) → length l < n → length l < m → trees_in n first l ≡ trees_in m first l
unfolding trees_in
any_number zero m first l h i = absurd (omega arith)
any_number (suc n) zero first l h i = absurd (omega arith)
any_number (suc n) (suc m) first l h i =
    both_same (λ b k. trees_in n b k) (λ b k. trees_in m b k) first l (λ b k q. any_number n m b k (omega arith) (omega arith))

pub trees_unfold : (first : Bool) (l : List ℕ) → trees_of first l ≡ arguments_by trees_of l (tree_of first l)
unfolding trees_of tree_of trees_in
trees_unfold first l =
    both_same (λ b k. trees_in (length l) b k) trees_of first l (λ b k q. any_number (length l) (suc (length k)) b k (omega arith) (omega arith))
