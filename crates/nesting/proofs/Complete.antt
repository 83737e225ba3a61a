-- Every tree is read back from its text, whatever may stand after it: by induction on the tree. So no two trees share a text. Assumes nothing.
use Prim.Native.Nat.{ℕ}
use mathlib.Core.Bool.{Bool, true, false, not, ◌&&◌, false≢true, and-false}
use mathlib.Core.List.{List, [], ◌∷◌, ◌++◌, append_assoc, append-nil}
use mathlib.Core.Option.{some}
use mathlib.Core.Path.{◌≡◌, refl, ap, sym, ◌∙◌}
use lib.Dec.{eqb}
use lib.ListN.{length, get_or}
use lib.Seq.{drop-append-add}
use borrow.Author.Tests.{ne_eqb, eq-eqb}
use Rattle.values.specs.Value.{every}
use Rattle.values.proofs.Bools.{both, and}
use Rattle.nesting.specs.Grammar.{letter_or_digit, plain, is_name, is_spelling, is_bitcast, one_or_more, Tree, Trees, spelling, call, last, next, text, texts, Formed, Formeds, Line}
use Rattle.nesting.specs.Read.{first_word, mark_after, rest_after, opens, a_spelling, trees_of, tree_of, line_tree}
use Rattle.nesting.specs.Laws.{Unique}
use Rattle.nesting.proofs.Words.{some_every}
use Rattle.nesting.proofs.Fuel.{trees_unfold}

-- ---- a word ends where a byte comes that is not plain

abbrev Ends : List ℕ → Type 0
Ends [] = Unit {0}
Ends (x ∷ r) = plain x ≡ false

word_all : (w r : List ℕ) → every plain w ≡ true → Ends r → first_word (w ++ r) ≡ w
unfolding first_word
word_all [] [] a e = refl
word_all [] (x ∷ r) a e = rw e
word_all (x ∷ w) r a e = let b = both (plain x) (every plain w) a in rw (b.0, word_all w r b.1 e)

pub mark_after_lem : (w r : List ℕ) → mark_after w (w ++ r) ≡ get_or r 0 0
mark_after_lem [] r = refl
mark_after_lem (x ∷ w) r = mark_after_lem w r

pub rest_after_lem : (w r : List ℕ) (c : ℕ) → rest_after w (w ++ c ∷ r) ≡ r
rest_after_lem w r c = drop-append-add w (c ∷ r) 1

-- a letter or digit is no mark
other : (x m : ℕ) → letter_or_digit x ≡ true → letter_or_digit m ≡ false → eqb x m ≡ false
other x m t f = ne_eqb x m (λ e. absurd (false≢true (sym f ∙ ap letter_or_digit (sym e) ∙ t)))

letter_plain : (x : ℕ) → letter_or_digit x ≡ true → plain x ≡ true
unfolding letter_or_digit plain
letter_plain x t = rw (other x 9 t refl, other x 59 t refl, other x 40 t refl, other x 41 t refl)

name_plain : (w : List ℕ) → every letter_or_digit w ≡ true → every plain w ≡ true
name_plain [] e = refl
name_plain (x ∷ w) e = let b = both (letter_or_digit x) (every letter_or_digit w) e in and (letter_plain x b.0) (name_plain w b.1)

-- ---- what may stand after an argument: the end, a closing bracket or a semicolon

pub record Stop (r : List ℕ) : Type 0 where
  pub ends : Ends r
  pub closed : eqb (get_or r 0 0) 40 ≡ false

at_end_lem : Stop []
at_end_lem = record { ends = tt; closed = refl }

at_bracket : (r : List ℕ) → Stop (41 ∷ r)
unfolding plain
at_bracket r = record { ends = refl; closed = refl }

at_semicolon : (r : List ℕ) → Stop (59 ∷ r)
unfolding plain
at_semicolon r = record { ends = refl; closed = refl }

-- ---- each shape

a_spelling_lem : (w : List ℕ) → one_or_more plain w ≡ true → a_spelling w ≡ some (spelling w)
a_spelling_lem [] e = absurd (false≢true e)
a_spelling_lem (x ∷ w) e = refl

read_spelling : (w : List ℕ) (first : Bool) (r : List ℕ) → is_spelling w ≡ true → Stop r → tree_of first (w ++ r) ≡ some (spelling w)
unfolding is_spelling tree_of opens
read_spelling w first r f s =
    rw (word_all w r (some_every plain w f) s.ends, mark_after_lem w r, s.closed, and-false (not first && is_name w)) (a_spelling_lem w f)

read_call : (w : List ℕ) (a : Trees) (r : List ℕ) → is_name w ≡ true → trees_of (is_bitcast w) r ≡ some a → tree_of false (w ++ 40 ∷ r) ≡ some (call w a)
unfolding tree_of opens is_name plain
read_call w a r f h =
    rw (word_all w (40 ∷ r) (name_plain w (some_every letter_or_digit w f)) refl, mark_after_lem w (40 ∷ r), f, rest_after_lem w r 40, h)

read_last : (t : Tree) (first : Bool) (r : List ℕ) → tree_of first (text t ++ 41 ∷ r) ≡ some t → trees_of first (text t ++ 41 ∷ r) ≡ some (last t)
read_last t first r h = rw (trees_unfold first (text t ++ 41 ∷ r), h, mark_after_lem (text t) (41 ∷ r))

read_next : (t : Tree) (a : Trees) (first : Bool) (r : List ℕ) → tree_of first (text t ++ 59 ∷ r) ≡ some t → trees_of false r ≡ some a
    → trees_of first (text t ++ 59 ∷ r) ≡ some (next t a)
read_next t a first r h k = rw (trees_unfold first (text t ++ 59 ∷ r), h, mark_after_lem (text t) (59 ∷ r), rest_after_lem (text t) r 59, k)

mutual
  unfolding text Formed

  pub read_tree : (t : Tree) (first : Bool) (r : List ℕ) → Formed t first → Stop r → tree_of first (text t ++ r) ≡ some t
  read_tree (spelling w) first r f s = read_spelling w first r f s
  read_tree (call w a) first r f s =
      rw (f.0, append_assoc w (40 ∷ texts a) r) (read_call w a (texts a ++ r) f.1 (read_trees a (is_bitcast w) r f.2))

  read_trees : (a : Trees) (first : Bool) (r : List ℕ) → Formeds a first → trees_of first (texts a ++ r) ≡ some a
  read_trees (last t) first r f =
      rw (append_assoc (text t) (41 ∷ []) r) (read_last t first r (read_tree t first (41 ∷ r) f (at_bracket r)))
  read_trees (next t a) first r f =
      rw (append_assoc (text t) (59 ∷ texts a) r)
      (read_next t a first (texts a ++ r) (read_tree t first (59 ∷ (texts a ++ r)) f.0 (at_semicolon (texts a ++ r))) (read_trees a false r f.1))

-- ---- the whole text

pub read_whole : (t : Tree) (first : Bool) → Formed t first → tree_of first (text t) ≡ some t
read_whole t first f = ap (tree_of first) (sym (append-nil (text t))) ∙ read_tree t first [] f at_end_lem

pub unique : (t u : Tree) → Unique t u
unique t u first f g e =
    let q : some t ≡ some u = sym (read_whole t first f) ∙ ap (tree_of first) e ∙ read_whole u first g in
    cc

pub line_complete : (l : List ℕ) (t : Tree) → Line l t → line_tree l ≡ some t
unfolding line_tree
line_complete l t i =
    rw (i.whole, read_whole t false i.formed, i.one, eq-eqb (length (text t)) (length (text t)) refl)
