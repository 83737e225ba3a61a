-- What is read is a tree of the grammar, and its text is what was read: by induction on the reader's number. With `line_complete` the reader accepts exactly the grammar. Assumes nothing.
use Prim.Native.Nat.{ℕ, zero, suc, ◌<◌}
use mathlib.Core.Bool.{Bool, true, false, cond, ◌&&◌}
use mathlib.Core.List.{List, [], ◌∷◌, ◌++◌, append_assoc, append-nil}
use mathlib.Core.Option.{Option, none, some}
use mathlib.Core.Path.{◌≡◌, refl, ap, sym, ◌∙◌}
use native.Mathlib.Omega.{arith}
use lib.Dec.{eqb}
use lib.ListN.{length, drop, length-append}
use borrow.Author.Tests.{eqb-true}
use Rattle.values.proofs.Bools.{both}
use Rattle.nesting.specs.Grammar.{is_spelling, is_bitcast, Tree, Trees, spelling, call, last, next, text, texts, Formed, Formeds, Line, is_call}
use Rattle.nesting.specs.Read.{first_word, mark_after, rest_after, opens, a_spelling, a_call, and_next, argument_by, arguments_by, trees_in, trees_of, tree_of, whole_call, line_tree}
use Rattle.nesting.specs.Laws.{Exactly}
use Rattle.nesting.proofs.Words.{word_front, word_plain}
use Rattle.nesting.proofs.Fuel.{opening}
use Rattle.nesting.proofs.Complete.{mark_after_lem, rest_after_lem, line_complete}

-- l starts with the text of a tree of the grammar, and of trees
pub record Starts (l : List ℕ) (first : Bool) (t : Tree) : Type 0 where
  pub formed : Formed t first
  pub rest : List ℕ
  pub front : l ≡ text t ++ rest

pub record StartsAll (l : List ℕ) (first : Bool) (a : Trees) : Type 0 where
  pub formed : Formeds a first
  pub rest : List ℕ
  pub front : l ≡ texts a ++ rest

none_some : {A B : Type 0} {a : A} → ◌≡◌ {A = Option A} none (some a) → B
none_some e = absurd (let z : ◌≡◌ {A = ℕ} 0 1 = cc in omega arith)

-- x and r, of which the first byte is c
marked : (l x r : List ℕ) (c : ℕ) → l ≡ x ++ r → mark_after x l ≡ c → 0 < c → l ≡ x ++ c ∷ rest_after x l
marked l x [] c e g h = absurd (let z : ◌≡◌ {A = ℕ} 0 c = sym (mark_after_lem x []) ∙ ap (mark_after x) (sym e) ∙ g in omega arith)
marked l x (y ∷ r) c e g h =
    let z : y ≡ c = sym (mark_after_lem x (y ∷ r)) ∙ ap (mark_after x) (sym e) ∙ g in
    e ∙ ap (λ (k : ℕ). x ++ k ∷ r) z ∙ ap (λ (k : List ℕ). x ++ c ∷ k) (sym (rest_after_lem x r y) ∙ ap (rest_after x) (sym e))

-- ---- an argument

module _ (l : List ℕ) (first : Bool) where
  of_spelling : (t : Tree) (w : List ℕ) → first_word l ≡ w → a_spelling w ≡ some t → Starts l first t
  unfolding Formed text is_spelling
  of_spelling t [] q e = none_some e
  of_spelling t (x ∷ w) q e =
      let z : spelling (x ∷ w) ≡ t = cc in
      rw (← z) (record { formed = rw q at (word_plain l); rest = drop (length (x ∷ w)) l; front = rw q at (word_front l) })

  of_call_lem : (t : Tree) (o : Option Trees) → opens first (first_word l) (mark_after (first_word l) l) ≡ true
      → ((a : Trees) → o ≡ some a → StartsAll (rest_after (first_word l) l) (is_bitcast (first_word l)) a) → a_call (first_word l) o ≡ some t → Starts l first t
  unfolding Formed text
  of_call_lem t none o h e = none_some e
  of_call_lem t (some a) o h e =
      let w = first_word l in
      let p = opening first w (mark_after w l) o in
      let i = h a refl in
      let z : call w a ≡ t = cc in
      rw (← z) (record {
        formed = (p.may, p.name, i.formed);
        rest = i.rest;
        front = marked l w (drop (length w) l) 40 (word_front l) p.bracket (omega arith)
            ∙ ap (λ (k : List ℕ). w ++ 40 ∷ k) i.front ∙ sym (append_assoc w (40 ∷ texts a) i.rest);
      })

  argument_sound : (f : Bool → List ℕ → Option Trees) → ((b : Bool) (k : List ℕ) (a : Trees) → f b k ≡ some a → StartsAll k b a)
      → (t : Tree) → argument_by f first l (first_word l) ≡ some t → Starts l first t
  argument_sound f h t e = by (opens first (first_word l) (mark_after (first_word l) l)) refl e
    where
      by : (u : Bool) → opens first (first_word l) (mark_after (first_word l) l) ≡ u
          → cond u (a_call (first_word l) (f (is_bitcast (first_word l)) (rest_after (first_word l) l))) (a_spelling (first_word l)) ≡ some t → Starts l first t
      by true q e = of_call_lem t (f (is_bitcast (first_word l)) (rest_after (first_word l) l)) q (λ a. h (is_bitcast (first_word l)) (rest_after (first_word l) l) a) e
      by false q e = of_spelling t (first_word l) refl e

  -- ---- arguments

  of_last : (t : Tree) (a : Trees) → Starts l first t → mark_after (text t) l ≡ 41 → last t ≡ a → StartsAll l first a
  unfolding Formed text
  of_last t a i g z =
      rw (← z) (record {
        formed = i.formed;
        rest = rest_after (text t) l;
        front = marked l (text t) i.rest 41 i.front g (omega arith) ∙ sym (append_assoc (text t) (41 ∷ []) (rest_after (text t) l));
      })

  of_next : (t : Tree) (a : Trees) (o : Option Trees) → Starts l first t → mark_after (text t) l ≡ 59
      → ((b : Trees) → o ≡ some b → StartsAll (rest_after (text t) l) false b) → and_next t o ≡ some a → StartsAll l first a
  unfolding Formed text
  of_next t a none i g h e = none_some e
  of_next t a (some b) i g h e =
      let j = h b refl in
      let z : next t b ≡ a = cc in
      rw (← z) (record {
        formed = (i.formed, j.formed);
        rest = j.rest;
        front = marked l (text t) i.rest 59 i.front g (omega arith)
            ∙ ap (λ (k : List ℕ). text t ++ 59 ∷ k) j.front ∙ sym (append_assoc (text t) (59 ∷ texts b) j.rest);
      })

  arguments_sound : (f : Bool → List ℕ → Option Trees) → ((k : List ℕ) (a : Trees) → f false k ≡ some a → StartsAll k false a)
      → (o : Option Tree) → ((t : Tree) → o ≡ some t → Starts l first t) → (a : Trees) → arguments_by f l o ≡ some a → StartsAll l first a
  arguments_sound f h none i a e = none_some e
  arguments_sound f h (some t) i a e = by (eqb (mark_after (text t) l) 41) (eqb (mark_after (text t) l) 59) refl refl e
    where
      by : (u v : Bool) → eqb (mark_after (text t) l) 41 ≡ u → eqb (mark_after (text t) l) 59 ≡ v
          → cond u (some (last t)) (cond v (and_next t (f false (rest_after (text t) l))) none) ≡ some a → StartsAll l first a
      by true v p q e = of_last t a (i t refl) (eqb-true _ _ p) (cc)
      by false true p q e = of_next t a (f false (rest_after (text t) l)) (i t refl) (eqb-true _ _ q) (λ b. h (rest_after (text t) l) b) e
      by false false p q e = none_some e

trees_sound : (n : ℕ) (first : Bool) (l : List ℕ) (a : Trees) → trees_in n first l ≡ some a → StartsAll l first a
unfolding trees_in
trees_sound zero first l a e = none_some e
trees_sound (suc n) first l a e =
    let h : (b : Bool) (k : List ℕ) (c : Trees) → trees_in n b k ≡ some c → StartsAll k b c = λ b k c q. trees_sound n b k c q in
    arguments_sound l first (λ b k. trees_in n b k) (λ k c q. h false k c q) (argument_by (λ b k. trees_in n b k) first l (first_word l))
    (λ t q. argument_sound l first (λ b k. trees_in n b k) h t q) a e

pub trees_front : (first : Bool) (l : List ℕ) (a : Trees) → trees_of first l ≡ some a → StartsAll l first a
unfolding trees_of
trees_front first l a e = trees_sound (suc (length l)) first l a e

tree_sound : (first : Bool) (l : List ℕ) (t : Tree) → tree_of first l ≡ some t → Starts l first t
unfolding tree_of
tree_sound first l t e = argument_sound l first trees_of (λ b k a q. trees_front b k a q) t e

-- ---- a line

no_rest : (x r : List ℕ) → length x ≡ length (x ++ r) → x ++ r ≡ x
no_rest x [] e = append-nil x
no_rest x (y ∷ r) e = absurd (omega (arith, length-append x (y ∷ r)))

line_sound : (l : List ℕ) (t : Tree) → line_tree l ≡ some t → Line l t
unfolding line_tree
line_sound l t e = by (tree_of false l) (λ u q. tree_sound false l u q) e
  where
    whole : (u : Tree) (b : Bool) → is_call u && eqb (length (text u)) (length l) ≡ b → Starts l false u → cond b (some u) none ≡ some t → Line l t
    whole u false q i e = none_some e
    whole u true q i e =
        let p = both (is_call u) (eqb (length (text u)) (length l)) q in
        let z : u ≡ t = cc in
        rw (← z) (record {
          one = p.0;
          formed = i.formed;
          whole = i.front ∙ no_rest (text u) i.rest (eqb-true _ _ p.1 ∙ ap length i.front);
        })

    by : (o : Option Tree) → ((u : Tree) → o ≡ some u → Starts l false u) → whole_call l o ≡ some t → Line l t
    by none h e = none_some e
    by (some u) h e = whole u (is_call u && eqb (length (text u)) (length l)) refl (h u refl) e

pub exactly : (l : List ℕ) (t : Tree) → Exactly l t
exactly l t = (line_sound l t, line_complete l t)
