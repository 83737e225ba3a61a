-- The fold is a pass over the line (nesting's Pass): what the program gives for an argument and for arguments is what their trees give. Assumes nothing.
use Prim.Native.Nat.{ℕ, ◌+◌, ◌-◌, ◌<◌, ◌≤◌}
use mathlib.Core.Bool.{Bool, true, false, cond, ◌&&◌, false≢true}
use mathlib.Core.List.{List, [], ◌∷◌}
use mathlib.Core.Option.{Option as Maybe, none, some}
use Rattle.std.specs.Prelude.{Option, Some, None}
use mathlib.Core.Path.{◌≡◌, refl, ap, sym, ◌∙◌}
use native.Mathlib.Omega.{arith}
use lib.Dec.{eqb, leb}
use lib.ListN.{length, take, drop, get_or, length-append, length-drop}
use borrow.Author.Tests.{eq-eqb, ne_eqb}
use Rattle.readings.specs.declared.Reading.{Reading}
use Rattle.nesting.specs.declared.Head.{Head}
use Rattle.nesting.specs.Grammar.{is_bitcast, Tree, Trees, call, last, next, text, texts, is_call, depth}
use Rattle.nesting.specs.Read.{a_call, tree_of, trees_of, line_tree, whole_call, refusal_by, refusal_of}
use Rattle.nesting.specs.Program.{head_at, read_as}
use Rattle.nesting.proofs.Heads.{part, part_length, tree_by, tree_by_head}
use Rattle.nesting.proofs.Sound.{StartsAll, trees_front}
use Rattle.nesting.proofs.Steps.{head_room}
use Rattle.nesting.proofs.Steps as steps
use Rattle.nesting.proofs.Pass.{Pass}
use Rattle.nesting.proofs.Pass as pass
use Rattle.nested.specs.declared.Argument.{Argument}
use Rattle.nested.specs.declared.Arguments.{Arguments}
use Rattle.nested.specs.declared.Ended.{Ended}
use Rattle.nested.specs.declared.Folded.{Folded}
use Rattle.nested.specs.Nested.{refused_at, spelled, alone, joined, judged, argument_of, arguments_of, folded_call, nested_by, nested_of}
use Rattle.nested.specs.Program.{ended, called_of, outermost_of, joined_of, one_at, all_at, rest_at}

-- ---- the equations of the pass

module _ (r : Reading) where
  called_all : (first : Bool) (at : ℕ) (w : List ℕ) (a : Trees) (e : ℕ)
      → called_of r w (ended (arguments_of r (is_bitcast w) (at + length w + 1) a) e) ≡ ended (argument_of r first at (call w a)) e
  unfolding argument_of
  called_all first at w a e = refl

  closed_last : (first : Bool) (at : ℕ) (t : Tree) (e : ℕ) → ended (alone (argument_of r first at t)) e ≡ ended (arguments_of r first at (last t)) e
  unfolding argument_of
  closed_last first at t e = refl

  joined_all : (first : Bool) (at : ℕ) (t : Tree) (a : Trees) (e : ℕ)
      → joined_of (argument_of r first at t) (ended (arguments_of r false (at + length (text t) + 1) a) e) ≡ ended (arguments_of r first at (next t a)) e
  unfolding argument_of
  joined_all first at t a e = refl

  abbrev from_first : (Argument → ℕ → Option (Ended Arguments)) → Option (Ended Argument) → Option (Ended Arguments)
  from_first k None = None
  from_first k (Some x) = k x.given x.end

  abbrev fold_pass : Pass Argument (Option (Ended Argument)) (Option (Ended Arguments))
  fold_pass = record {
    of = argument_of r;
    one = λ x e. ended x e;
    wrong = None;
    all = λ first at a e. ended (arguments_of r first at a) e;
    no_arguments = None;
    called = called_of r;
    called_none = λ w. refl;
    called_all = called_all;
    closed = λ x e. ended (alone x) e;
    closed_last = closed_last;
    joined = joined_of;
    joined_none = λ x. refl;
    joined_all = joined_all;
    from = from_first;
    from_wrong = λ k. refl;
    from_one = λ k x e. refl;
  }

-- ---- its steps, by what the program holds

abbrev by_head : Reading → Bool → List ℕ → ℕ → Option Head → Option (Ended Argument)
by_head r first s at None = None
by_head r first s at (Some (Head.Spelling e)) = ended (spelled first at (part s at e)) e
by_head r first s at (Some (Head.Call e b)) = called_of r (part s at e) (all_at r b s e)

-- what is read from `at` on ends there or later
abbrev Past : ℕ → Option (Ended Argument) → Type 0
Past at None = Unit {0}
Past at (Some z) = at ≤ z.end

module _ (r : Reading) (first : Bool) (s : List ℕ) (at : ℕ) where
  pub argument_given : (h k : Option Head) → h ≡ head_at first s at → h ≡ k → by_head r first s at k ≡ one_at r first s at
  unfolding one_at all_at argument_of
  argument_given h None p q = pass.argument_given (fold_pass r) s first at h None p q
  argument_given h (Some (Head.Spelling e)) p q = pass.argument_given (fold_pass r) s first at h (Some (Head.Spelling e)) p q
  argument_given h (Some (Head.Call e b)) p q = pass.argument_given (fold_pass r) s first at h (Some (Head.Call e b)) p q

  pub argument_called : (h : Option Head) (e : ℕ) (b : Bool) → h ≡ head_at first s at → h ≡ Some (Head.Call e b) → (x y : Option (Ended Arguments))
      → x ≡ all_at r b s e → x ≡ y → called_of r (part s at e) y ≡ one_at r first s at
  argument_called h e b p q x y z i = rw (← i, z) (argument_given h (Some (Head.Call e b)) p q)

  pub call_given : (x y : Option (Ended Argument)) → x ≡ one_at r first s (at + 1) → x ≡ y → from_first r (rest_at r s) y ≡ all_at r first s at
  unfolding one_at all_at rest_at
  call_given x y p i = pass.call_given (fold_pass r) s first at x y p i

  pub ends : (x : Option (Ended Argument)) (y : Ended Argument) → x ≡ one_at r first s at → x ≡ Some y → at ≤ y.end
  unfolding one_at
  ends x y p i = (rw (sym p ∙ i) at (by (tree_of first (drop at s))))
    where
      by : (o : Maybe Tree) → Past at (read_as text None (λ b t e. ended (argument_of r first b t) e) at o)
      by none = tt
      by (some t) = omega arith

module _ (r : Reading) (s : List ℕ) (x : Argument) (e c : ℕ) (h : c ≡ get_or s e 0) where
  pub rest_closed : c ≡ 41 → ended (alone x) (e + 1) ≡ rest_at r s x e
  unfolding rest_at
  rest_closed z = rw (← h, eq-eqb c 41 z)

  pub rest_more : (c ≡ 41 → ⊥) → c ≡ 59 → (y k : Option (Ended Arguments)) → y ≡ all_at r false s e → y ≡ k → joined_of x k ≡ rest_at r s x e
  unfolding rest_at
  rest_more n z y k q i = rw (← i, q, ← h, ne_eqb c 41 n, eq-eqb c 59 z)

  pub rest_wrong : (c ≡ 41 → ⊥) → (c ≡ 59 → ⊥) → None ≡ rest_at r s x e
  unfolding rest_at
  rest_wrong n m = rw (← h, ne_eqb c 41 n, ne_eqb c 59 m)

-- ---- there are no more arguments than bytes

module _ (r : Reading) where
  count_length : (a : Trees) (first : Bool) (at : ℕ) → (arguments_of r first at a).count ≤ length (texts a)
  unfolding argument_of alone joined text
  count_length (last t) first at = omega (arith, length-append (text t) (41 ∷ []))
  count_length (next t a) first at = omega (arith, length-append (text t) (59 ∷ texts a), count_length a false (at + length (text t) + 1))

  -- no more than n
  abbrev Few : ℕ → Option (Ended Arguments) → Type 0
  Few n None = Unit {0}
  Few n (Some x) = x.given.count ≤ n

  pub counted : (first : Bool) (s : List ℕ) (at : ℕ) (x : Option (Ended Arguments)) (y : Ended Arguments) → x ≡ all_at r first s at → x ≡ Some y → at < length s
      → y.given.count ≤ length s
  unfolding all_at
  counted first s at x y p i z = rw (sym p ∙ i) at (by (trees_of first (drop (at + 1) s)) (λ a q. trees_front first (drop (at + 1) s) a q))
    where
      by : (o : Maybe Trees) → ((a : Trees) → o ≡ some a → StartsAll (drop (at + 1) s) first a)
          → Few (length s) (read_as texts None (λ b a e. ended (arguments_of r first b a) e) (at + 1) o)
      by none h = tt
      by (some a) h =
          let i = h a refl in
          omega (arith, ap length i.front ∙ length-append (texts a) i.rest, length-drop (at + 1) s, count_length a first (at + 1))

-- ---- a line

pub line_refused : (r : Reading) (l : List ℕ) (n : ℕ) → n ≡ refusal_of l → (n ≡ 0 → ⊥) → refused_at n 0 ≡ nested_of r l
unfolding nested_of refusal_of
line_refused r l n q z = rw q (by (line_tree l) (λ e. z (q ∙ e)))
  where
    deep : (t : Tree) (b : Bool) → (◌≡◌ {A = ℕ} (cond b 0 13) 0 → ⊥) → refused_at (cond b 0 13) 0 ≡ cond b (folded_call r t) (refused_at 13 0)
    deep t true h = absurd (h refl)
    deep t false h = refl

    by : (o : Maybe Tree) → (refusal_by o ≡ 0 → ⊥) → refused_at (refusal_by o) 0 ≡ nested_by r o
    by none h = refl
    by (some t) h = deep t (leb (depth t) 8) h

-- a line that is not refused is a call, read whole and 8 deep at most
module _ (r : Reading) (l : List ℕ) where
  abbrev outermost : Maybe Tree → Folded
  outermost none = refused_at 12 0
  outermost (some t) = folded_call r t

  passed : (o : Maybe Tree) → refusal_by (whole_call l o) ≡ 0 → outermost o ≡ nested_by r (whole_call l o)
  passed none z = absurd (omega arith)
  passed (some t) z = whole (is_call t && eqb (length (text t)) (length l)) z
    where
      deep : (b : Bool) → ◌≡◌ {A = ℕ} (cond b 0 13) 0 → folded_call r t ≡ cond b (folded_call r t) (refused_at 13 0)
      deep true z = refl
      deep false z = absurd (omega arith)

      whole : (b : Bool) → refusal_by (cond b (some t) none) ≡ 0 → folded_call r t ≡ nested_by r (cond b (some t) none)
      whole true z = deep (leb (depth t) 8) z
      whole false z = absurd (omega arith)

  call_passed : (w : List ℕ) (b : Bool) (e : ℕ) (o : Maybe Trees) → b ≡ is_bitcast w → length w ≡ e → refusal_by (whole_call l (a_call w o)) ≡ 0
      → outermost_of r w (read_as texts None (λ i a j. ended (arguments_of r b i a) j) (e + 1) o) ≡ Some (nested_by r (whole_call l (a_call w o)))
  call_passed w b e none q n z = absurd (omega arith)
  call_passed w b e (some a) q n z = rw (q, ← n) (ap (λ (x : Folded). Some x) (passed (some (call w a)) z))

  module _ (z : refusal_of l ≡ 0) (h : Option Head) (p : h ≡ head_at false l 0) where
    pub line_bad : h ≡ None → None ≡ Some (nested_of r l)
    line_bad q = absurd (let n : ◌≡◌ {A = ℕ} 12 0 = steps.line_given l h None p q ∙ z in omega arith)

    pub line_spelling : (e : ℕ) → h ≡ Some (Head.Spelling e) → None ≡ Some (nested_of r l)
    line_spelling e q = absurd (let n : ◌≡◌ {A = ℕ} 12 0 = steps.line_given l h (Some (Head.Spelling e)) p q ∙ z in omega arith)

    pub line_call : (e : ℕ) (b : Bool) → h ≡ Some (Head.Call e b) → (x y : Option (Ended Arguments)) → x ≡ all_at r b l e → x ≡ y → outermost_of r (take e l) y ≡ Some (nested_of r l)
    unfolding nested_of refusal_of line_tree all_at
    line_call e b q x y u v =
        let i = head_room false l 0 h (Some (Head.Call e b)) p q in
        let w = part l 0 e in
        let m : e - 0 ≡ e = omega arith in
        let t : tree_of false l ≡ a_call w (trees_of b (drop (e + 1) l)) = tree_by_head false l 0 ∙ ap (tree_by l 0) (sym p ∙ q) in
        let n : length w ≡ e = omega (arith, part_length l 0 e (omega arith) (omega (arith, i.1))) in
        ap (λ k. outermost_of r (take k l) y) (sym m) ∙ ap (outermost_of r w) (sym v ∙ u)
        ∙ call_passed w b e (trees_of b (drop (e + 1) l)) i.2 n (ap (λ (o : Maybe Tree). refusal_by (whole_call l o)) (sym t) ∙ z)
        ∙ ap (λ (o : Maybe Tree). Some (nested_by r (whole_call l o))) (sym t)
