-- Any pass over a line that goes with the reader and gives something for each tree and where it ends, step by step: an argument by its head, a call by its first argument.
-- Each step is the reader's own; what the pass gives is only carried along. Assumes nothing.
use Prim.Native.Nat.{ℕ, ◌+◌}
use mathlib.Core.Bool.{Bool, true, false, cond}
use mathlib.Core.List.{List, [], ◌∷◌}
use mathlib.Core.Option.{Option as Maybe, none, some}
use Rattle.std.specs.Prelude.{Option, Some, None}
use mathlib.Core.Path.{◌≡◌, refl, ap, sym, ◌∙◌}
use native.Mathlib.Omega.{arith}
use lib.Dec.{eqb}
use lib.ListN.{length, drop, get_or, length-append}
use lib.Seq.{drop-drop, get_or-drop}
use Rattle.nesting.specs.declared.Head.{Head}
use Rattle.nesting.specs.Grammar.{is_bitcast, Tree, Trees, spelling, call, last, next, text, texts}
use Rattle.nesting.specs.Read.{a_call, and_next, arguments_by, tree_of, trees_of}
use Rattle.nesting.specs.Program.{head_at, read_as}
use Rattle.nesting.proofs.Fuel.{trees_unfold}
use Rattle.nesting.proofs.Heads.{part, part_length, Within, head_within, tree_by, tree_by_head}

-- ---- ends: of a call whose name ends at e, and of arguments whose first ends at e

pub call_end : (at e : ℕ) (w : List ℕ) (a : Trees) → at + length w ≡ e → at + length (text (call w a)) ≡ e + 1 + length (texts a)
unfolding text
call_end at e w a q = omega (arith, length-append w (40 ∷ texts a))

last_end : (at e : ℕ) (t : Tree) → at + length (text t) ≡ e → at + length (texts (last t)) ≡ e + 1
unfolding text
last_end at e t q = omega (arith, length-append (text t) (41 ∷ []))

next_end : (at e : ℕ) (t : Tree) (a : Trees) → at + length (text t) ≡ e → at + length (texts (next t a)) ≡ e + 1 + length (texts a)
unfolding text
next_end at e t a q = omega (arith, length-append (text t) (59 ∷ texts a))

-- ---- a pass: what it gives for an argument (R, with an A for its tree) and for arguments (S), and how the one is made of the other

pub record Pass (A R S : Type 0) : Type 0 where
  -- by whether it is a bitcast's first, and where it starts
  pub of : Bool → ℕ → Tree → A
  pub one : A → ℕ → R
  pub wrong : R
  pub all : Bool → ℕ → Trees → ℕ → S
  pub no_arguments : S
  -- a call by its name and its arguments
  pub called : List ℕ → S → R
  pub called_none : (w : List ℕ) → called w no_arguments ≡ wrong
  pub called_all : (first : Bool) (at : ℕ) (w : List ℕ) (a : Trees) (e : ℕ) → called w (all (is_bitcast w) (at + length w + 1) a e) ≡ one (of first at (call w a)) e
  -- arguments by the last, and by one and those after it
  pub closed : A → ℕ → S
  pub closed_last : (first : Bool) (at : ℕ) (t : Tree) (e : ℕ) → closed (of first at t) e ≡ all first at (last t) e
  pub joined : A → S → S
  pub joined_none : (x : A) → joined x no_arguments ≡ no_arguments
  pub joined_all : (first : Bool) (at : ℕ) (t : Tree) (a : Trees) (e : ℕ)
      → joined (of first at t) (all false (at + length (text t) + 1) a e) ≡ all first at (next t a) e
  -- arguments by the first
  pub from : (A → ℕ → S) → R → S
  pub from_wrong : (k : A → ℕ → S) → from k wrong ≡ no_arguments
  pub from_one : (k : A → ℕ → S) (x : A) (e : ℕ) → from k (one x e) ≡ k x e

module _ {A R S : Type 0} (p : Pass A R S) where
  abbrev one_of : Bool → ℕ → Maybe Tree → R
  one_of first at o = read_as text p.wrong (λ b t e. p.one (p.of first b t) e) at o

  abbrev all_of : Bool → ℕ → Maybe Trees → S
  all_of first at o = read_as texts p.no_arguments (p.all first) at o

  a_call_lem : (first : Bool) (at e : ℕ) (w : List ℕ) (o : Maybe Trees) → at + length w ≡ e → one_of first at (a_call w o) ≡ p.called w (all_of (is_bitcast w) (e + 1) o)
  a_call_lem first at e w none q = sym (p.called_none w)
  a_call_lem first at e w (some a) q =
      rw (call_end at e w a q, ← q) (sym (p.called_all first at w a (at + length w + 1 + length (texts a))))

  and_next_lem : (first : Bool) (at e : ℕ) (t : Tree) (o : Maybe Trees) → at + length (text t) ≡ e
      → all_of first at (and_next t o) ≡ p.joined (p.of first at t) (all_of false (e + 1) o)
  and_next_lem first at e t none q = sym (p.joined_none (p.of first at t))
  and_next_lem first at e t (some a) q =
      rw (next_end at e t a q, ← q) (sym (p.joined_all first at t a (at + length (text t) + 1 + length (texts a))))

  module _ (s : List ℕ) where
    abbrev pub one_at : Bool → ℕ → R
    one_at first at = one_of first at (tree_of first (drop at s))

    -- those after the mark at `at`
    abbrev pub all_at : Bool → ℕ → S
    all_at first at = all_of first (at + 1) (trees_of first (drop (at + 1) s))

    abbrev pub by_head : Bool → ℕ → Option Head → R
    by_head first at None = p.wrong
    by_head first at (Some (Head.Spelling e)) = p.one (p.of first at (spelling (part s at e))) e
    by_head first at (Some (Head.Call e b)) = p.called (part s at e) (all_at b e)

    -- a call from the end of an argument on
    abbrev pub rest_at : A → ℕ → S
    rest_at x e = cond (eqb (get_or s e 0) 41) (p.closed x (e + 1)) (cond (eqb (get_or s e 0) 59) (p.joined x (all_at false e)) p.no_arguments)

    head_step : (first : Bool) (at : ℕ) (h : Option Head) → Within s at h → one_of first at (tree_by s at h) ≡ by_head first at h
    unfolding text
    head_step first at None i = refl
    head_step first at (Some (Head.Spelling e)) i = ap (p.one (p.of first at (spelling (part s at e)))) (part_length s at e (omega (arith, i.0)) i.1)
    head_step first at (Some (Head.Call e b)) i =
        rw i.2 (a_call_lem first at e (part s at e) (trees_of (is_bitcast (part s at e)) (drop (e + 1) s)) (part_length s at e (omega (arith, i.0)) (omega (arith, i.1))))

    first_step : (first : Bool) (at : ℕ) (o : Maybe Tree) → all_of first at (arguments_by trees_of (drop at s) o) ≡ p.from rest_at (one_of first at o)
    first_step first at none = sym (p.from_wrong rest_at)
    first_step first at (some t) =
        rw (get_or-drop at s (length (text t)) 0) (by (eqb (get_or s (at + length (text t)) 0) 41) (eqb (get_or s (at + length (text t)) 0) 59))
        ∙ sym (p.from_one rest_at (p.of first at t) (at + length (text t)))
      where
        by : (u v : Bool) → all_of first at (cond u (some (last t)) (cond v (and_next t (trees_of false (drop (length (text t) + 1) (drop at s)))) none))
            ≡ cond u (p.closed (p.of first at t) (at + length (text t) + 1)) (cond v (p.joined (p.of first at t) (all_at false (at + length (text t)))) p.no_arguments)
        by true v = ap (p.all first at (last t)) (last_end at (at + length (text t)) t refl) ∙ sym (p.closed_last first at t (at + length (text t) + 1))
        by false true =
            let e : at + (length (text t) + 1) ≡ at + length (text t) + 1 = omega arith in
            rw (drop-drop (length (text t) + 1) at s, e) (and_next_lem first at (at + length (text t)) t (trees_of false (drop (at + length (text t) + 1) s)) refl)
        by false false = refl

    -- by the head h and the argument r that the program holds
    pub argument_given : (first : Bool) (at : ℕ) (h k : Option Head) → h ≡ head_at first s at → h ≡ k → by_head first at k ≡ one_at first at
    argument_given first at h k u v =
        let e = sym u ∙ v in
        sym (ap (one_of first at) (tree_by_head first s at ∙ ap (tree_by s at) e) ∙ head_step first at k (rw e at (head_within first s at)))

    pub call_given : (first : Bool) (at : ℕ) (r k : R) → r ≡ one_at first (at + 1) → r ≡ k → p.from rest_at k ≡ all_at first at
    call_given first at r k u v =
        sym (ap (all_of first (at + 1)) (trees_unfold first (drop (at + 1) s)) ∙ first_step first (at + 1) (tree_of first (drop (at + 1) s)) ∙ ap (p.from rest_at) (sym u ∙ v))
