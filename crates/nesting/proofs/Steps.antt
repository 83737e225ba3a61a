-- The program's own steps: a pass that gives ends and depths, and the number of a line by its head. Assumes nothing.
use Prim.Native.Nat.{ℕ, ◌+◌, ◌≤◌, max}
use mathlib.Core.Bool.{Bool, true, false, cond}
use mathlib.Core.List.{List, [], ◌∷◌}
use mathlib.Core.Option.{Option as Maybe, none, some}
use Rattle.std.specs.Prelude.{Option, Some, None}
use mathlib.Core.Path.{◌≡◌, refl, ap, sym, ◌∙◌}
use native.Mathlib.Omega.{arith}
use lib.Dec.{leb, eqb}
use lib.ListN.{length, drop, get_or, length-append}
use borrow.Author.Tests.{eq-eqb, ne_eqb}
use Rattle.nesting.specs.declared.Head.{Head}
use Rattle.nesting.specs.declared.Reached.{Reached}
use Rattle.nesting.specs.Grammar.{Tree, Trees, spelling, call, last, next, text, texts, depth, depths}
use Rattle.nesting.specs.Read.{a_call, tree_of, trees_of, whole_call, line_tree, refusal_by, refusal_of}
use Rattle.nesting.specs.Program.{head_at, read_as, reached, argument_at, call_at, rest_at, deepened, judged_of}
use Rattle.nesting.proofs.Heads.{part, part_length, Within, head_within, tree_by, tree_by_head}
use Rattle.nesting.proofs.Pass.{Pass, call_end}
use Rattle.nesting.proofs.Pass as pass

-- ---- ends and depths

abbrev from_first : (ℕ → ℕ → Option Reached) → Option Reached → Option Reached
from_first k None = None
from_first k (Some x) = k x.depth x.end

call_deeper : (w : List ℕ) (a : Trees) (e : ℕ) → reached e (depths a + 1) ≡ reached e (depth (call w a))
unfolding depth
call_deeper w a e = refl

as_deep : (t : Tree) (e : ℕ) → reached e (depth t + 1) ≡ reached e (depths (last t) + 1)
unfolding depth
as_deep t e = refl

deeper : (t : Tree) (a : Trees) (e : ℕ) → reached e (max (depth t + 1) (depths a + 1)) ≡ reached e (depths (next t a) + 1)
unfolding depth
deeper t a e = let d : max (depth t + 1) (depths a + 1) ≡ max (depth t) (depths a) + 1 = omega arith in ap (reached e) d

abbrev depth_pass : Pass ℕ (Option Reached) (Option Reached)
depth_pass = record {
  of = λ first at. depth;
  one = λ d e. reached e d;
  wrong = None;
  all = λ first at a e. reached e (depths a + 1);
  no_arguments = None;
  called = λ w r. r;
  called_none = λ w. refl;
  called_all = λ first at. call_deeper;
  closed = λ d e. reached e (d + 1);
  closed_last = λ first at. as_deep;
  joined = λ d r. deepened r (d + 1);
  joined_none = λ d. refl;
  joined_all = λ first at. deeper;
  from = from_first;
  from_wrong = λ k. refl;
  from_one = λ k d e. refl;
}

-- ---- an argument by its head, and a call by its first argument, that the program holds

abbrev by_head : List ℕ → Option Head → Option Reached
by_head s None = None
by_head s (Some (Head.Spelling e)) = reached e 0
by_head s (Some (Head.Call e b)) = call_at b s e

abbrev by_first : List ℕ → Option Reached → Option Reached
by_first s None = None
by_first s (Some x) = rest_at s x.end x.depth

module _ (first : Bool) (s : List ℕ) (at : ℕ) where
  pub head_room : (h k : Option Head) → h ≡ head_at first s at → h ≡ k → Within s at k
  head_room h k p q = rw (sym p ∙ q) at (head_within first s at)

  pub argument_given : (h k : Option Head) → h ≡ head_at first s at → h ≡ k → by_head s k ≡ argument_at first s at
  unfolding argument_at call_at depth
  argument_given h None p q = pass.argument_given depth_pass s first at h None p q
  argument_given h (Some (Head.Spelling e)) p q = pass.argument_given depth_pass s first at h (Some (Head.Spelling e)) p q
  argument_given h (Some (Head.Call e b)) p q = pass.argument_given depth_pass s first at h (Some (Head.Call e b)) p q

  pub call_given : (r k : Option Reached) → r ≡ argument_at first s (at + 1) → r ≡ k → by_first s k ≡ call_at first s at
  unfolding argument_at call_at rest_at
  call_given r None p q = pass.call_given depth_pass s first at r None p q
  call_given r (Some x) p q = pass.call_given depth_pass s first at r (Some x) p q

module _ (s : List ℕ) (e d c : ℕ) (h : c ≡ get_or s e 0) where
  pub rest_closed : c ≡ 41 → reached (e + 1) (d + 1) ≡ rest_at s e d
  unfolding rest_at
  rest_closed z = rw (← h, eq-eqb c 41 z)

  pub rest_more : (c ≡ 41 → ⊥) → c ≡ 59 → (r k : Option Reached) → r ≡ call_at false s e → r ≡ k → deepened k (d + 1) ≡ rest_at s e d
  unfolding rest_at
  rest_more n z r k q i = rw (← i, q, ← h, ne_eqb c 41 n, eq-eqb c 59 z)

  pub rest_wrong : (c ≡ 41 → ⊥) → (c ≡ 59 → ⊥) → None ≡ rest_at s e d
  unfolding rest_at
  rest_wrong n m = rw (← h, ne_eqb c 41 n, ne_eqb c 59 m)

-- ---- an argument ends where it began or later, and is no deeper than it is long

mutual
  unfolding depth text

  depth_length : (t : Tree) → depth t ≤ length (text t)
  depth_length (spelling w) = omega arith
  depth_length (call w a) = omega (arith, length-append w (40 ∷ texts a), depths_length a)

  depths_length : (a : Trees) → depths a + 1 ≤ length (texts a)
  depths_length (last t) = omega (arith, length-append (text t) (41 ∷ []), depth_length t)
  depths_length (next t a) = omega (arith, length-append (text t) (59 ∷ texts a), depth_length t, depths_length a)

abbrev Ends : ℕ → Option Reached → Type 0
Ends at None = Unit {0}
Ends at (Some x) = (at ≤ x.end) × (x.depth ≤ x.end)

pub argument_ends : (first : Bool) (s : List ℕ) (at e d : ℕ) → argument_at first s at ≡ reached e d → (at ≤ e) × (d ≤ e)
unfolding argument_at
argument_ends first s at e d q = rw q at (by (tree_of first (drop at s)))
  where
    by : (o : Maybe Tree) → Ends at (read_as text None (λ b t e. reached e (depth t)) at o)
    by none = tt
    by (some t) = (omega arith, omega (arith, depth_length t))

-- ---- a line by its head

abbrev by_line : List ℕ → Option Head → ℕ
by_line l None = 12
by_line l (Some (Head.Spelling e)) = 12
by_line l (Some (Head.Call e b)) = judged_of (call_at b l e) (length l)

line_call : (l : List ℕ) (e : ℕ) (w : List ℕ) (o : Maybe Trees) → length w ≡ e
    → refusal_by (whole_call l (a_call w o)) ≡ judged_of (read_as texts None (λ b a e. reached e (depths a + 1)) (e + 1) o) (length l)
unfolding depth
line_call l e w none q = refl
line_call l e w (some a) q =
    let n : length (text (call w a)) ≡ e + 1 + length (texts a) = omega (arith, call_end 0 e w a (omega arith)) in
    rw n (by (eqb (e + 1 + length (texts a)) (length l)))
  where
    by : (t : Bool) → refusal_by (cond t (some (call w a)) none) ≡ cond t (cond (leb (depths a + 1) 8) 0 13) 12
    by true = refl
    by false = refl

line_step : (l : List ℕ) (h : Option Head) → Within l 0 h → refusal_by (whole_call l (tree_by l 0 h)) ≡ by_line l h
unfolding call_at
line_step l None i = refl
line_step l (Some (Head.Spelling e)) i = refl
line_step l (Some (Head.Call e b)) i =
    line_call l e (part l 0 e) (trees_of b (drop (e + 1) l)) (omega (arith, part_length l 0 e (omega arith) (omega (arith, i.1))))

pub line_given : (l : List ℕ) (h k : Option Head) → h ≡ head_at false l 0 → h ≡ k → by_line l k ≡ refusal_of l
unfolding refusal_of line_tree
line_given l h k p q =
    sym (ap (λ (o : Maybe Tree). refusal_by (whole_call l o)) (tree_by_head false l 0 ∙ ap (tree_by l 0) (sym p ∙ q)) ∙ line_step l k (head_room false l 0 h k p q))
