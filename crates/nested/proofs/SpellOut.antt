-- A call gives what it gives with each call among its arguments spelled out: what is spelled is read back (spelling's ReadsBack), since what a call gives is well formed (Sounds). Only places differ,
-- and no answer rests on one: with places taken off, arguments are made and judged as before. Assumes nothing.
use Prim.Native.Nat.{ℕ, ◌+◌, ◌≤◌}
use mathlib.Core.Bool.{Bool, true, false, cond, ◌&&◌, false≢true}
use mathlib.Core.List.{List, [], ◌∷◌}
use mathlib.Core.Path.{◌≡◌, refl, ap, sym, ◌∙◌}
use native.Mathlib.Omega.{arith}
use lib.Dec.{eqb}
use lib.ListN.{length, length-append}
use Rattle.readings.specs.declared.Reading.{Reading}
use Rattle.values.specs.declared.Kind.TheVariants.{Empty}
use Rattle.values.specs.Value.{empty_value}
use Rattle.builtins.specs.Fold.{fold_in}
use Rattle.spelling.specs.Read.{found}
use Rattle.spelling.specs.Write.{text_of}
use Rattle.spelling.proofs.ReadsBack.{read_back}
use Rattle.misspellings.specs.declared.Misspelling.{Misspelling}
use Rattle.misspellings.specs.Misspellings.{misspelled, rightly}
use Rattle.nesting.specs.Grammar.{Tree, Trees, spelling, call, last, next, text, texts, is_bitcast, Formed, Formeds}
use Rattle.nested.specs.declared.Argument.{Argument}
use Rattle.nested.specs.declared.Arguments.{Arguments}
use Rattle.nested.specs.declared.Folded.{Folded}
use Rattle.nested.specs.Nested.{refused_at, unplaced, told, spelled_type, spelled_value, spelled, of_call, is_frexp, handed, first_of, alone, joined, call_by, judged, argument_of, arguments_of}
use Rattle.nested.specs.Laws.{spelled_one, spelled_out, SpelledOut}
use Rattle.nested.proofs.Sounds.{Given, first_zero, argument_sound}

-- ---- places taken off

abbrev bare : Misspelling → Misspelling
bare m = misspelled m.refusal 0

abbrev bare_one : Argument → Argument
bare_one x = record { typed = x.typed; refused = bare x.refused; fault = bare x.fault; kind = x.kind; value = x.value }

abbrev bare_all : Arguments → Arguments
bare_all g = record { refused = bare g.refused; fault = bare g.fault; count = g.count; target = g.target; a = g.a; b = g.b; c = g.c }

bare_first : (m n : Misspelling) → bare (first_of m n) ≡ first_of (bare m) (bare n)
unfolding first_of
bare_first m n = by (eqb m.refusal 0)
  where
    by : (t : Bool) → bare (cond t n m) ≡ cond t (bare n) (bare m)
    by true = refl
    by false = refl

bare_alone : (x : Argument) → bare_all (alone x) ≡ alone (bare_one x)
unfolding alone
bare_alone x = rw (bare_first x.fault rightly)

bare_joined : (x : Argument) (g : Arguments) → bare_all (joined x g) ≡ joined (bare_one x) (bare_all g)
unfolding joined
bare_joined x g = rw (bare_first x.refused g.refused, bare_first x.fault g.fault)

bare_judged : (R : Reading) (w : List ℕ) (g : Arguments) → (judged R w (bare_all g)).answer ≡ (judged R w g).answer
unfolding judged told refused_at unplaced call_by
bare_judged R w g = by (eqb g.refused.refusal 0) (eqb (fold_in R (call_by w g)).refusal 3)
  where
    by : (s t : Bool) → (cond s (cond t (refused_at g.fault.refusal 0) (unplaced (fold_in R (call_by w g)))) (refused_at g.refused.refusal 0)).answer
        ≡ (cond s (cond t (refused_at g.fault.refusal g.fault.place) (unplaced (fold_in R (call_by w g)))) (refused_at g.refused.refusal g.refused.place)).answer
    by true true = refl
    by true false = refl
    by false t = refl

-- ---- what a call gives, as an argument and spelled

handed_plain : (w : List ℕ) (y : Folded) → ((handed w y).fault ≡ rightly) × ((handed w y).kind ≡ Empty)
unfolding handed of_call
handed_plain w y = by (is_frexp w && eqb y.answer.refusal 0)
  where
    by : (t : Bool) → let x = cond t (of_call (misspelled 4 0) empty_value) (of_call (misspelled y.answer.refusal y.place) y.answer.first) in (x.fault ≡ rightly) × (x.kind ≡ Empty)
    by true = (refl, refl)
    by false = (refl, refl)

module _ (k : ℕ) where
  spelled_back : (i : ℕ) (x : Argument) → Given k false x → x.fault ≡ rightly → x.kind ≡ Empty → x.refused.refusal ≡ 0
      → bare_one (spelled false i (text_of x.value)) ≡ bare_one x
  unfolding spelled spelled_value found
  spelled_back i x g f e z =
      let b = read_back x.value (g.lanes z) (g.value refl z (ap (λ (m : Misspelling). m.refusal) f)) in
      rw (b, g.typed, z, f, e)

  module _ (R : Reading) where
    spell_one : (t : Tree) (cast : Bool) (at i : ℕ) → Formed t cast → 1 ≤ at → at + length (text t) + 156 ≤ k → (argument_of R cast at t).refused.refusal ≡ 0
        → bare_one (argument_of R cast i (spelled_one R cast at t)) ≡ bare_one (argument_of R cast at t)
    unfolding argument_of Formed spelled spelled_type spelled_value
    spell_one (spelling w) true at i f h b z = refl
    spell_one (spelling w) false at i f h b z = refl
    spell_one (call w a) true at i f h b z = absurd (false≢true (sym f.0))
    spell_one (call w a) false at i f h b z =
        let x = argument_of R false at (call w a) in
        let q = handed_plain w (judged R w (arguments_of R (is_bitcast w) (at + length w + 1) a)) in
        spelled_back i x (argument_sound k R (call w a) false at f h b) q.0 q.1 z

    spell_all : (a : Trees) (cast : Bool) (at i : ℕ) → Formeds a cast → 1 ≤ at → at + length (texts a) + 156 ≤ k → (arguments_of R cast at a).refused.refusal ≡ 0
        → bare_all (arguments_of R cast i (spelled_out R cast at a)) ≡ bare_all (arguments_of R cast at a)
    unfolding argument_of Formed text spelled_out alone joined
    spell_all (last t) cast at i f h b z =
        let x = argument_of R cast at t in
        let y = argument_of R cast i (spelled_one R cast at t) in
        bare_alone y ∙ ap alone (spell_one t cast at i f h (omega (arith, length-append (text t) (41 ∷ []))) z) ∙ sym (bare_alone x)
    spell_all (next t a) cast at i f h b z =
        let x = argument_of R cast at t in
        let y = argument_of R cast i (spelled_one R cast at t) in
        let j = i + length (text (spelled_one R cast at t)) + 1 in
        let g = arguments_of R false (at + length (text t) + 1) a in
        let l = length-append (text t) (59 ∷ texts a) in
        let q = first_zero x.refused g.refused z in
        bare_joined y (arguments_of R false j (spelled_out R false (at + length (text t) + 1) a))
        ∙ ap (λ u. joined u (bare_all (arguments_of R false j (spelled_out R false (at + length (text t) + 1) a)))) (spell_one t cast at i f.0 h (omega (arith, l)) q.0)
        ∙ ap (joined (bare_one x)) (spell_all a false (at + length (text t) + 1) j f.1 (omega arith) (omega (arith, l)) q.1)
        ∙ sym (bare_joined x g)

pub spelled_out_lem : (R : Reading) (w : List ℕ) (a : Trees) → SpelledOut R w a
spelled_out_lem R w a f z =
    let at = length w + 1 in
    let g = arguments_of R (is_bitcast w) at a in
    let h = arguments_of R (is_bitcast w) at (spelled_out R (is_bitcast w) at a) in
    sym (bare_judged R w h) ∙ ap (λ (u : Arguments). (judged R w u).answer) (spell_all (at + length (texts a) + 156) R a (is_bitcast w) at at f (omega arith) (omega arith) z) ∙ bare_judged R w g
