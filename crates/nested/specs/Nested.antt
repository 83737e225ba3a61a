-- Calls nested on one line, folded: 02, Q-8, "Calls among the arguments are folded left to right, then the call itself is judged in 01's order, and the first refusal met is the line's." Definitions only.
use Rattle.std.specs.Prelude.{ℕ, ◌+◌, Bool, true, false, cond, ◌&&◌, List, eqb, leb, length}
use Rattle.std.proofs.Math.Option.{Option, none, some}
use Rattle.readings.specs.declared.Reading.{Reading}
use Rattle.values.specs.declared.Kind.TheVariants.{Empty}
use Rattle.values.specs.declared.Value.{Value}
use Rattle.values.specs.Value.{empty_value}
use Rattle.calls.specs.declared.Builtin.TheVariants.{Frexp}
use Rattle.calls.specs.declared.Call.{Call}
use Rattle.builtins.specs.declared.Answer.{Answer}
use Rattle.builtins.specs.Fold.{refused, fold_in}
use Rattle.buffers.specs.Text.{same_bytes}
use Rattle.spelling.specs.Types.{kind_of}
use Rattle.spelling.specs.Read.{read_value}
use Rattle.names.specs.Names.{name_of, builtin_of}
use Rattle.misspellings.specs.declared.Misspelling.{Misspelling}
use Rattle.misspellings.specs.Misspellings.{misspelled, rightly, type_fault, value_fault, in_line}
use Rattle.nesting.specs.Grammar.{Tree, Trees, spelling, call, last, next, text, depth, is_bitcast}
use Rattle.nesting.specs.Read.{line_tree}
use Rattle.nested.specs.declared.Argument.{Argument}
use Rattle.nested.specs.declared.Arguments.{Arguments}
use Rattle.nested.specs.declared.Folded.{Folded}

-- ---- what a call gives, with the place of what is misspelled, 0 where nothing is

unfoldable pub refused_at : ℕ → ℕ → Folded
refused_at n p = record { answer = refused n; place = p }

unfoldable pub unplaced : Answer → Folded
unplaced x = record { answer = x; place = 0 }

-- Q-2: "9 type spelling or colon, 10 lane count, 11 digit; in lines they replace 3"
unfoldable pub told : Answer → Misspelling → Folded
told x fault = cond (eqb x.refusal 3) (refused_at fault.refusal fault.place) (unplaced x)

-- ---- an argument: "each a value spelling, a call, or for bitcast's first a type"

-- a spelling that starts after `at` bytes: "a place from Q-2 counts in the whole line"
unfoldable pub spelled_type : ℕ → List ℕ → Argument
spelled_type at w = record { typed = true; refused = rightly; fault = in_line (at + 1) (type_fault w); kind = kind_of w; value = empty_value }

unfoldable pub spelled_value : ℕ → List ℕ → Argument
spelled_value at w = record { typed = false; refused = rightly; fault = in_line (at + 1) (value_fault w); kind = Empty; value = (read_value w).value }

unfoldable pub spelled : Bool → ℕ → List ℕ → Argument
spelled cast at w = cond cast (spelled_type at w) (spelled_value at w)

-- a call that is refused by m, or that gives v
unfoldable pub of_call : Misspelling → Value → Argument
of_call m v = record { typed = false; refused = m; fault = rightly; kind = Empty; value = v }

abbrev pub is_frexp : List ℕ → Bool
is_frexp w = same_bytes (name_of Frexp) w

-- "an inner frexp gives 4 as its own refusal, after 1 to 3"
unfoldable pub handed : List ℕ → Folded → Argument
handed w x =
    cond (is_frexp w && eqb x.answer.refusal 0) (of_call (misspelled 4 0) empty_value)
    (of_call (misspelled x.answer.refusal x.place) x.answer.first)

-- ---- arguments: "the first refusal met", "the leftmost fault first"

unfoldable pub first_of : Misspelling → Misspelling → Misspelling
first_of m n = cond (eqb m.refusal 0) n m

unfoldable pub alone : Argument → Arguments
alone x = record { refused = x.refused; fault = first_of x.fault rightly; count = 1; target = x.kind; a = x.value; b = empty_value; c = empty_value }

-- an argument before others; a type takes no value's slot
unfoldable pub joined : Argument → Arguments → Arguments
joined x g = record {
  refused = first_of x.refused g.refused;
  fault = first_of x.fault g.fault;
  count = g.count + 1;
  target = cond x.typed x.kind g.target;
  a = cond x.typed g.a x.value;
  b = cond x.typed g.b g.a;
  c = cond x.typed g.c g.b;
}

-- ---- "then the call itself is judged in 01's order"

unfoldable pub call_by : List ℕ → Arguments → Call
call_by w g = record {
  builtin = builtin_of w;
  count = g.count;
  target = g.target;
  a = g.a;
  b = cond (is_bitcast w) empty_value g.b;
  c = cond (is_bitcast w) empty_value g.c;
}

unfoldable pub judged : Reading → List ℕ → Arguments → Folded
judged r w g =
    cond (eqb g.refused.refusal 0) (told (fold_in r (call_by w g)) g.fault)
    (refused_at g.refused.refusal g.refused.place)

-- ---- a tree that starts after `at` bytes of its line, a bitcast's first where `cast`

unfoldable mutual
  pub argument_of : Reading → Bool → ℕ → Tree → Argument
  argument_of r cast at (spelling w) = spelled cast at w
  argument_of r cast at (call w a) = handed w (judged r w (arguments_of r (is_bitcast w) (at + length w + 1) a))

  pub arguments_of : Reading → Bool → ℕ → Trees → Arguments
  arguments_of r cast at (last t) = alone (argument_of r cast at t)
  arguments_of r cast at (next t a) = joined (argument_of r cast at t) (arguments_of r false (at + length (text t) + 1) a)

-- the outermost call
abbrev pub folded_call : Reading → Tree → Folded
folded_call r (spelling w) = refused_at 12 0
folded_call r (call w a) = judged r w (arguments_of r (is_bitcast w) (length w + 1) a)

-- ---- a line: "12 grammar, 13 depth, in that order"

abbrev pub nested_by : Reading → Option Tree → Folded
nested_by r none = refused_at 12 0
nested_by r (some t) = cond (leb (depth t) 8) (folded_call r t) (refused_at 13 0)

unfoldable pub nested_of : Reading → List ℕ → Folded
nested_of r l = nested_by r (line_tree l)
