-- A call of two values that must be of one type is refused alike with its operands swapped: each test of its row is. Assumes nothing.
use mathlib.Core.Path.{◌≡◌, refl, sym, ap, ap₂, ◌∙◌}
use Prim.Native.Nat.{ℕ, zero, suc}
use mathlib.Core.Bool.{Bool, true, false, ◌&&◌, and_comm}
use borrow.Author.Tests.{eqb-true, eqb-false, eq-eqb, ne_eqb}
use lib.Dec.{eqb}
use Rattle.readings.specs.declared.Reading.{Reading}
use Rattle.values.specs.declared.Kind.{Kind}
use Rattle.values.specs.declared.Kind.TheVariants.{Empty}
use Rattle.values.specs.declared.Value.{Value}
use Rattle.values.specs.Value.{place, same_kind, empty_value, well_formed}
use Rattle.values.proofs.Places.{itself}
use Rattle.calls.specs.declared.Builtin.{Builtin}
use Rattle.calls.specs.declared.Builtin.TheVariants.{Min, Max, Cross, Dot}
use Rattle.calls.specs.Table.{Taken, OneType, Row, Binary, taken, takes}
use Rattle.calls.specs.Refuse.{first_of, judged}
use Rattle.builtins.specs.Fold.{refused, answered, answer_by, fold_by, fold_in}
use Rattle.builtins.specs.Calls.{call_two}
use Rattle.rewrites.specs.Rewrites.{two, RefusedAlike}

kinds_turned : (k l : Kind) → same_kind k l && same_kind k k ≡ same_kind l k && same_kind l l
kinds_turned k l = ap₂ ◌&&◌ (go (eqb (place k) (place l)) refl) (itself k ∙ sym (itself l))
  where
    go : (b : Bool) → eqb (place k) (place l) ≡ b → b ≡ eqb (place l) (place k)
    go true e = sym (eq-eqb (place l) (place k) (sym (eqb-true (place k) (place l) e)))
    go false e = sym (ne_eqb (place l) (place k) (λ (i : place l ≡ place k). eqb-false (place k) (place l) e (sym i)))

judged_turned : (row : Row) (p : Taken) (a b c : Value) → row ≡ Binary p p OneType → judged row 2 Empty a b c ≡ judged row 2 Empty b a c
unfolding judged
judged_turned row p a b c e =
    rw e
    (ap (λ (f : Bool). first_of true true f (taken p a.kind && taken p b.kind) (same_kind a.kind b.kind && same_kind a.kind a.kind) true) (and_comm (well_formed a) (well_formed b))
    ∙ ap₂ (λ (t s : Bool). first_of true true (well_formed b && well_formed a) t s true) (and_comm (taken p a.kind) (taken p b.kind)) (kinds_turned a.kind b.kind))

module _ (r : Reading) where
  -- what refuses a call is its row
  module _ (f : Builtin) (p : Taken) (row : takes f ≡ Binary p p OneType) (passes : (a b : Value) → (answer_by r f Empty a b empty_value).refusal ≡ 0) where
    refusal_is : (a b : Value) → (two r f a b).refusal ≡ judged (takes f) 2 Empty a b empty_value
    unfolding fold_in refused
    refusal_is a b = go (judged (takes f) 2 Empty a b empty_value)
      where
        go : (n : ℕ) → (fold_by r n (call_two f a b)).refusal ≡ n
        go zero = passes a b
        go (suc n) = refl

    refused_alike : RefusedAlike r f
    refused_alike a b = refusal_is a b ∙ judged_turned (takes f) p a b empty_value row ∙ sym (refusal_is b a)

  pub min_refused : RefusedAlike r Min
  unfolding answered
  min_refused = refused_alike Min _ refl (λ a b. refl)

  pub max_refused : RefusedAlike r Max
  unfolding answered
  max_refused = refused_alike Max _ refl (λ a b. refl)

  pub cross_refused : RefusedAlike r Cross
  unfolding answered
  cross_refused = refused_alike Cross _ refl (λ a b. refl)

  pub dot_refused : RefusedAlike r Dot
  unfolding answered
  dot_refused = refused_alike Dot _ refl (λ a b. refl)
