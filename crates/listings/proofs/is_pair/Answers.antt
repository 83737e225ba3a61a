-- A float type, no matrix, is one that keeps its type as f32 or as f16 in its shape, which is tested of each type. Assumes nothing.
use mathlib.Core.Bool.{Bool, not, cond, ◌&&◌, ◌||◌}
use mathlib.Core.Path.{◌≡◌, refl, ◌∙◌}
use Rattle.values.specs.declared.Scalar.TheVariants.{I32, F32, F16}
use Rattle.values.specs.declared.Kind.{Kind}
use Rattle.values.specs.Value.{is_type, shaped, same_kind}
use Rattle.values.proofs.Bools.{agree}
use Rattle.values.proofs.Places.{each, equals}
use Rattle.calls.specs.Table.{Floats}
use Rattle.calls.specs.Table.{taken}
use Rattle.listings.specs.Answers.{is_pair}
use Rattle.listings.proofs.is_pair.Goals as goal

abbrev keeps : Kind → Bool
keeps k = (same_kind k (shaped F32 k) || same_kind k (shaped F16 k)) && is_type k

floats : (k : Kind) → keeps k ≡ taken Floats k
floats k = agree (keeps k) (taken Floats k) (each (λ j. cond (keeps j) (taken Floats j) (not (taken Floats j))) refl k)

tested : (k l : Kind) {f h i : Kind} {single half type same : Bool} → f ≡ shaped F32 k → single ≡ same_kind k f → h ≡ shaped F16 k → half ≡ same_kind k h → type ≡ is_type k
    → i ≡ shaped I32 k → same ≡ same_kind l i → (single || half) && type && same ≡ is_pair k l
unfolding is_pair
tested k l ef es eh ea et ei em = rw (es, ef, ea, eh, et, em, ei, floats k)

pub returns : goal.returns
returns c =
    let a = c.args in
    tested a.k a.l c.shaped_as.ensures (c.eq-single.ensures ∙ equals _ _) c.shaped_as-2.ensures (c.eq-half.ensures ∙ equals _ _) c.is_type.ensures c.shaped_as-3.ensures (c.eq.ensures ∙ equals _ _)
