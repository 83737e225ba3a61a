-- A type and its spelling determine each other. That each type is read from its spelling is one computed test over the types. Assumes nothing.
use Prim.Native.Nat.{ℕ, ◌≤◌}
use mathlib.Core.Bool.{true, false≢true}
use mathlib.Core.List.{List}
use mathlib.Core.Logic.{◌⊎◌, ⊎_elim}
use mathlib.Core.Path.{◌≡◌, refl, ap, sym, ◌∙◌}
use borrow.Author.Tests.{leb-true}
use lib.Dec.{leb}
use lib.ListN.{length}
use Rattle.values.specs.Value.{is_type, kinds, same_kind}
use Rattle.values.specs.declared.Kind.{Kind}
use Rattle.values.specs.declared.Kind.TheVariants.{Empty}
use Rattle.values.proofs.Places as places
use Rattle.buffers.proofs.Lookup.{found}
use Rattle.buffers.specs.Text.{same_bytes, first_spelled}
use Rattle.spelling.specs.Types.{spelled, kind_of}

pub none_or_spelled : (s : List ℕ) → (kind_of s ≡ Empty) ⊎ (s ≡ spelled (kind_of s))
unfolding kind_of
none_or_spelled s = found spelled Empty kinds s

-- each type is read from its spelling
pub kind_spelled : (k : Kind) → kind_of (spelled k) ≡ k
unfolding kind_of first_spelled same_bytes
kind_spelled k = places.same (places.each (λ l. same_kind (kind_of (spelled l)) l) refl k)

-- and from no other
pub spelled_kind : (s : List ℕ) (k : Kind) → kind_of s ≡ k → is_type k ≡ true → s ≡ spelled k
spelled_kind s k e t = ⊎_elim (λ z. absurd (false≢true (ap is_type (sym z ∙ e) ∙ t))) (λ z. z ∙ ap spelled e) (none_or_spelled s)

pub at_most_11 : (k : Kind) → length (spelled k) ≤ 11
at_most_11 k = leb-true (length (spelled k)) 11 (places.each (λ l. leb (length (spelled l)) 11) refl k)
