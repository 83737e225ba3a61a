-- A place lies within a listing of at most 32,768 bytes. Assumes nothing.
use Prim.Native.Nat.{ℕ, ◌<◌}
use mathlib.Core.Path.{◌≡◌, refl}
use mathlib.Core.List.{List}
use native.Mathlib.Omega.{arith}
use Rattle.std.specs.Prelude.{Option, Some, None, IfSome}
use Rattle.diffs.specs.declared.Place.{Place}
use Rattle.diffs.specs.Places.{first_place}
use Rattle.diffs.proofs.FirstLine.{place_few}
use Rattle.chanrelout.proofs.chanrelout_first_difference.Goals as goal

few : (s t : List ℕ) (p : Option Place) → p ≡ first_place s t → IfSome p (λ (q : Place). (q.at < 65536) × (q.len < 65536))
few s t None e = tt
few s t (Some q) e =
    let h = place_few s t e refl in
    (omega (arith, h), omega (arith, h))

pub place_number-requires : goal.place_number-requires
place_number-requires c = few _ _ _ c.first_place-p.ensures
