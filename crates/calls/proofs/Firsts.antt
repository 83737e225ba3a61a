-- The first value of a call of words, by the place of its type: a scalar or a vector, or a matrix. Assumes nothing.
use Prim.Native.Nat.{ℕ}
use mathlib.Core.Bool.{true, ◌&&◌}
use mathlib.Core.List.{List}
use mathlib.Core.Path.{◌≡◌, refl, ap, ◌∙◌}
use borrow.Author.Tests.{le-leb, lt-ltb}
use lib.Dec.{leb, ltb}
use Rattle.values.specs.Value.{is_type, place, kind_at}
use Rattle.values.specs.Program.{is_lanes}
use Rattle.values.proofs.Bools.{and}
use Rattle.values.proofs.Formed.{is_type_lem}
use Rattle.values.proofs.Places as Places
use Rattle.words.specs.Words.{value_at}
use Rattle.calls.specs.Table.{matrix}
use Rattle.calls.specs.Program.{First, FirstMatrix}
use Rattle.calls.proofs.Converse.{from_implied}

pub first_kind : {w : List ℕ} {p : ℕ} → FirstMatrix w p → kind_at p ≡ (value_at w 3).kind
first_kind {w} f = ap kind_at f.type ∙ Places.there (value_at w 3).kind

pub first_lanes : {w : List ℕ} {p : ℕ} → First w p → is_lanes (value_at w 3).kind ≡ true
first_lanes {w} f =
    let k = (value_at w 3).kind in
    from_implied (λ l. is_type l && leb (place l) 20) is_lanes refl k (and (is_type_lem (value_at w 3) f.formed) (le-leb (place k) 20 (rw (← f.type) f.within)))

pub first_matrix : {w : List ℕ} {p : ℕ} → FirstMatrix w p → matrix (value_at w 3).kind ≡ true
first_matrix {w} f = let k = (value_at w 3).kind in from_implied (λ l. ltb 20 (place l)) matrix refl k (lt-ltb 20 (place k) (rw (← f.type) f.over))
