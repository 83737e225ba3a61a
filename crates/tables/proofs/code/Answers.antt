-- A NaN is sent off; any other lane has the code at the height that its place reaches. Assumes nothing.
use mathlib.Core.Path.{◌≡◌, sym, ◌∙◌}
use Prim.Native.Nat.{◌+◌}
use native.Mathlib.Omega.{arith}
use Rattle.norm.specs.Norm.{packed_norm}
use Rattle.tables.specs.Tables.{height, bottom}
use Rattle.tables.proofs.Reached.{code_normal, found_height, found_snorm, found_unorm, nan_packs}
use Rattle.tables.proofs.code.Goals as goal
use Rattle.tables.proofs.code.Goals.{After-search-reached}

pub returns-then-is_nan : goal.returns-then-is_nan
returns-then-is_nan c = let k = c.args in omega (arith, nan_packs k.signed k.x (sym c.is_nan.ensures ∙ c.if-is_nan.true))

-- once the starts are searched
found : (c : After-search-reached) → height c.args.signed (packed_norm c.args.signed 8 c.args.x) ≡ c.search-reached.result + bottom c.args.signed
found c =
    let number = sym c.is_nan.ensures ∙ c.if-is_nan.false in
    found_height c.args.signed _ c.args.x c.search-reached.result number c.starts_of.ensures (rw c.place.ensures at c.search-reached.ensures)

pub returns-then-signed : goal.returns-then-signed
returns-then-signed c =
    let k = c.args in
    omega (arith, found_snorm k.signed _ c.search-reached.result c.if-signed.true (found (goal.at.returns-then-signed c).After-search-reached), (code_normal k.signed k.x).below)

pub returns-else-signed : goal.returns-else-signed
returns-else-signed c = sym (found_unorm c.args.signed _ c.search-reached.result c.if-signed.false (found (goal.at.returns-else-signed c).After-search-reached))
