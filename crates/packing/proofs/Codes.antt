-- In either reading a norm code has w bits and is its own normal code, so that a cut to w bits does not change it. Assumes nothing.
use Prim.Native.Nat.{ℕ, ◌^◌, ◌≤◌, ◌<◌}
use mathlib.Core.Bool.{Bool}
use mathlib.Core.Path.{◌≡◌, sym, subst}
use Rattle.readings.specs.declared.Reading.{Reading}
use Rattle.readings.specs.declared.Reading.TheVariants as In
use Rattle.norm.proofs.Normal.{Normal, packed}
use Rattle.exact.specs.Exact.{norm_code}
use Rattle.exact.proofs.Codes.{exact_normal}

pub code_normal : (r : Reading) (g : Bool) (w x : ℕ) → 1 ≤ w → w ≤ 16 → Normal g w (norm_code r g w x)
code_normal In.Crate g w x lo hi = packed g w x lo hi
code_normal In.Text g w x lo hi = exact_normal g w x lo

pub within : (r : Reading) (g : Bool) (w x y : ℕ) → 1 ≤ w → w ≤ 16 → y ≡ norm_code r g w x → (y ≡ norm_code r g w x) × (y < 2 ^ w)
within r g w x y lo hi e = (e, subst (λ z. z < 2 ^ w) (sym e) (code_normal r g w x lo hi).below)
