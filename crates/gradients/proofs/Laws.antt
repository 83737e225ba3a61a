-- 02, Q-10, of calls: for the four norm formats and pack2x16float, in both readings, what brighter has of lanes, lane by lane. Assumes nothing.
use Prim.Native.Nat.{ℕ, ◌≤◌}
use mathlib.Core.Bool.{Bool, true, false}
use native.Mathlib.Omega.{arith}
use Rattle.readings.specs.declared.Reading.{Reading}
use Rattle.values.specs.Value.{lane}
use Rattle.brighter.specs.Brighter.{Coding, norm, half, NeverDarker}
use Rattle.brighter.proofs.Laws.{norm_never_darker, half_never_darker, close}
use Rattle.formats.specs.Formats.{Format, x8snorm, x8unorm, x16snorm, x16unorm, x16float}
use Rattle.gradients.specs.Gradients.{CallsNeverDarker, CallsClose, EachNorm, EachPacker}
use Rattle.gradients.proofs.Calls.{CodesOf, packer_codes}

each : (P Q : Format → Bool → ℕ → Type 0) → ((f : Format) (g : Bool) (w : ℕ) → 1 ≤ w → w ≤ 16 → P f g w → Q f g w) → EachNorm P → EachNorm Q
each P Q n p = (
  (n x8snorm true 8 (omega arith) (omega arith) p.0.0, n x8unorm false 8 (omega arith) (omega arith) p.0.1),
  (n x16snorm true 16 (omega arith) (omega arith) p.1.0, n x16unorm false 16 (omega arith) (omega arith) p.1.1),
)

pub calls_never_darker : (r : Reading) → EachPacker (CallsNeverDarker r)
calls_never_darker r =
    let c = packer_codes r in
    (each (λ f g w. CodesOf r f (norm g w)) (λ f g w. CallsNeverDarker r f (norm g w)) (λ f g w lo hi. go f (norm g w) (norm_never_darker r g w lo hi)) c.0, go x16float half (half_never_darker r) c.1)
  where
    go : (f : Format) (k : Coding) → NeverDarker r k → CodesOf r f k → CallsNeverDarker r f k
    go f k law is u v t s i l o = rw (is u t i l, is v s i l) (law (lane u i) (lane v i) o)

pub calls_close : (r : Reading) → EachNorm (CallsClose r)
calls_close r = each (λ f g w. CodesOf r f (norm g w)) (CallsClose r) (λ f g w lo hi is v t i l inside. rw (is v t i l) (close r g w lo hi (lane v i) inside)) (packer_codes r).0
