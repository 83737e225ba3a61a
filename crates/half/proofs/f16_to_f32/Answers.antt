-- `half::f16_to_f32` meets its contract: its tests are those of the definition, and an f32's magnitude leaves room for the sign. Assumes nothing.
use borrow.Author.Rules.{rules}
use mathlib.Core.Path.{◌≡◌, refl, ap, ◌∙◌}
use Prim.Native.Nat.{ℕ, ◌+◌, ◌*◌, ◌/◌, ◌%◌, ◌^◌, ◌≤◌, ◌<◌}
use native.Mathlib.Omega.{arith}
use borrow.Author.Tests.{le-ltb, leb-true, leb-false, ltb-true, ltb-false}
use lib.Dec.{leb, ltb}
use mathlib.Core.Bool.{Bool, true, false, cond, ◌&&◌, false≢true}
use mathlib.Core.Logic.{◌⊎◌, inl, inr, ⊎_elim}
use Rattle.half.specs.Format.{f16, f32}
use Rattle.half.specs.Convert.{converted, converted_magnitude, single_of}
use Rattle.half.proofs.Signs.{sign_moved}
use Rattle.half.proofs.f16_to_f32.Goals as goal

-- a number's sign stands in front of its magnitude
signed : (h : ℕ) → h < 2 ^ 16 → h % 0x8000 ≤ 0x7c00 → h / 0x8000 * 0x8000_0000 + converted_magnitude f16 f32 (h % 0x8000) ≡ single_of h
unfolding converted
signed h k l = simp (le-ltb _ _ l) (ap (λ (s : ℕ). s + converted_magnitude f16 f32 (h % 0x8000)) (sign_moved f16 f32 h k))

-- a normal half, as the code tests it
normal : (m : ℕ) → leb 1024 m && ltb m 0x7c00 ≡ true → (1024 ≤ m) × (m < 0x7c00)
normal m t = by (leb 1024 m) refl t
  where
    by : (b : Bool) → leb 1024 m ≡ b → b && ltb m 0x7c00 ≡ true → (1024 ≤ m) × (m < 0x7c00)
    by true e t = (leb-true 1024 m e, ltb-true m 0x7c00 t)
    by false e t = absurd (false≢true t)

other : (m : ℕ) → leb 1024 m && ltb m 0x7c00 ≡ false → (m < 1024) ⊎ (0x7c00 ≤ m)
other m t = by (leb 1024 m) refl t
  where
    by : (b : Bool) → leb 1024 m ≡ b → b && ltb m 0x7c00 ≡ false → (m < 1024) ⊎ (0x7c00 ≤ m)
    by true e t = inr (ltb-false m 0x7c00 t)
    by false e t = inl (leb-false 1024 m e)

-- the others are worked out apart, and every NaN is one
told : (h s : ℕ) → h < 2 ^ 16 → leb 1024 (h % 0x8000) && ltb (h % 0x8000) 0x7c00 ≡ false → (h % 0x8000 < 1024 → s ≡ converted_magnitude f16 f32 (h % 0x8000)) → (h % 0x8000 ≡ 0x7c00 → s ≡ converted_magnitude f16 f32 (h % 0x8000))
    → (t : Bool) → ltb 0x7c00 (h % 0x8000) ≡ t → cond t 0x7fc0_0000 (h / 0x8000 * 0x8000_0000 + s) ≡ single_of h
unfolding converted
told h s k n e f true q = simp q
told h s k n e f false q =
    let l = ltb-false 0x7c00 (h % 0x8000) q in
    let r : s ≡ converted_magnitude f16 f32 (h % 0x8000) = ⊎_elim e (λ g. f (omega arith)) (other (h % 0x8000) n) in
    ap (λ (m : ℕ). h / 0x8000 * 0x8000_0000 + m) r ∙ signed h k l

pub returns-then-m : goal.returns-then-m
returns-then-m c =
    let h = c.args.h in
    let r = normal (h % 0x8000) c.if-m.true in
    ap (λ (m : ℕ). h / 0x8000 * 0x8000_0000 + m) (c.normal_magnitude.ensures.0 r.0 r.1) ∙ signed h (search rules) (omega arith)

pub returns : goal.returns
returns c =
    let h = c.args.h in
    let o = c.other_magnitude in
    c.choose.ensures ∙ told h o.result (search rules) c.if-m.false o.ensures.0 o.ensures.1 (ltb 0x7c00 (h % 0x8000)) refl
