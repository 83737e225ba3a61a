-- `exponent::frexp` meets its contract: its numbers are the format's, so that each branch is a case of the definition. Assumes nothing.
use Rattle.std.proofs.Common.{◌≡◌, ℕ, suc, ◌+◌, ◌-◌, ◌*◌, ◌/◌, ◌%◌, ◌^◌, ◌<◌, ◌≤◌, Bool, true, false, cond, ◌||◌, eqb, ltb, leb, sym, ap, ◌∙◌, le_trans, le_of_eq, le_refl, mul-le-mul_right, mod-lt, add-mul, one-mul, arith, pow_pos, pow_mono, pow-add}
use native.Mathlib.Nat.{two-pow-succ}
use Rattle.half.specs.Format.{hidden, top, infinity, magnitude, lowest}
use Rattle.half.specs.Program.{format}
use Rattle.half.proofs.Signs.{top_is}
use Rattle.exponent.specs.Exponent.{unsplit, fraction, exponent}
use Rattle.exponent.specs.Leads.{Leads}
use Rattle.exponent.proofs.FirstDigits.{halved, lowest_is}
use Rattle.exponent.proofs.Cases.{fraction_whole, exponent_whole, finite, fraction_is, exponent_is}
use Rattle.exponent.proofs.frexp.Goals as goal
use Rattle.exponent.proofs.frexp.Goals.{After-power-top}

-- the powers that the code works with, and what they are in the format
record Powers (e p h t j : ℕ) : Type 0 where
  some : 0 < h
  least : h ≤ j * h
  half : t ≡ 2 * (3 * h + j * h)
  most : t ≤ 2 ^ 31
  weight : 2 ^ (e - 1) ≡ 3 + j
  few : 2 ^ (e - 1) + p < 2 ^ 31
  lowest_is : lowest (format e p) ≡ suc p + j
  hidden_is : h ≡ hidden (format e p)
  top_is : t ≡ top (format e p)
  infinity_is : t - h ≡ infinity (format e p)

powers : (e p h t : ℕ) → (3 ≤ e) × (0 < p) × (e + p ≤ 31) → h ≡ 2 ^ p → t ≡ 2 ^ (e + p) → Powers e p h t (2 ^ (e - 1) - 3)
powers e p h t (d, n, k) i g =
    let w = 2 ^ (e - 1) in
    let j = w - 3 in
    let four = (halved e d).0 in
    let T : t ≡ top (format e p) = g ∙ pow-add 2 e p in
    let W : w ≡ 3 + j = omega arith in
    record {
      some = omega (arith, pow_pos p);
      least = le_trans (le_of_eq (sym (one-mul h))) (mul-le-mul_right h (omega arith));
      half = T ∙ ap (λ (x : ℕ). x * 2 ^ p) (halved e d).1 ∙ add-mul w w (2 ^ p) ∙ omega (arith, ap (λ (x : ℕ). x * 2 ^ p) W ∙ add-mul 3 j (2 ^ p), ap (λ (x : ℕ). j * x) i);
      most = le_trans (le_of_eq g) (pow_mono k);
      weight = W;
      few = omega (arith, pow_mono {i = e - 1} {j = 30} (omega arith));
      lowest_is = lowest_is (format e p) d;
      hidden_is = i;
      top_is = T;
      infinity_is = omega (arith, top_is (format e p), T, i);
    }

-- ---- the three results, over the code's numbers
module _ (e p x h t j : ℕ) (w : Powers e p h t j) where
  code_unsplit : (b : Bool) → (eqb (x % t) 0 || leb (t - h) (x % t)) ≡ b → unsplit (format e p) x ≡ b
  code_unsplit b i = rw (sym w.top_is, sym w.infinity_is) i

  whole : (eqb (x % t) 0 || leb (t - h) (x % t)) ≡ true → cond (ltb (t - h) (x % t)) (t - h + h / 2) x ≡ fraction (format e p) x
  whole i = rw (w.infinity_is, w.top_is, w.hidden_is) (sym (fraction_whole (format e p) x (code_unsplit true i)))

  module _ (u : (eqb (x % t) 0 || leb (t - h) (x % t)) ≡ false) (q s : ℕ) (l : Leads p (x % t) q s) where
    led : Leads p (magnitude (format e p) x) q s
    led = rw (sym w.top_is) l

    digits : (sign : ℕ) → sign ≡ cond (leb t x) t 0 → sign + (t / 2 - 3 * h + q) ≡ fraction (format e p) x
    digits sign i =
        ap (λ (y : ℕ). y + (t / 2 - 3 * h + q)) i
        ∙ ap (λ (m : ℕ). cond (leb t x) t 0 + (m + q)) (start t h (j * h) w.half)
        ∙ rw (w.top_is, w.hidden_is) (sym (fraction_is (format e p) x (code_unsplit false u) q s led j w.lowest_is))
      where
        start : (t h y : ℕ) → t ≡ 2 * (3 * h + y) → t / 2 - 3 * h ≡ y
        start t h y i = omega arith

    power : (n : ℕ) → n ≡ 2 ^ (e - 1) → (s + (2 ^ 32 - (n + p - 2))) % 2 ^ 32 ≡ exponent (format e p) x
    power n i = ap (λ (y : ℕ). (s + (2 ^ 32 - (y + p - 2))) % 2 ^ 32) i ∙ ap (λ (y : ℕ). y % 2 ^ 32) (moved s (lowest (format e p)) (omega (arith, w.few, w.weight))) ∙ sym (exponent_is (format e p) x (code_unsplit false u) q s led)
      where
        moved : (s b : ℕ) → b < 2 ^ 32 → s + (2 ^ 32 - b) ≡ 2 ^ 32 + s - b
        moved s b h = omega arith

powers_at : (c : After-power-top) → Powers c.args.e c.args.p c.power-hidden.result c.power-top.result (2 ^ (c.args.e - 1) - 3)
powers_at c = powers c.args.e c.args.p c.power-hidden.result c.power-top.result c.requires c.power-hidden.ensures c.power-top.ensures

pub overflow_sub-infinity : goal.overflow_sub-infinity
overflow_sub-infinity c = omega (arith, powers_at c)

pub nonzero_rem-m : goal.nonzero_rem-m
nonzero_rem-m c = omega (arith, powers_at c)

pub returns-then-m-infinity : goal.returns-then-m-infinity
returns-then-m-infinity c =
    let a = c.args in
    let w = powers_at (goal.at.returns-then-m-infinity c).After-power-top in
    (c.choose.ensures ∙ whole a.e a.p a.x _ _ _ w c.if-m-infinity.true, sym (exponent_whole (format a.e a.p) a.x (code_unsplit a.e a.p a.x _ _ _ w true c.if-m-infinity.true)))

pub leading-d-requires : goal.leading-d-requires
leading-d-requires c =
    let a = c.args in
    let w = powers_at (goal.at.leading-d-requires c).After-power-top in
    let n = finite (format a.e a.p) a.x (code_unsplit a.e a.p a.x _ _ _ w false c.if-m-infinity.false) in
    let some : 0 < c.power-top.result = omega (arith, w) in
    (omega arith, omega (arith, n.0, ap (λ (t : ℕ). a.x % t) w.top_is), omega (arith, w.most, mod-lt a.x some))

pub overflow_mul-magnitude : goal.overflow_mul-magnitude
overflow_mul-magnitude c = omega (arith, powers_at (goal.at.overflow_mul-magnitude c).After-power-top)

pub overflow_sub-magnitude : goal.overflow_sub-magnitude
overflow_sub-magnitude c = omega (arith, powers_at (goal.at.overflow_sub-magnitude c).After-power-top)

pub overflow_add-lowest : goal.overflow_add-lowest
overflow_add-lowest c = omega (arith, powers_at (goal.at.overflow_add-lowest c).After-power-top)

pub overflow_sub-lowest : goal.overflow_sub-lowest
overflow_sub-lowest c = omega (arith, powers_at (goal.at.overflow_sub-lowest c).After-power-top)

sign_most : (b : Bool) (t : ℕ) → cond b t 0 ≤ t
sign_most true t = le_refl t
sign_most false t = omega arith

pub overflow_add-result : goal.overflow_add-result
overflow_add-result c =
    let a = c.args in
    let t = c.power-top.result in
    omega (arith, powers_at (goal.at.overflow_add-result c).After-power-top, c.choose-2.ensures, sign_most (leb t a.x) t, c.leading-d.ensures.most, two-pow-succ a.p)

pub returns : goal.returns
returns c =
    let a = c.args in
    let w = powers_at (goal.at.returns c).After-power-top in
    let u = c.if-m-infinity.false in
    let d = c.leading-d in
    let l = d.ensures in (
      digits a.e a.p a.x _ _ _ w u d.result.first d.result.count l c.choose-2.result c.choose-2.ensures,
      power a.e a.p a.x _ _ _ w u d.result.first d.result.count l c.power.result c.power.ensures,
    )
