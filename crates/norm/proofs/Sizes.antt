-- Why `size_down`, `size_up` and `floor_code` are right: a finite float from 0 up is a fraction a / d, by which it is compared, and -0 is the fraction 0.
-- Assumes nothing.
use mathlib.Core.Path.{◌≡◌, refl, sym, ap, ap₂, ◌∙◌, subst}
use Prim.Native.Nat.{ℕ, ◌+◌, ◌-◌, ◌*◌, ◌/◌, ◌%◌, ◌^◌, ◌≤◌, ◌<◌, min}
use native.Mathlib.Nat.{mul-one, one-mul, zero-mul, mul_right_comm, add-mul, le_of_eq, le_trans, mul-le-mul_right, le_of_mul-le-mul_right, div-add-mod', mod-lt, le-div_iff_mul-le, div-lt_iff_lt-mul, lt_of_lt_of_le, zero-div, div-eq_of_lt, lt_of_mul-lt-mul_right}
use native.Mathlib.Omega.{arith}
use mathlib.Core.Bool.{Bool, true, false, ◌&&◌, ◌||◌, cond, true≢false}
use borrow.Author.Tests.{ltb-true, ltb-false, leb-true}
use lib.Arith.{digits_div}
use lib.Dec.{T, leb, ltb, eqb, ltb→lt, lt→ltb, eqb→eq, lit≤}
use lib.Pow.{pow_pos}
use lib.IntN.{ℤ, pos}
use lib.Ieee.{Float, nan, inf, fin, binary32, up, down, odd, lt, le, eq, neg, of_int, fits, is_nan, of_fields, of_bits, to_bits}
use lib.Ieee.Bits.{is_true, of_bits-to_bits, nan_bits_is, nan_bits_above}
use lib.Ieee.Fits.{down_pos, and_i, and_l, eq→eqb}
use lib.Ieee.Nearest.{div_mono, div_same}
use lib.Ieee.Order.{le_of_values}
use lib.Ieee.Exact.{HasValue}
use lib.Ieee.Back.{round_whole}
use Rattle.half.specs.Format as format
use Rattle.half.specs.Format.{f32, magnitude, negative, fields, units, rank}
use Rattle.half.proofs.Sizes.{units_lt}
use Rattle.half.proofs.Library.{bits_value}
use Rattle.floats.proofs.Order.{lt_rank, le_rank}
use Rattle.norm.specs.Norm.{scale, depth, minus, floor_code}
use Rattle.norm.specs.Sizes.{nought, size_down, size_up}

-- a negative float that is not below 0 is -0
minus_zero : (m : ℕ) (e : ℤ) → T (le nought (fin true m e)) → m * up e ≡ 0
unfolding le lt eq
minus_zero m e t = sym (sym (zero-mul (down e)) ∙ eqb→eq (0 * down e) (m * up e * 1) (and_l (eqb (0 * down e) (m * up e * 1)) (eqb (0 * down e) 0) t) ∙ mul-one (m * up e))

flat : (m : ℕ) (e : ℤ) → m * up e ≡ 0 → (m * up e / down e ≡ 0) × ((m * up e + (down e - 1)) / down e ≡ 0)
flat m e z = (ap (λ (x : ℕ). x / down e) z ∙ zero-div (down e), ap (λ (x : ℕ). (x + (down e - 1)) / down e) z ∙ div-eq_of_lt (less (down e) (down_pos e)))
  where
    less : (d : ℕ) → 0 < d → 0 + (d - 1) < d
    less d h = omega arith

-- ---- rounding down

-- 65536 as a float
abbrev pub cap : Float
cap = fin false 1 (pos 16)

-- the float's bits: what they stand for in whole numbers
pub record Pointed (v : Float) : Type 0 where
  pub small : magnitude f32 (to_bits binary32 v) < 0x4780_0000
  pub same : units f32 (magnitude f32 (to_bits binary32 v)) / 2 ^ 149 ≡ size_down v

down_is : (v : Float) (s : Bool) (u : ℕ) → HasValue v s u (2 ^ 149) → u / 2 ^ 149 < 65536 → u / 2 ^ 149 ≡ size_down v
unfolding size_down
down_is nan s u v h = absurd v
down_is (inf t) s u v h = absurd v
down_is (fin t m e) s u v h = sym (ap (λ (q : ℕ). min q 65536) (div_same (m * up e) (down e) u (2 ^ 149) (down_pos e) (pow_pos 149) v.1) ∙ uncapped (u / 2 ^ 149) h)
  where
    uncapped : (q : ℕ) → q < 65536 → min q 65536 ≡ q
    uncapped q h = omega arith

-- 0 and 65536 as f32 patterns
nought_bits : of_bits binary32 0 ≡ nought
unfolding of_bits of_fields odd
nought_bits = refl

cap_bits : of_bits binary32 0x4780_0000 ≡ cap
unfolding of_bits of_fields odd
cap_bits = refl

number : (v : Float) → T (lt v cap) → is_nan v ≡ false
unfolding lt is_nan
number nan h = absurd h
number (inf s) h = refl
number (fin s m e) h = refl

pub pointed : (v : Float) → T (fits binary32 v) → T (le nought v) → T (lt v cap) → Pointed v
unfolding fields
pointed v f g h =
    let n = to_bits binary32 v in
    let b : of_bits binary32 n ≡ v = of_bits-to_bits binary32 v f in
    let k : format.is_nan f32 n ≡ false = sym (nan_bits_above binary32 n) ∙ nan_bits_is binary32 n ∙ ap is_nan b ∙ number v h in
    let below : ltb (rank f32 n) (rank f32 0x4780_0000) ≡ true = sym (lt_rank n 0x4780_0000 k refl) ∙ ap₂ lt b cap_bits ∙ is_true (lt v cap) h in
    let above : leb (rank f32 0) (rank f32 n) ≡ true = sym (le_rank 0 n refl k) ∙ ap₂ le nought_bits b ∙ is_true (le nought v) g in
    let small = range (negative f32 n) (magnitude f32 n) (mod-lt n (omega arith)) (ltb-true _ _ below) (leb-true _ _ above) in
    let u = units f32 (magnitude f32 n) in
    let most : u < 65536 * 2 ^ 149 = units_lt f32 (magnitude f32 n) 0x4780_0000 small in
    record {
      small = small;
      same = down_is v (negative f32 n) u (subst (λ (x : Float). HasValue x (negative f32 n) u (2 ^ 149)) b (bits_value n (lt_of_lt_of_le small (lit≤ tt)))) ((div-lt_iff_lt-mul (pow_pos 149)).1 most);
    }
  where
    range : (s : Bool) (m : ℕ) → m < 0x8000_0000 → cond s (0x8000_0000 - m) (0x8000_0000 + m) < 0x8000_0000 + 0x4780_0000 → 0x8000_0000 ≤ cond s (0x8000_0000 - m) (0x8000_0000 + m) → m < 0x4780_0000
    range true m l h k = omega arith
    range false m l h k = omega arith

pub capped : (v : Float) → T (le nought v) → lt v cap ≡ false → 65536 ≡ size_down v
unfolding le lt eq size_down
capped nan g h = absurd g
capped (inf true) g h = absurd g
capped (inf false) g h = refl
capped (fin false m e) g h = most (m * up e / down e) ((le-div_iff_mul-le (down_pos e)).1 (le_trans (ltb-false (m * up e * 1) (65536 * down e) h) (le_of_eq (mul-one (m * up e)))))
  where
    most : (q : ℕ) → 65536 ≤ q → 65536 ≡ min q 65536
    most q h = omega arith
capped (fin true m e) g h = absurd (never (m * up e) (down e) (down_pos e) (ltb-false 0 (m * up e * 1 + 65536 * down e) h))
  where
    never : (a d : ℕ) → 0 < d → a * 1 + 65536 * d ≤ 0 → ⊥
    never a d h k = omega arith

-- ---- rounding up: one more than rounding down, where that left something

rounded_up : (a d : ℕ) → 0 < d → (a / d * d < a → (a + (d - 1)) / d ≡ a / d + 1) × (a ≤ a / d * d → (a + (d - 1)) / d ≡ a / d)
rounded_up a d D =
    let q = a / d in
    let r = a % d in
    let e : q * d + r ≡ a = div-add-mod' a d in
    let l : r < d = mod-lt a D in (
      (λ h. ap (λ (x : ℕ). x / d) (more (q * d) d r a e l h ∙ ap (λ (x : ℕ). x + (r - 1)) (next q d)) ∙ digits_div (q + 1) {m = d} {r = r - 1} (less r d (omega arith) D)),
      (λ h. ap (λ (x : ℕ). x / d) (level (q * d) d r a e h) ∙ digits_div q {m = d} {r = d - 1} (less d d (omega arith) D)),
    )
  where
    more : (p d r a : ℕ) → p + r ≡ a → r < d → p < a → a + (d - 1) ≡ (p + d) + (r - 1)
    more p d r a e l h = omega arith

    next : (q d : ℕ) → q * d + d ≡ (q + 1) * d
    next q d = simp (add-mul, one-mul)

    less : (r d : ℕ) → r ≤ d → 0 < d → r - 1 < d
    less r d l D = omega arith

    level : (p d r a : ℕ) → p + r ≡ a → a ≤ p → a + (d - 1) ≡ p + (d - 1)
    level p d r a e h = omega arith

-- how a float x / c of the whole value n compares with a / d
compared : (x c n a d : ℕ) → 0 < c → x * 1 ≡ n * c → (x * d < a * c → n * d < a) × (a * c ≤ x * d → a ≤ n * d)
compared x c n a d C e =
    let p : x * d ≡ n * d * c = ap (λ (z : ℕ). z * d) (sym (mul-one x) ∙ e) ∙ mul_right_comm n c d in (
      (λ h. lt_of_mul-lt-mul_right c (subst (λ (z : ℕ). z < a * c) p h)),
      (λ h. le_of_mul-le-mul_right (subst (λ (z : ℕ). a * c ≤ z) p h) C),
    )

up_of : (t : Float) (n m : ℕ) (e : ℤ) → HasValue t false n 1 → n ≡ m * up e / down e
    → (lt t (fin false m e) ≡ true → (m * up e + (down e - 1)) / down e ≡ n + 1) × (lt t (fin false m e) ≡ false → (m * up e + (down e - 1)) / down e ≡ n)
unfolding lt
up_of nan n m e v q = absurd v
up_of (inf s) n m e v q = absurd v
up_of (fin true k d) n m e v q = absurd (true≢false v.0)
up_of (fin false k d) n m e v q =
    let a = m * up e in
    let x = compared (k * up d) (down d) n a (down e) (down_pos d) v.1 in
    let u = rounded_up a (down e) (down_pos e) in (
      (λ h. u.0 (subst (λ (z : ℕ). z * down e < a) q (x.0 (ltb-true (k * up d * down e) (a * down d) h))) ∙ ap (λ (z : ℕ). z + 1) (sym q)),
      (λ h. u.1 (subst (λ (z : ℕ). a ≤ z * down e) q (x.1 (ltb-false (k * up d * down e) (a * down d) h))) ∙ sym q),
    )

pub record Up (v : Float) (n : ℕ) : Type 0 where
  pub more : lt (of_int binary32 (pos n)) v ≡ true → n + 1 ≡ size_up v
  pub none : lt (of_int binary32 (pos n)) v ≡ false → n ≡ size_up v

pub up_one : (v : Float) (n : ℕ) → T (le nought v) → n ≡ size_down v → n < 65536 → Up v n
unfolding le lt eq of_int size_down size_up
up_one nan n g e h = absurd g
up_one (inf true) n g e h = absurd g
up_one (inf false) n g e h = absurd (no n e h)
  where
    no : (n : ℕ) → n ≡ 65536 → n < 65536 → ⊥
    no n e h = omega arith
up_one (fin false m d) n g e h =
    let s = up_of (of_int binary32 (pos n)) n m d (round_whole binary32 false n (le_trans (most n h) (lit≤ tt))) (exact n (m * up d / down d) e h) in
    record {
      more = λ t. room (n + 1) ((m * up d + (down d - 1)) / down d) (s.0 t) (next n h);
      none = λ t. room n ((m * up d + (down d - 1)) / down d) (s.1 t) (most n h);
    }
  where
    exact : (n q : ℕ) → n ≡ min q 65536 → n < 65536 → n ≡ q
    exact n q e h = omega arith

    most : (n : ℕ) → n < 65536 → n ≤ 65536
    most n h = omega arith

    next : (n : ℕ) → n < 65536 → n + 1 ≤ 65536
    next n h = omega arith

    room : (n c : ℕ) → c ≡ n → n ≤ 65536 → n ≡ min c 65536
    room n c e h = omega arith
up_one (fin true m d) n g e h =
    let z = flat m d (minus_zero m d g) in
    let n0 : n ≡ 0 = e ∙ ap (λ (x : ℕ). min x 65536) z.0 in
    record {
      more = λ t. absurd (true≢false (sym (subst (λ (k : ℕ). lt (of_int binary32 (pos k)) (fin true m d) ≡ true) n0 t)));
      none = λ t. n0 ∙ sym (ap (λ (x : ℕ). min x 65536) z.1);
    }

pub up_capped : (v : Float) → T (le nought v) → 65536 ≤ size_down v → 65536 ≡ size_up v
unfolding le lt eq size_down size_up
up_capped nan g h = absurd g
up_capped (inf true) g h = absurd g
up_capped (inf false) g h = refl
up_capped (fin s m e) g h =
    most (m * up e / down e) ((m * up e + (down e - 1)) / down e) h
    (div_mono (m * up e) (down e) (m * up e + (down e - 1)) (down e) (down_pos e) (down_pos e) (mul-le-mul_right (down e) (grow (m * up e) (down e - 1))))
  where
    most : (q c : ℕ) → 65536 ≤ min q 65536 → q ≤ c → 65536 ≡ min c 65536
    most q c h k = omega arith

    grow : (a b : ℕ) → a ≤ a + b
    grow a b = omega arith

-- ---- the three ways of `floor_code`

twice_capped : (x n : ℕ) → n ≤ 65536 → (min (min x 65536) n ≡ min x n) × (min 65536 n ≡ n)
twice_capped x n h = (omega arith, omega arith)

pub floor_up : (g : Bool) (w : ℕ) (v : Float) → scale g w ≤ 65536 → T (le nought v) → min (size_down v) (scale g w) ≡ floor_code g w v
unfolding le lt eq size_down floor_code
floor_up g w nan h p = absurd p
floor_up g w (inf true) h p = absurd p
floor_up g w (inf false) h p = (twice_capped 0 (scale g w) h).1
floor_up g w (fin false m e) h p = (twice_capped (m * up e / down e) (scale g w) h).0
floor_up g w (fin true m e) h p =
    let z = flat m e (minus_zero m e p) in
    ap (λ (x : ℕ). min (min x 65536) (scale g w)) z.0 ∙ none (scale g w) ∙ sym (ap (λ (x : ℕ). minus w (min x (depth g w))) z.1 ∙ ap (minus w) (none (depth g w)))
  where
    none : (n : ℕ) → min 0 n ≡ 0
    none n = omega arith

not_below : (m : ℕ) (e : ℤ) → T (ltb (m * up e * 1) (0 * down e)) → ⊥
not_below m e t = no (m * up e * 1) (0 * down e) (zero-mul (down e)) (ltb→lt (m * up e * 1) (0 * down e) t)
  where
    no : (a b : ℕ) → b ≡ 0 → a < b → ⊥
    no a b e h = omega arith

pub negated : (v : Float) → T (lt v nought) → T (le nought (neg v))
unfolding le lt eq neg
negated nan p = absurd p
negated (inf true) p = tt
negated (inf false) p = absurd p
negated (fin false m e) p = absurd (not_below m e p)
negated (fin true m e) p =
    left (ltb (0 * down e) (m * up e * 1)) _ (lt→ltb (0 * down e) (m * up e * 1) (past (m * up e * 1) (0 * down e) (zero-mul (down e)) (ltb→lt 0 (m * up e * 1 + 0 * down e) p)))
  where
    past : (a b : ℕ) → b ≡ 0 → 0 < a + b → b < a
    past a b e h = omega arith

    left : (a b : Bool) → T a → T (a || b)
    left true b t = tt
    left false b t = absurd t

pub floor_down : (g : Bool) (w : ℕ) (v : Float) → depth g w ≤ 65536 → T (lt v nought) → minus w (min (size_up (neg v)) (depth g w)) ≡ floor_code g w v
unfolding lt neg size_up floor_code
floor_down g w nan h p = absurd p
floor_down g w (inf true) h p = ap (minus w) (twice_capped 0 (depth g w) h).1
floor_down g w (inf false) h p = absurd p
floor_down g w (fin false m e) h p = absurd (not_below m e p)
floor_down g w (fin true m e) h p = ap (minus w) (twice_capped ((m * up e + (down e - 1)) / down e) (depth g w) h).0

pub floor_none : (g : Bool) (w : ℕ) (v : Float) → le nought v ≡ false → lt v nought ≡ false → 0 ≡ floor_code g w v
unfolding lt le eq floor_code
floor_none g w nan a b = refl
floor_none g w (inf true) a b = absurd (subst T b tt)
floor_none g w (inf false) a b = absurd (subst T a tt)
floor_none g w (fin false m e) a b = absurd (subst T a (le_of_values nought (fin false m e) 0 1 (m * up e) (down e) (omega arith) (down_pos e) (refl, refl) (refl, refl) (omega arith)))
floor_none g w (fin true m e) a b = absurd (subst T a (both (m * up e * 1) (0 * down e) (zero-mul (down e)) (ltb-false 0 (m * up e * 1 + 0 * down e) b)))
  where
    both : (x y : ℕ) → y ≡ 0 → x + y ≤ 0 → T (eqb y x && eqb y 0)
    both x y e h =
        let x0 : x ≡ 0 = omega arith in
        and_i (eqb y x) (eqb y 0) (eq→eqb (e ∙ sym x0)) (eq→eqb e)
