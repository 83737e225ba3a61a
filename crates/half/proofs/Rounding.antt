-- Sizes rounded to a format's digits: which digits are dropped and which kept, that equal fractions round alike, that a size of the format stays,
-- and what powers of two below and above come to. Each follows from `closest` once the number of dropped digits is known. Assumes nothing.
use mathlib.Core.Path.{◌≡◌, refl, sym, ap, ◌∙◌, subst}
use mathlib.Core.Logic.{◌⊎◌, inl, inr}
use Prim.Native.Nat.{ℕ, suc, ◌+◌, ◌-◌, ◌*◌, ◌/◌, ◌^◌, ◌≤◌, ◌<◌}
use native.Mathlib.Nat.{le_trans, le_of_eq, lt_of_lt_of_le, lt_of_le_of_lt, mul-one, one-mul, mul_assoc, mul_comm, mul-le-mul_right, mul-lt-mul_of_pos_right, mul-pos, div-div-eq-div-mul, le-div_iff_mul-le, div-lt_iff_lt-mul, add_comm, add-zero, div-one, suc-mul, eq-zero-or-pos, sub-add_cancel, two-pow-succ}
use native.Mathlib.Omega.{arith}
use lib.Pow.{pow_pos, pow-add}
use lib.Ieee.{size}
use lib.Ieee.Digits.{size-lt, size-le, size_reaches}
use lib.Ieee.Fits.{kept-lt}
use lib.Ieee.Nearest.{closest, closest_same, closest_mono, div_same, div_mono}
use Rattle.half.specs.Format.{Format, hidden, units, pattern, rounded}
use Rattle.half.proofs.Closest.{split, closest_ge, closest_le, closest_none, closest_exact}
use Rattle.half.proofs.Sizes.{size_past, size_within, Placed, pattern_is, parts}

-- how many digits of a / c are dropped
abbrev pub dropped : Format → ℕ → ℕ → ℕ
dropped f a c = size (a / c) - suc f.fraction

-- what the kept digits count, and the whole number of them in a
abbrev pub unit : Format → ℕ → ℕ → ℕ
unit f a c = c * 2 ^ dropped f a c

abbrev pub kept : Format → ℕ → ℕ → ℕ
kept f a c = a / unit f a c

-- the magnitude of a / c units, with no infinity
abbrev pub uncapped : Format → ℕ → ℕ → ℕ
uncapped f a c = pattern f (rounded f a c)

moved : (t i d j k : ℕ) → i + d ≡ j + k → t * 2 ^ i * 2 ^ d ≡ t * 2 ^ k * 2 ^ j
moved t i d j k e =
    mul_assoc t (2 ^ i) (2 ^ d)
    ∙ ap (λ (z : ℕ). t * z) (sym (pow-add 2 i d) ∙ ap (λ (z : ℕ). 2 ^ z) (e ∙ add_comm j k) ∙ pow-add 2 k j)
    ∙ sym (mul_assoc t (2 ^ k) (2 ^ j))

module _ (f : Format) where
  rounded_at : (a c k : ℕ) → dropped f a c ≡ k → rounded f a c ≡ closest a (c * 2 ^ k) * 2 ^ k
  unfolding rounded
  rounded_at a c k e = ap (λ (z : ℕ). closest a (c * 2 ^ z) * 2 ^ z) e

  -- ---- the kept digits
  pub kept_below : (a c : ℕ) → kept f a c < 2 ^ suc f.fraction
  kept_below a c = lt_of_le_of_lt (le_of_eq (sym (div-div-eq-div-mul a c (2 ^ dropped f a c)))) (kept-lt (suc f.fraction) (a / c))

  pub kept_least : (a c : ℕ) → (dropped f a c ≡ 0) ⊎ (hidden f ≤ kept f a c)
  kept_least a c =
      let k = dropped f a c in
      elim (eq-zero-or-pos k) [
        | inl z ↦ inl z
        | inr s ↦
            inr
            (le_trans ((le-div_iff_mul-le (pow_pos k)).1 (le_trans (le_of_eq (sym (pow-add 2 f.fraction k))) (size_reaches (a / c) (f.fraction + k) (omega arith))))
            (le_of_eq (div-div-eq-div-mul a c (2 ^ k))))
      ]

  pub rounded_placed : (a c : ℕ) → Placed f (dropped f a c) (closest a (unit f a c))
  rounded_placed a c = record {
    most = le_trans (closest_le a (unit f a c)) (kept_below a c);
    least = elim (kept_least a c) [ inl z ↦ inl z | inr g ↦ inr (le_trans g (closest_ge a (unit f a c))) ];
  }

  pub uncapped_is : (a c : ℕ) → uncapped f a c ≡ dropped f a c * hidden f + closest a (unit f a c)
  unfolding rounded
  uncapped_is a c = pattern_is f (dropped f a c) (closest a (unit f a c)) (rounded_placed a c)

  -- ---- the order is kept
  pub uncapped_mono : (a c b d : ℕ) → 0 < c → 0 < d → a * d ≤ b * c → uncapped f a c ≤ uncapped f b d
  uncapped_mono a c b d C D h =
      let j = dropped f a c in
      let k = dropped f b d in
      let p = rounded_placed a c in
      let r = rounded_placed b d in
      rw (uncapped_is a c, uncapped_is b d)
      (elim (split j k) [
        | inl l ↦
            elim r.least [
              | inl z ↦ absurd (omega arith)
              | inr g ↦ omega (arith, p.most, two-pow-succ f.fraction, mul-le-mul_right (hidden f) l, suc-mul j (hidden f))
            ]
        | inr g ↦
            let e : j ≡ k = omega (arith, size_mono (a / c) (b / d) (div_mono a c b d C D h)) in
            let s : closest a (c * 2 ^ j) ≤ closest b (d * 2 ^ k) = subst (λ (x : ℕ). closest a (c * 2 ^ j) ≤ closest b (d * 2 ^ x)) e (closest_mono a (c * 2 ^ j) b (d * 2 ^ j) (mul-pos C (pow_pos j)) (mul-pos D (pow_pos j)) (scaled a c b d (2 ^ j) h)) in
            omega (arith, ap (λ (x : ℕ). x * hidden f) e, s)
      ])
    where
      size_mono : (x y : ℕ) → x ≤ y → size x ≤ size y
      size_mono x y l = size-le x (size y) (lt_of_le_of_lt l (size-lt y))

      scaled : (a c b d z : ℕ) → a * d ≤ b * c → a * (d * z) ≤ b * (c * z)
      scaled a c b d z h = le_trans (le_of_eq (sym (mul_assoc a d z))) (le_trans (mul-le-mul_right z h) (le_of_eq (mul_assoc b c z)))

  -- ---- equal fractions, and sizes of the format
  pub rounded_same : (a c b d : ℕ) → 0 < c → 0 < d → a * d ≡ b * c → rounded f a c ≡ rounded f b d
  unfolding rounded
  rounded_same a c b d C D e =
      let k = dropped f a c in
      ap (λ (x : ℕ). x * 2 ^ k) (closest_same a (c * 2 ^ k) b (d * 2 ^ k) (mul-pos C (pow_pos k)) (mul-pos D (pow_pos k)) (sym (mul_assoc a d (2 ^ k)) ∙ ap (λ (x : ℕ). x * 2 ^ k) e ∙ mul_assoc b c (2 ^ k)))
      ∙ ap (λ (x : ℕ). closest b (d * 2 ^ (size x - suc f.fraction)) * 2 ^ (size x - suc f.fraction)) (div_same a c b d C D e)

  pub rounded_scale : (a c k : ℕ) → 0 < c → 0 < k → rounded f (a * k) (c * k) ≡ rounded f a c
  rounded_scale a c k C K = rounded_same (a * k) (c * k) a c (mul-pos C K) C (mul_assoc a k c ∙ ap (λ (x : ℕ). a * x) (mul_comm k c))

  pub rounded_exact : (a c j q : ℕ) → 0 < c → q < 2 ^ suc f.fraction → a ≡ q * 2 ^ j * c → rounded f a c ≡ q * 2 ^ j
  rounded_exact a c j q C l e =
      let w = q * 2 ^ j in
      let k = dropped f w 1 in
      let fits : k ≤ j = omega (arith, size-le (w / 1) (suc f.fraction + j) (lt_of_le_of_lt (le_of_eq (div-one w)) (lt_of_lt_of_le (mul-lt-mul_of_pos_right l (pow_pos j)) (le_of_eq (sym (pow-add 2 (suc f.fraction) j)))))) in
      let x = q * 2 ^ (j - k) in
      let whole : w ≡ x * 2 ^ k = ap (λ (z : ℕ). q * 2 ^ z) (sym (sub-add_cancel fits)) ∙ ap (λ (z : ℕ). q * z) (pow-add 2 (j - k) k) ∙ sym (mul_assoc q (2 ^ (j - k)) (2 ^ k)) in
      rounded_same a c w 1 C (omega arith) (mul-one a ∙ e)
      ∙ rounded_at w 1 k refl
      ∙ ap (λ (z : ℕ). z * 2 ^ k) (ap (λ (z : ℕ). closest z (1 * 2 ^ k)) (whole ∙ ap (λ (z : ℕ). x * z) (sym (one-mul (2 ^ k)))) ∙ closest_exact x (1 * 2 ^ k) (mul-pos {m = 1} (omega arith) (pow_pos k)))
      ∙ sym whole

  pub rounded_units : (m c : ℕ) → 0 < c → rounded f (units f m * c) c ≡ units f m
  rounded_units m c C =
      let p = parts f m in
      rounded_exact (units f m * c) c p.k p.q C p.below (ap (λ (z : ℕ). z * c) p.size) ∙ sym p.size

  -- ---- by the bounds that tell the number of dropped digits
  pub rounded_whole : (a c : ℕ) → 0 < c → a < 2 ^ suc f.fraction * c → rounded f a c ≡ closest a c
  rounded_whole a c C h =
      rounded_at a c 0 (size_within (suc f.fraction) (a / c) ((div-lt_iff_lt-mul C).1 h)) ∙ mul-one (closest a (c * 1)) ∙ ap (closest a) (mul-one c)

  pub rounded_none : (a c : ℕ) → a * 2 < c → rounded f a c ≡ 0
  rounded_none a c h = rounded_whole a c (omega arith) (lt_of_lt_of_le a<c (le_trans (le_of_eq (sym (one-mul c))) (mul-le-mul_right c (pow_pos (suc f.fraction))))) ∙ closest_none a c h
    where
      a<c : a < c
      a<c = omega arith

  -- t has d digits more than are kept, and those are rounded off
  pub rounded_drop : (d t i j k : ℕ) → 2 ^ (f.fraction + d) ≤ t → t < 2 ^ (suc f.fraction + d) → i + d ≡ j + k → rounded f (t * 2 ^ i) (2 ^ j) ≡ closest t (2 ^ d) * 2 ^ k
  rounded_drop d t i j k lo hi e =
      let p = f.fraction in
      let low : 2 ^ (p + k) ≤ t * 2 ^ k / 2 ^ d = (le-div_iff_mul-le (pow_pos d)).1 (le_trans (le_of_eq (sym (pow-add 2 (p + k) d) ∙ ap (λ (z : ℕ). 2 ^ z) (swap p k d) ∙ pow-add 2 (p + d) k)) (mul-le-mul_right (2 ^ k) lo)) in
      let high : t * 2 ^ k / 2 ^ d < 2 ^ suc (p + k) = (div-lt_iff_lt-mul (pow_pos d)).1 (lt_of_lt_of_le (mul-lt-mul_of_pos_right hi (pow_pos k)) (le_of_eq (sym (pow-add 2 (suc p + d) k) ∙ ap (λ (z : ℕ). 2 ^ z) (swap' p k d) ∙ pow-add 2 (suc (p + k)) d))) in
      rounded_same (t * 2 ^ i) (2 ^ j) (t * 2 ^ k) (2 ^ d) (pow_pos j) (pow_pos d) (moved t i d j k e)
      ∙ rounded_at (t * 2 ^ k) (2 ^ d) k (size_past p k (t * 2 ^ k / 2 ^ d) low high)
      ∙ ap (λ (z : ℕ). z * 2 ^ k) (closest_same (t * 2 ^ k) (2 ^ d * 2 ^ k) t (2 ^ d) (mul-pos (pow_pos d) (pow_pos k)) (pow_pos d) (mul_assoc t (2 ^ k) (2 ^ d) ∙ ap (λ (z : ℕ). t * z) (mul_comm (2 ^ k) (2 ^ d))))
    where
      swap : (p k d : ℕ) → p + k + d ≡ p + d + k
      swap p k d = omega arith

      swap' : (p k d : ℕ) → suc p + d + k ≡ suc (p + k) + d
      swap' p k d = omega arith

  -- the quotient has no more digits than are kept
  pub rounded_keep : (t i j s : ℕ) → t < 2 ^ (suc f.fraction + s) → i + s ≡ j → rounded f (t * 2 ^ i) (2 ^ j) ≡ closest t (2 ^ s)
  rounded_keep t i j s hi e =
      rounded_same (t * 2 ^ i) (2 ^ j) t (2 ^ s) (pow_pos j) (pow_pos s) (moved t i s j 0 (e ∙ sym (add-zero j)) ∙ ap (λ (z : ℕ). z * 2 ^ j) (mul-one t))
      ∙ rounded_whole t (2 ^ s) (pow_pos s) (lt_of_lt_of_le hi (le_of_eq (pow-add 2 (suc f.fraction) s)))
