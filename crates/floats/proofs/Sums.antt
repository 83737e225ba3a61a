-- The sum of two floats by the fractions that they equal, whatever their signs: equal fractions have equal sums. And of the number with the other
-- sign. Assumes nothing.
use mathlib.Core.Path.{◌≡◌, sym, ap, ◌∙◌, subst}
use mathlib.Core.Logic.{inl, inr}
use Prim.Native.Nat.{ℕ, ◌+◌, ◌-◌, ◌*◌, ◌≤◌, ◌<◌}
use native.Mathlib.Nat.{mul_comm, mul_assoc, mul_left_comm, mul-pos, add-mul, mul-sub, mul-le-mul_right, mul-lt-mul_of_pos_right, le_of_mul-le-mul_right, lt_of_mul-lt-mul_right}
use mathlib.Core.Bool.{Bool, not, ◌&&◌}
use borrow.Author.Tests.{lt-ltb, le-ltb}
use lib.Dec.{ltb}
use lib.Ieee.{Float, nan, inf, fin, Format, up, down, round, sum, add, neg}
use lib.Ieee.Fits.{down_pos}
use lib.Ieee.Exact.{HasValue}
use lib.Ieee.Scale.{round_same}
use Rattle.half.proofs.Closest.{split}

pub sub_mul : (m n k : ℕ) → (m - n) * k ≡ m * k - n * k
sub_mul m n k = mul_comm (m - n) k ∙ mul-sub k m n ∙ ap (λ (z : ℕ). z - k * n) (mul_comm k m) ∙ ap (λ (z : ℕ). m * k - z) (mul_comm k n)

same_order : (a b c p q d : ℕ) → 0 < c → 0 < d → a * d ≡ p * c → b * d ≡ q * c → ltb a b ≡ ltb p q
same_order a b c p q d C D e h =
    elim (split a b) [
      | inl l ↦ lt-ltb a b l ∙ sym (lt-ltb p q (lt_of_mul-lt-mul_right c (subst (λ (z : ℕ). z < q * c) e (subst (λ (z : ℕ). a * d < z) h (mul-lt-mul_of_pos_right l D)))))
      | inr l ↦ le-ltb a b l ∙ sym (le-ltb p q (le_of_mul-le-mul_right (subst (λ (z : ℕ). z ≤ p * c) h (subst (λ (z : ℕ). b * d ≤ z) e (mul-le-mul_right d l))) C))
    ]

-- ±a / c + ±b / c and ±p / d + ±q / d
pub sum_same : (f : Format) (s t : Bool) (a b c p q d : ℕ) → 0 < c → 0 < d → a * d ≡ p * c → b * d ≡ q * c → sum f s a t b c ≡ sum f s p t q d
unfolding sum
sum_same f s t a b c p q d C D e h =
    rw (same_order a b c p q d C D e h, same_order b a c q p d C D h e, joined s, minus t a b p q e h, minus (s && ltb q p) b a q p h e)
  where
    joined : (z : Bool) → round f z (a + b) c ≡ round f z (p + q) d
    joined z = round_same f z (a + b) c (p + q) d C D (add-mul a b d ∙ ap (λ (k : ℕ). k + b * d) e ∙ ap (λ (k : ℕ). p * c + k) h ∙ sym (add-mul p q c))

    minus : (z : Bool) (a b p q : ℕ) → a * d ≡ p * c → b * d ≡ q * c → round f z (b - a) c ≡ round f z (q - p) d
    minus z a b p q e h = round_same f z (b - a) c (q - p) d C D (sub_mul b a d ∙ ap (λ (k : ℕ). k - a * d) h ∙ ap (λ (k : ℕ). q * c - k) e ∙ sym (sub_mul q p c))

pub add_value : (f : Format) (x y : Float) (s t : Bool) (a c b d : ℕ) → 0 < c → 0 < d → HasValue x s a c → HasValue y t b d → add f x y ≡ sum f s (a * d) t (b * c) (c * d)
unfolding add
add_value f nan y s t a c b d C D v w = absurd v
add_value f (inf s') y s t a c b d C D v w = absurd v
add_value f (fin s' m e) nan s t a c b d C D v w = absurd w
add_value f (fin s' m e) (inf t') s t a c b d C D v w = absurd w
add_value f (fin s' m e) (fin t' n h) s t a c b d C D v w =
    ap (λ (z : Bool). sum f z (m * up e * down h) t' (n * up h * down e) (down e * down h)) v.0
    ∙ ap (λ (z : Bool). sum f s (m * up e * down h) z (n * up h * down e) (down e * down h)) w.0
    ∙ sum_same f s t (m * up e * down h) (n * up h * down e) (down e * down h) (a * d) (b * c) (c * d) (mul-pos (down_pos e) (down_pos h)) (mul-pos C D)
    (side (m * up e) (down h) c d a (down e) v.1)
    (ap (λ (z : ℕ). n * up h * down e * z) (mul_comm c d) ∙ side (n * up h) (down e) d c b (down h) w.1 ∙ ap (λ (z : ℕ). b * c * z) (mul_comm (down h) (down e)))
  where
    side : (x h c d a e : ℕ) → x * c ≡ a * e → x * h * (c * d) ≡ a * d * (e * h)
    side x h c d a e p = simp (mul_assoc, mul_comm, mul_left_comm) (simp (mul_assoc, mul_comm, mul_left_comm) at (ap (λ (z : ℕ). z * (h * d)) p))

pub neg_value : (x : Float) (s : Bool) (a c : ℕ) → HasValue x s a c → HasValue (neg x) (not s) a c
unfolding neg
neg_value nan s a c v = v
neg_value (inf t) s a c v = v
neg_value (fin t m e) s a c v = (ap not v.0, v.1)
