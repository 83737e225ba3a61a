-- The counts of a lane's bits are the library's. The ones and the trailing zeros run down the same digits; for the leading zeros the digits are reversed, and a lane above 0
-- keeps its first 1 when the lowest digit is dropped. Assumes nothing.
use mathlib.Core.Path.{◌≡◌, refl, sym, ap, ◌∙◌, subst}
use Prim.Native.Nat.{ℕ, zero, suc, ◌+◌, ◌/◌, ◌%◌, ◌^◌, ◌<◌}
use native.Mathlib.Omega.{arith}
use native.Mathlib.Nat.{add-zero, zero-add}
use mathlib.Core.List.{List, [], ◌∷◌, reverse, reverse_aux}
use lib.Count as Count
use lib.Count.{ones_step, leading_of_zero}
use lib.Pow.{shr_lt}
use native.Mathlib.Numerals.{add-one}
use Rattle.numeric.specs.Numeric.{total, zeros_before, under}
use Rattle.numeric.specs.Parts.{parts}

half_lt : (k x : ℕ) → x < 2 ^ suc k → x / 2 < 2 ^ k
half_lt k x h = shr_lt k 1 (subst (λ (n : ℕ). x < 2 ^ n) (sym (add-one k)) h)

none : (x : ℕ) → x < 1 → 0 ≡ Count.ones x
none zero h = unfold Count.ones Count.ones_in in refl
none (suc x) h = absurd (omega arith)

pub ones_are : (k x : ℕ) → x < 2 ^ k → total (parts 1 k x) ≡ Count.ones x
ones_are zero x h = none x h
ones_are (suc k) x h = ap (λ (n : ℕ). x % 2 + n) (ones_are k (x / 2) (half_lt k x h)) ∙ sym (ones_step x)

zeros_all : (k : ℕ) (l : List ℕ) → zeros_before (reverse_aux (parts 1 k 0) l) ≡ k + zeros_before l
zeros_all zero l = sym (zero-add (zeros_before l))
zeros_all (suc k) l = zeros_all k (0 ∷ l) ∙ move k (zeros_before l)
  where
    move : (a b : ℕ) → a + suc b ≡ suc a + b
    move a b = omega arith

head_of : (k q r : ℕ) (l : List ℕ) → (q ≡ 0 → r ≡ 1) → ((m : ℕ) → suc m < 2 ^ k → (l : List ℕ) → zeros_before (reverse_aux (parts 1 k (suc m)) l) ≡ Count.count_leading_zeros k (suc m)) → q < 2 ^ k
    → zeros_before (reverse_aux (parts 1 k q) (r ∷ l)) ≡ Count.count_leading_zeros k q
head_of k zero r l e ih h = zeros_all k (r ∷ l) ∙ ap (λ (b : ℕ). k + under b (zeros_before l)) (e refl) ∙ add-zero k ∙ sym (leading_of_zero k)
head_of k (suc m) r l e ih h = ih m h (r ∷ l)

leading_from : (k n : ℕ) → suc n < 2 ^ k → (l : List ℕ) → zeros_before (reverse_aux (parts 1 k (suc n)) l) ≡ Count.count_leading_zeros k (suc n)
unfolding Count.count_leading_zeros
leading_from zero n h l = absurd (omega arith)
leading_from (suc k) n h l = head_of k (suc n / 2) (suc n % 2) l (lone n) (leading_from k) (half_lt k (suc n) h)
  where
    lone : (n : ℕ) → suc n / 2 ≡ 0 → suc n % 2 ≡ 1
    lone n e = omega arith

pub leading_are : (k x : ℕ) → x < 2 ^ k → zeros_before (reverse (parts 1 k x)) ≡ Count.count_leading_zeros k x
leading_are k zero h = zeros_all k [] ∙ add-zero k ∙ sym (leading_of_zero k)
leading_are k (suc n) h = leading_from k n h []

pub trailing_are : (k x : ℕ) → zeros_before (parts 1 k x) ≡ Count.count_trailing_zeros k x
unfolding Count.count_trailing_zeros
trailing_are zero x = refl
trailing_are (suc k) x = same_under (x % 2) (trailing_are k (x / 2))
  where
    same_under : (b : ℕ) {m n : ℕ} → m ≡ n → under b m ≡ Count.under b n
    same_under zero e = ap suc e
    same_under (suc b) e = refl
