-- Bytes that spell digits, one more at a time, and the number that they spell: digits after others shift what those spell, and a lane's digits spell the lane. By induction on the bytes. Assumes nothing.
use Prim.Native.Nat.{ℕ, zero, suc, ◌+◌, ◌*◌, ◌/◌, ◌%◌, ◌<◌, ◌≤◌, ◌^◌}
use mathlib.Core.Bool.{true, ◌&&◌, and-true}
use mathlib.Core.List.{List, [], ◌∷◌, ◌++◌}
use mathlib.Core.Path.{◌≡◌, refl, ap, ◌∙◌}
use native.Mathlib.Nat.{add-zero, add-mul, mul_assoc, pow-succ', mod-lt}
use native.Mathlib.Omega.{arith}
use borrow.Author.Tests.{lt-ltb}
use lib.Dec.{ltb}
use lib.ListN.{length, take, drop, get_or, length-drop}
use lib.Seq.{get_or-drop, take-suc, take-add, drop-drop, length-take-le}
use Rattle.values.proofs.Bools.{every_append}
use Rattle.spelling.specs.Hex.{digit_of, digits_below, number, hex_byte, hex_bytes}
use Rattle.spelling.proofs.Hexes.{digit_byte, no_digits, hex_front, hex_none, digit_more}

-- a digit more, from i on
pub digits_more : (b : ℕ) (s : List ℕ) (i n : ℕ) → i + n < length s
    → digits_below b (take (suc n) (drop i s)) ≡ digits_below b (take n (drop i s)) && ltb (digit_of (get_or s (i + n) 0)) b
digits_more b s i n h = rw (take-suc (drop i s) n 0 (omega (arith, length-drop i s)), every_append, get_or-drop, and-true)

-- four of them
pub digits_four : (b : ℕ) (s : List ℕ) (i : ℕ) → i + 4 ≤ length s
    → digits_below b (take 4 (drop i s))
    ≡ ltb (digit_of (get_or s i 0)) b && ltb (digit_of (get_or s (i + 1) 0)) b && ltb (digit_of (get_or s (i + 2) 0)) b && ltb (digit_of (get_or s (i + 3) 0)) b
digits_four b s i h =
    rw (digits_more b s i 3 (omega arith), digits_more b s i 2 (omega arith), digits_more b s i 1 (omega arith), digits_more b s i 0 (omega arith), add-zero)

-- two parts of digits
pub digits_parts : (b : ℕ) (s : List ℕ) (i n m : ℕ)
    → digits_below b (take (n + m) (drop i s)) ≡ digits_below b (take n (drop i s)) && digits_below b (take m (drop (i + n) s))
digits_parts b s i n m = rw (take-add n m (drop i s), drop-drop n i s, every_append)

number_append : (v : ℕ) (xs ys : List ℕ) → number v (xs ++ ys) ≡ number (number v xs) ys
unfolding number
number_append v [] ys = refl
number_append v (x ∷ xs) ys = number_append (v * 16 + digit_of x) xs ys

-- a digit more, from i on
pub number_more : (s : List ℕ) (i n : ℕ) → i + n < length s → number 0 (take (suc n) (drop i s)) ≡ number 0 (take n (drop i s)) * 16 + digit_of (get_or s (i + n) 0)
unfolding number
number_more s i n h = rw (take-suc (drop i s) n 0 (omega (arith, length-drop i s)), number_append, get_or-drop)

-- four of them
pub number_four : (s : List ℕ) (i : ℕ) → i + 4 ≤ length s
    → number 0 (take 4 (drop i s)) ≡ digit_of (get_or s i 0) * 4096 + digit_of (get_or s (i + 1) 0) * 256 + digit_of (get_or s (i + 2) 0) * 16 + digit_of (get_or s (i + 3) 0)
unfolding number
number_four s i h =
    rw (number_more s i 3 (omega arith), number_more s i 2 (omega arith), number_more s i 1 (omega arith), number_more s i 0 (omega arith), add-zero) (omega arith)

-- what stands before, shifted
number_after : (v : ℕ) (xs : List ℕ) → number v xs ≡ v * 16 ^ length xs + number 0 xs
unfolding number
number_after v [] = omega arith
number_after v (x ∷ xs) =
    let d = digit_of x in
    number_after (v * 16 + d) xs ∙ rw (pow-succ', number_after (0 * 16 + d) xs, add-mul, mul_assoc) (omega arith)

-- two parts of digits
pub number_parts : (s : List ℕ) (i n m : ℕ) → i + n + m ≤ length s
    → number 0 (take (n + m) (drop i s)) ≡ number 0 (take n (drop i s)) * 16 ^ m + number 0 (take m (drop (i + n) s))
number_parts s i n m h =
    let l : length (take m (drop (i + n) s)) ≡ m = length-take-le m (drop (i + n) s) (omega (arith, length-drop (i + n) s)) in
    rw (take-add n m (drop i s), drop-drop n i s, number_append) (rw l at (number_after (number 0 (take n (drop i s))) (take m (drop (i + n) s))))

-- the digits of a lane, and the number that they spell
pub hex_below : (b d v : ℕ) → ((j : ℕ) → v / 16 ^ j % 16 < b) → digits_below b (hex_bytes d v) ≡ true
hex_below b zero v h = rw (hex_none v)
hex_below b (suc d) v h =
    let q = v / 16 ^ d % 16 in
    rw (hex_front d v, digit_byte q (mod-lt (v / 16 ^ d) (omega arith)), lt-ltb q b (h d)) (hex_below b d v h)

one_digit : (v x q : ℕ) (s : List ℕ) → digit_of x ≡ q → number v (x ∷ s) ≡ number (v * 16 + q) s
unfolding number
one_digit v x q s e = ap (λ (d : ℕ). number (v * 16 + d) s) e

pub hex_number : (d v : ℕ) → number (v / 16 ^ d) (hex_bytes d v) ≡ v
unfolding number
hex_number zero v = rw (hex_none v) (no_digits v)
hex_number (suc d) v =
    let q = v / 16 ^ d % 16 in
    rw (hex_front d v, one_digit (v / 16 ^ suc d) (hex_byte q) q (hex_bytes d v) (digit_byte q (mod-lt (v / 16 ^ d) (omega arith))), digit_more d v) (hex_number d v)
