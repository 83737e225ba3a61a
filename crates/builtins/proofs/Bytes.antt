-- Lanes as bytes and back, over the bytes of a lane: parts of a number joined are the number, and joined parts parted are the parts. A lane of four bytes has the bytes of its halves. Assumes nothing.
use Prim.Native.Nat.{ℕ, zero, suc, ◌+◌, ◌*◌, ◌/◌, ◌%◌, ◌^◌, ◌<◌}
use mathlib.Core.Bool.{Bool, true}
use mathlib.Core.List.{List, [], ◌∷◌, ◌++◌}
use mathlib.Core.Path.{◌≡◌, refl, ap, ◌∙◌}
use native.Mathlib.Nat.{div-div-eq-div-mul}
use native.Mathlib.Omega.{arith}
use borrow.Author.Tests.{ltb-true, lt-ltb}
use lib.Dec.{ltb}
use lib.ListN.{length}
use lib.Seq.{take_at, drop_at}
use Rattle.values.specs.Value.{every}
use Rattle.values.proofs.Bools.{both, and}
use Rattle.numeric.specs.Parts.{parts}
use Rattle.builtins.specs.Bitcast.{bytes_of, of_bytes}
use Rattle.builtins.proofs.Parts.{joined_parts, length_parts}

abbrev pub below : ℕ → List ℕ → Bool
below b xs = every (λ x. ltb x b) xs

pub lanes_again : (k n : ℕ) (xs : List ℕ) → length xs ≡ n → below (2 ^ (k * 8)) xs ≡ true → of_bytes k n (bytes_of k xs) ≡ xs
lanes_again k zero [] e t = refl
lanes_again k zero (x ∷ xs) e t = absurd (omega arith)
lanes_again k (suc n) [] e t = absurd (omega arith)
lanes_again k (suc n) (x ∷ xs) e t =
    let ts = both (ltb x (2 ^ (k * 8))) (below (2 ^ (k * 8)) xs) t in
    let p = parts 8 k x in
    let r = bytes_of k xs in
    let l = length_parts 8 k x in
    rw (take_at p r k l, drop_at p r k l, joined_parts 8 k x (ltb-true x (2 ^ (k * 8)) ts.0), lanes_again k n xs (omega arith) ts.1)

-- ---- halves

abbrev pub halves : List ℕ → List ℕ
halves [] = []
halves (x ∷ xs) = x % 2 ^ 16 ∷ x / 2 ^ 16 ∷ halves xs

last_byte : (q m : ℕ) → (q * 256 + m) % 256 ≡ m % 256
last_byte q m = omega arith

wide_lane : (x : ℕ) → parts 8 4 x ≡ parts 8 2 (x % 2 ^ 16) ++ parts 8 2 (x / 2 ^ 16)
wide_lane x =
    let a : x % 256 ≡ x % 65536 % 256 = omega arith in
    let split : x / 256 ≡ x / 65536 * 256 + x % 65536 / 256 = omega arith in
    let b : x / 256 % 256 ≡ x % 65536 / 256 % 256 = ap (λ (y : ℕ). y % 256) split ∙ last_byte (x / 65536) (x % 65536 / 256) in
    let high : x / 256 / 256 ≡ x / 65536 = div-div-eq-div-mul x 256 256 in
    let c : x / 256 / 256 % 256 ≡ x / 65536 % 256 = rw high in
    let d : x / 256 / 256 / 256 % 256 ≡ x / 65536 / 256 % 256 = rw high in
    cc

wide_bytes : (xs : List ℕ) → bytes_of 4 xs ≡ bytes_of 2 (halves xs)
wide_bytes [] = refl
wide_bytes (x ∷ xs) =
    ap (λ (l : List ℕ). l ++ bytes_of 4 xs) (wide_lane x)
    ∙ ap (λ (l : List ℕ). parts 8 2 (x % 2 ^ 16) ++ (parts 8 2 (x / 2 ^ 16) ++ l)) (wide_bytes xs)

halves_below : (xs : List ℕ) → below (2 ^ 32) xs ≡ true → below (2 ^ 16) (halves xs) ≡ true
halves_below [] t = refl
halves_below (x ∷ xs) t =
    let ts = both (ltb x (2 ^ 32)) (below (2 ^ 32) xs) t in
    let h : x < 4294967296 = ltb-true x (2 ^ 32) ts.0 in
    and (lt-ltb (x % 2 ^ 16) (2 ^ 16) (omega arith)) (and (lt-ltb (x / 2 ^ 16) (2 ^ 16) (omega arith)) (halves_below xs ts.1))

pub to_halves : (n : ℕ) (xs : List ℕ) → length (halves xs) ≡ n → below (2 ^ 32) xs ≡ true → of_bytes 2 n (bytes_of 4 xs) ≡ halves xs
to_halves n xs e t = ap (of_bytes 2 n) (wide_bytes xs) ∙ lanes_again 2 n (halves xs) e (halves_below xs t)

pub of_halves : (n : ℕ) (ys : List ℕ) → length ys ≡ n → below (2 ^ 32) ys ≡ true → of_bytes 4 n (bytes_of 2 (halves ys)) ≡ ys
of_halves n ys e t = rw (← wide_bytes ys) (lanes_again 4 n ys e t)
