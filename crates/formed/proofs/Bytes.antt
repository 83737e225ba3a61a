-- Lanes as bytes and back, over the bytes of a lane: as many bytes as the lanes have, each below 256, and lanes made of bytes have them as their bytes. Assumes nothing.
use Prim.Native.Nat.{ℕ, zero, suc, ◌+◌, ◌*◌, ◌/◌, ◌%◌, ◌^◌, ◌<◌}
use mathlib.Core.Bool.{true}
use mathlib.Core.List.{List, [], ◌∷◌}
use mathlib.Core.Path.{◌≡◌, refl, sym, ap, subst, ◌∙◌}
use native.Mathlib.Nat.{zero-mul, suc-mul, mod-lt}
use native.Mathlib.Omega.{arith}
use borrow.Author.Tests.{ltb-true, lt-ltb}
use lib.Dec.{ltb}
use lib.ListN.{length, take, drop, length-append, length-take, length-drop, take-append-drop}
use lib.Pow.{pow_pos}
use Rattle.values.proofs.Bools.{both, and, every_append, every_both}
use Rattle.numeric.specs.Parts.{parts, joined}
use Rattle.builtins.specs.Bitcast.{bytes_of, of_bytes}
use Rattle.builtins.proofs.Parts.{length_parts, lowest, others}
use Rattle.builtins.proofs.Bytes.{below}

pub below_split : (b n : ℕ) (xs : List ℕ) → below b xs ≡ true → (below b (take n xs) ≡ true) × (below b (drop n xs) ≡ true)
below_split b n xs t = both (below b (take n xs)) (below b (drop n xs)) (sym (every_append _ (take n xs) (drop n xs)) ∙ rw (take-append-drop n xs) t)

-- ---- a lane

parts_below : (w n x : ℕ) → below (2 ^ w) (parts w n x) ≡ true
parts_below w zero x = refl
parts_below w (suc n) x = and (lt-ltb (x % 2 ^ w) (2 ^ w) (mod-lt x (pow_pos w))) (parts_below w n (x / 2 ^ w))

pub parts_joined : (w : ℕ) (bs : List ℕ) → below (2 ^ w) bs ≡ true → parts w (length bs) (joined w bs) ≡ bs
parts_joined w [] t = refl
parts_joined w (b ∷ bs) t =
    let ts = both (ltb b (2 ^ w)) (below (2 ^ w) bs) t in
    let j = joined w bs in
    let h : b < 2 ^ w = ltb-true b (2 ^ w) ts.0 in
    rw (lowest w j h, others w j h, parts_joined w bs ts.1)

pub bytes_length : (k : ℕ) (xs : List ℕ) → length (bytes_of k xs) ≡ length xs * k
bytes_length k [] = ap (λ (z : ℕ). z) (rw (zero-mul k))
bytes_length k (x ∷ xs) = rw (length-append (parts 8 k x) (bytes_of k xs), length_parts 8 k x, bytes_length k xs, suc-mul (length xs) k) (omega arith)

pub bytes_below : (k : ℕ) (xs : List ℕ) → below (2 ^ 8) (bytes_of k xs) ≡ true
bytes_below k [] = refl
bytes_below k (x ∷ xs) = every_both _ (parts 8 k x) (bytes_of k xs) (parts_below 8 k x) (bytes_below k xs)

pub lanes_length : (k n : ℕ) (bs : List ℕ) → length (of_bytes k n bs) ≡ n
lanes_length k zero bs = refl
lanes_length k (suc n) bs = ap suc (lanes_length k n (drop k bs))

empty : (bs : List ℕ) → length bs ≡ 0 → [] ≡ bs
empty [] e = refl
empty (b ∷ bs) e = absurd (omega arith)

pub bytes_again : (k n : ℕ) (bs : List ℕ) → length bs ≡ n * k → below (2 ^ 8) bs ≡ true → bytes_of k (of_bytes k n bs) ≡ bs
bytes_again k zero bs e t = empty bs (e ∙ zero-mul k)
bytes_again k (suc n) bs e t =
    let s = below_split (2 ^ 8) k bs t in
    let total : length bs ≡ n * k + k = e ∙ suc-mul n k in
    let split = ap length (take-append-drop k bs) in
    let first : length (take k bs) ≡ k = simp length-take (omega arith) in
    let rest : length (drop k bs) ≡ n * k = simp length-drop (omega arith) in
    let lane : parts 8 k (joined 8 (take k bs)) ≡ take k bs = subst (λ (m : ℕ). parts 8 m (joined 8 (take k bs)) ≡ take k bs) first (parts_joined 8 (take k bs) s.0) in
    rw (lane, bytes_again k n (drop k bs) rest s.1) (take-append-drop k bs)
