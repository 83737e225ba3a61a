-- Digits are written from the last to the first: what is to be there at the end stays the same with each digit written. Assumes nothing.
use Prim.Native.Nat.{ℕ, zero, suc, ◌+◌, ◌-◌, ◌/◌, ◌%◌, ◌<◌, ◌≤◌}
use mathlib.Core.List.{List, ◌∷◌, ◌++◌, append_assoc, append-nil}
use mathlib.Core.Path.{◌≡◌}
use native.Mathlib.Nat.{add-suc, add-zero}
use native.Mathlib.Omega.{arith}
use lib.ListN.{length, take, drop, set, take-append-drop}
use lib.Seq.{drop-cons, append_snoc, lt-length-set, get_or-set_same, drop-set-lt, take-set-le}
use Rattle.spelling.specs.Hex.{hex_byte, hex_bytes}

module _ (o : List ℕ) (k b : ℕ) (h : k < length o) where
  drop_set : drop k (set o k b) ≡ b ∷ drop (suc k) o
  drop_set = rw (drop-cons (set o k b) k 0 (lt-length-set o k b h), get_or-set_same o k b 0 h, drop-set-lt (suc k) o k b (omega arith))

-- what is to be there at the end is the same after one digit more is written
put_step : (o : List ℕ) (at j v : ℕ) → at + j < length o
    → take at o ++ hex_bytes (suc j) v ++ drop (at + suc j) o
    ≡ take at (set o (at + j) (hex_byte (v % 16))) ++ hex_bytes j (v / 16) ++ drop (at + j) (set o (at + j) (hex_byte (v % 16)))
unfolding hex_bytes
put_step o at j v h =
    rw (drop_set o (at + j) (hex_byte (v % 16)) h, take-set-le at o (at + j) (hex_byte (v % 16)) (omega arith), add-suc, ← append_assoc)
    (append_snoc (take at o ++ hex_bytes j (v / 16)) (hex_byte (v % 16)) (drop (suc (at + j)) o))

pub put_end : (o : List ℕ) (at v : ℕ) → take at o ++ hex_bytes 0 v ++ drop (at + 0) o ≡ o
unfolding hex_bytes
put_end o at v = rw (add-zero, append-nil) (take-append-drop at o)

pub put_turn : (o : List ℕ) (at i v : ℕ) → 0 < i → at + i ≤ length o
    → take at o ++ hex_bytes i v ++ drop (at + i) o
    ≡ take at (set o (at + (i - 1)) (hex_byte (v % 16))) ++ hex_bytes (i - 1) (v / 16) ++ drop (at + (i - 1)) (set o (at + (i - 1)) (hex_byte (v % 16)))
put_turn o at zero v p h = absurd (omega arith)
put_turn o at (suc j) v p h =
    let e : suc j - 1 ≡ j = omega arith in
    rw e (put_step o at j v (omega arith))
