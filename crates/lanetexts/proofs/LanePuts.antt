-- Lanes written one after another are the lanes' text written. Assumes nothing.
use Prim.Native.Nat.{ℕ, ◌+◌, ◌≤◌, ◌<◌}
use mathlib.Core.List.{List, [], ◌∷◌, ◌++◌}
use mathlib.Core.Path.{◌≡◌, sym}
use native.Mathlib.Numerals.{add-one}
use native.Mathlib.Omega.{arith}
use lib.ListN.{length, drop, get_or, length-append}
use lib.Seq.{drop-cons, drop-length}
use Rattle.buffers.specs.Memory.{put}
use Rattle.buffers.proofs.Puts.{put_put}
use Rattle.spelling.proofs.Texts.{length_hex}
use Rattle.spelling.specs.Write.{lanes_text}
use Rattle.spelling.specs.Hex.{hex_bytes}

-- lanes, one after another
lanes_step : (l : List ℕ) (k b w : ℕ) → k < length l
    → lanes_text b w (drop k l) ≡ (b ∷ hex_bytes w (get_or l k 0)) ++ lanes_text 44 w (drop (k + 1) l)
unfolding lanes_text
lanes_step l k b w h = rw (drop-cons l k 0 h, add-one)

pub lanes_end : (l : List ℕ) (k b w : ℕ) → k ≡ length l → lanes_text b w (drop k l) ≡ []
unfolding lanes_text
lanes_end l k b w e = rw (e, drop-length)

-- a lane written, as the loop has it
module _ (l : List ℕ) (k b w : ℕ) (h : k < length l) where
  pub lane_room : length (lanes_text b w (drop k l)) ≡ w + 1 + length (lanes_text 44 w (drop (k + 1) l))
  lane_room = rw (lanes_step l k b w h, length-append, length_hex) (omega arith)

  pub lane_put : (o : List ℕ) {o' : List ℕ} (at : ℕ) {a x : ℕ} → at + (w + 1) ≤ length o → x ≡ get_or l k 0 → o' ≡ put o at (b ∷ hex_bytes w x) → a ≡ at + (w + 1)
      → put o at (lanes_text b w (drop k l)) ≡ put o' a (lanes_text 44 w (drop (k + 1) l))
  lane_put o at r ex eo ea =
      let n : length (b ∷ hex_bytes w (get_or l k 0)) ≡ w + 1 = rw length_hex (sym (add-one w)) in
      rw (lanes_step l k b w h, eo, ex, ea, ← n) (sym (put_put o at (b ∷ hex_bytes w (get_or l k 0)) (omega arith) (lanes_text 44 w (drop (k + 1) l))))
