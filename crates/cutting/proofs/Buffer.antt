-- Laws of what a buffer holds, moved to its start.
use Prim.Native.Nat.{ℕ, ◌+◌, ◌-◌, ◌<◌, ◌≤◌, min}
use mathlib.Core.List.{List, [], ◌++◌, append_assoc}
use mathlib.Core.Bool.{Bool, true, false}
use mathlib.Core.Path.{◌≡◌, refl, ap, sym, ◌∙◌}
use native.Mathlib.Nat.{min-le_right, min-eq_left, min-eq_right}
use native.Mathlib.Omega.{arith}
use lib.ListN.{length, take, drop, length-take, length-drop, drop_of_length-le}
use lib.Seq.{paste, take-length, length-take-le, take_all, take-add, take_at, drop_at, drop-append-le, take-append_seam}
use lib.Dec.{ltb}
use borrow.Author.Tests.{ltb-true, ltb-false}
use Rattle.buffers.specs.Memory.{put}
use Rattle.cutting.specs.Cutting.{held_of}

module _ (b : List ℕ) (at have : ℕ) where
  pub length_held : length (held_of b at have) ≡ min have (length b) - at
  unfolding held_of
  length_held = length-drop at (take have b) ∙ ap (λ (k : ℕ). k - at) (length-take have b)

  pub held_none : min have (length b) < at → held_of b at have ≡ []
  unfolding held_of
  held_none h = drop_of_length-le (take have b) {i = at} (omega (arith, length-take have b))

pub take_min : (b : List ℕ) (have : ℕ) → take (min have (length b)) b ≡ take have b
take_min b have = by (ltb have (length b)) refl
  where
    by : (t : Bool) → ltb have (length b) ≡ t → take (min have (length b)) b ≡ take have b
    by true e = rw (min-eq_left {n = have} {m = length b} (omega (arith, ltb-true have (length b) e)))
    by false e =
        let l = ltb-false have (length b) e in
        rw (min-eq_right {n = length b} {m = have} l, take-length b) (sym (take_all have b l))

module _ (b : List ℕ) (at have : ℕ) where
  drop_min : drop (min at (min have (length b))) (take have b) ≡ drop at (take have b)
  drop_min = by (ltb at (min have (length b))) refl
    where
      by : (t : Bool) → ltb at (min have (length b)) ≡ t → drop (min at (min have (length b))) (take have b) ≡ drop at (take have b)
      by true e = rw (min-eq_left {n = at} {m = min have (length b)} (omega (arith, ltb-true at (min have (length b)) e)))
      by false e =
          let l = ltb-false at (min have (length b)) e in
          rw (min-eq_right {n = min have (length b)} {m = at} l)
          (drop_of_length-le (take have b) {i = min have (length b)} (omega (arith, length-take have b))
          ∙ sym (drop_of_length-le (take have b) {i = at} (omega (arith, length-take have b))))

  -- what the code lends of the buffer is what it holds
  pub held_part : {start end : ℕ} → end ≡ min have (length b) → start ≡ min at end → take (end - start) (drop start b) ≡ held_of b at have
  unfolding held_of
  held_part {start} {end} e f =
      let s : start ≤ end = omega (arith, f, min-le_right at end) in
      let l : end ≤ length b = omega (arith, e, min-le_right have (length b)) in
      let k : end ≡ start + (end - start) = omega arith in
      sym (drop_at (take start b) (take (end - start) (drop start b)) start (length-take-le start b (omega arith)))
      ∙ ap (drop start) (sym (take-add start (end - start) b) ∙ ap (λ (i : ℕ). take i b) (sym k))
      ∙ rw (f, e) (ap (drop (min at (min have (length b)))) (take_min b have) ∙ drop_min)

-- what is moved to the start is what the buffer holds
pub held_pasted : (b : List ℕ) (at have : ℕ) {end : ℕ} → end ≡ min have (length b) → at ≤ end → paste b 0 (drop at b) (end - at) ≡ put b 0 (held_of b at have)
unfolding put
held_pasted b at have {end} e h =
    let p = held_part b at have {start = at} {end = end} e (omega arith) in
    let n : end - at ≡ length (held_of b at have) = omega (arith, length_held b at have) in
    rw (p, n)

-- What is read behind what is held: the bytes before it stay.
module _ (b : List ℕ) {at have : ℕ} (h : at ≤ have) where
  pub held_read : (next : List ℕ) (k : ℕ) → have ≤ length b → take have next ≡ take have b
      → held_of next at (have + k) ≡ held_of b at have ++ take k (drop have next)
  unfolding held_of
  held_read next k l e =
      rw (take-add have k next, e)
      (drop-append-le at (take have b) (take k (drop have next)) (omega (arith, h, length-take-le have b l)))

  -- bytes put behind what is held are held too
  pub held_put : (more : List ℕ) → have + length more ≤ length b → held_of (put b have more) at (have + length more) ≡ held_of b at have ++ more
  unfolding put
  held_put more l =
      let k : length (take have b) ≡ have = length-take-le have b (omega arith) in
      let p = append_assoc (take have b) more (drop (have + length more) b) in
      held_read (put b have more) (length more) (omega arith) (ap (take have) p ∙ take_at (take have b) _ have k)
      ∙ ap (λ (t : List ℕ). held_of b at have ++ take (length more) t) (ap (drop have) p ∙ drop_at (take have b) _ have k)
      ∙ ap (λ (t : List ℕ). held_of b at have ++ t) (take-append_seam more (drop (have + length more) b))
