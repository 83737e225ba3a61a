-- Two lists of lanes, each lane by a function of it, are one exactly where they are so at each place. Assumes nothing.
use Prim.Native.Nat.{ℕ, ◌≤◌, ◌<◌}
use mathlib.Core.List.{List, map}
use mathlib.Core.Path.{◌≡◌, sym, ap, ◌∙◌}
use native.Mathlib.Omega.{arith}
use lib.ListN.{length, take, get_or, length-map, get_or-map}
use lib.Seq.{length-take-le, get_or-take, ext_get_or}

module _ (f : ℕ → ℕ) (n : ℕ) where
  at : (l : List ℕ) (i : ℕ) → i < n → get_or (map f (take n l)) i (f 0) ≡ f (get_or l i 0)
  at l i h = get_or-map f (take n l) i 0 ∙ ap f (get_or-take n l i 0 h)

  module _ (a b : List ℕ) where
    pub lane_same : map f (take n a) ≡ map f (take n b) → (i : ℕ) → i < n → f (get_or a i 0) ≡ f (get_or b i 0)
    lane_same e i h = sym (at a i h) ∙ ap (λ (l : List ℕ). get_or l i (f 0)) e ∙ at b i h

    pub lanes_same : n ≤ length a → n ≤ length b → ((i : ℕ) → i < n → f (get_or a i 0) ≡ f (get_or b i 0)) → map f (take n a) ≡ map f (take n b)
    lanes_same p q s =
        let m : (l : List ℕ) → n ≤ length l → length (map f (take n l)) ≡ n = λ l r. length-map (take n l) f ∙ length-take-le n l r in
        ext_get_or (f 0) _ _ (m a p ∙ sym (m b q)) (λ i h. let k : i < n = omega (arith, m a p) in at a i k ∙ s i k ∙ sym (at b i k))
