-- No loss's number is above 2, and so is the largest of several. Assumes nothing.
use Prim.Native.Nat.{ℕ, ◌≤◌}
use mathlib.Core.List.{List, [], ◌∷◌, map}
use native.Mathlib.Omega.{arith}
use Rattle.losses.specs.declared.Loss.{Loss}
use Rattle.losses.specs.declared.Loss.TheVariants.{Exact, Rounded, Overflowed}
use Rattle.losses.specs.Losses.{loss_number, largest}

pub number_most : (l : Loss) → loss_number l ≤ 2
number_most Exact = omega arith
number_most Rounded = omega arith
number_most Overflowed = omega arith

pub largest_most : (m : ℕ) (f : ℕ → ℕ) → ((x : ℕ) → f x ≤ m) → (xs : List ℕ) → largest (map f xs) ≤ m
largest_most m f h [] = omega arith
largest_most m f h (x ∷ xs) = omega (arith, h x, largest_most m f h xs)
