-- How the program works on the lanes of a scalar or a vector: the first four, cut to 32 bits. No statement of what a call gives rests on this. Definitions only.
use Rattle.std.specs.Prelude.{ℕ, ◌%◌, ◌^◌, Bool, true, false, cond, List, [], ◌∷◌, ltb, get_or}
use Rattle.values.specs.declared.Kind.{Kind}
use Rattle.values.specs.declared.Kind.TheVariants.{Empty, One, Vec, Mat}

abbrev pub low : ℕ → ℕ
low x = x % 2 ^ 32

abbrev pub four : (ℕ → ℕ) → List ℕ → List ℕ
four f l = f (get_or l 0 0) ∷ f (get_or l 1 0) ∷ f (get_or l 2 0) ∷ f (get_or l 3 0) ∷ []

abbrev pub four2 : (ℕ → ℕ → ℕ) → List ℕ → List ℕ → List ℕ
four2 f l m = f (get_or l 0 0) (get_or m 0 0) ∷ f (get_or l 1 0) (get_or m 1 0) ∷ f (get_or l 2 0) (get_or m 2 0) ∷ f (get_or l 3 0) (get_or m 3 0) ∷ []

abbrev pub four3 : (ℕ → ℕ → ℕ → ℕ) → List ℕ → List ℕ → List ℕ → List ℕ
four3 f l m n =
    f (get_or l 0 0) (get_or m 0 0) (get_or n 0 0) ∷ f (get_or l 1 0) (get_or m 1 0) (get_or n 1 0)
    ∷ f (get_or l 2 0) (get_or m 2 0) (get_or n 2 0) ∷ f (get_or l 3 0) (get_or m 3 0) (get_or n 3 0) ∷ []

-- lane i where it is in use
abbrev pub kept : ℕ → ℕ → List ℕ → ℕ
kept i n l = cond (ltb i n) (get_or l i 0) 0

-- a scalar or a vector: four lanes hold it
abbrev pub is_lanes : Kind → Bool
is_lanes Empty = false
is_lanes (One s) = true
is_lanes (Vec n s) = true
is_lanes (Mat c r w) = false
