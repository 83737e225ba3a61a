-- How the program finds the type that a text starts with, by its bytes; what stands past the end of a text is 0, which no spelling has. Program-shaped: no statement of what is read rests on this. Definitions only.
use Rattle.std.specs.Prelude.{ℕ, ◌+◌, ◌*◌, Bool, not, cond, ◌&&◌, List, [], ◌∷◌, eqb, ltb, get_or}
use Rattle.buffers.specs.Text.{byte}

-- its first eleven bytes: no type's spelling is longer
abbrev pub first_bytes : List ℕ → List ℕ
first_bytes t =
    get_or t 0 0 ∷ get_or t 1 0 ∷ get_or t 2 0 ∷ get_or t 3 0 ∷ get_or t 4 0 ∷ get_or t 5 0 ∷ get_or t 6 0 ∷ get_or t 7 0 ∷ get_or t 8 0 ∷ get_or t 9 0 ∷ get_or t 10 0 ∷ []

-- the place of the scalar that four bytes spell, or the first three, 0 of none
unfoldable pub scalar_by : ℕ → ℕ → ℕ → ℕ → ℕ
scalar_by x y z w =
    cond (eqb x (byte "b") && (eqb y (byte "o") && (eqb z (byte "o") && eqb w (byte "l")))) 1
    (cond (eqb x (byte "i") && (eqb y (byte "3") && eqb z (byte "2"))) 2
    (cond (eqb x (byte "u") && (eqb y (byte "3") && eqb z (byte "2"))) 3
    (cond (eqb x (byte "f") && (eqb y (byte "3") && eqb z (byte "2"))) 4
    (cond (eqb x (byte "f") && (eqb y (byte "1") && eqb z (byte "6"))) 5 0))))

-- how many bytes spell it
abbrev pub scalar_width : ℕ → ℕ
scalar_width p = cond (eqb p 1) 4 3

-- a size less 1 of the byte that spells it, 0 of none
unfoldable pub size_by : ℕ → ℕ
size_by x = cond (eqb x (byte "2")) 1 (cond (eqb x (byte "3")) 2 (cond (eqb x (byte "4")) 3 0))

-- the place of the vector that a text spells after its first byte, 0 of none, where n is its size and p its scalar
abbrev pub vector_tests : List ℕ → (n p : ℕ) → Bool
vector_tests t n p =
    eqb (get_or t 1 0) (byte "e") && eqb (get_or t 2 0) (byte "c") && eqb (get_or t 4 0) (byte "<") && not (eqb n 0) && not (eqb p 0)
    && eqb (get_or t (scalar_width p + 5) 0) (byte ">")

abbrev pub vector_by : List ℕ → (n p : ℕ) → ℕ
vector_by t n p = cond (vector_tests t n p) (5 * n + p) 0

abbrev pub vector_from : List ℕ → ℕ
vector_from t = vector_by t (size_by (get_or t 3 0)) (scalar_by (get_or t 5 0) (get_or t 6 0) (get_or t 7 0) (get_or t 8 0))

-- and of the matrix, where c and r are its sizes and p its scalar
abbrev pub matrix_tests : List ℕ → (c r p : ℕ) → Bool
matrix_tests t c r p =
    eqb (get_or t 1 0) (byte "a") && eqb (get_or t 2 0) (byte "t") && eqb (get_or t 4 0) (byte "x") && eqb (get_or t 6 0) (byte "<") && not (eqb c 0) && not (eqb r 0)
    && ltb 3 p && eqb (get_or t 10 0) (byte ">")

abbrev pub matrix_by : List ℕ → (c r p : ℕ) → ℕ
matrix_by t c r p = cond (matrix_tests t c r p) (17 + cond (eqb p 5) 9 0 + 3 * c + r) 0

abbrev pub matrix_from : List ℕ → ℕ
matrix_from t = matrix_by t (size_by (get_or t 3 0)) (size_by (get_or t 5 0)) (scalar_by (get_or t 7 0) (get_or t 8 0) (get_or t 9 0) (get_or t 10 0))

-- the place of the type that a text starts with, 0 of none
unfoldable pub type_from : List ℕ → ℕ
type_from t =
    cond (eqb (get_or t 0 0) (byte "v")) (vector_from t)
    (cond (eqb (get_or t 0 0) (byte "m")) (matrix_from t)
    (scalar_by (get_or t 0 0) (get_or t 1 0) (get_or t 2 0) (get_or t 3 0)))
