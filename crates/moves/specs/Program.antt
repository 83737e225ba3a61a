-- How the program moves lanes: casts on four lanes of 32 bits, and matrices as columns. No statement of what a call gives rests on this. Definitions only.
use Rattle.std.specs.Prelude.{ℕ, ◌+◌, ◌*◌, ◌/◌, ◌%◌, ◌^◌, Bool, true, false, List, [], ◌∷◌, get_or}
use Rattle.values.specs.declared.Kind.{Kind}
use Rattle.values.specs.declared.Kind.TheVariants.{Empty, One, Vec, Mat}
use Rattle.values.specs.Value.{size_of}

-- ---- casts: lanes of 32 bits into their halves, and back

-- the low half stands first
abbrev pub halved : List ℕ → List ℕ
halved l = get_or l 0 0 % 2 ^ 16 ∷ get_or l 0 0 / 2 ^ 16 ∷ get_or l 1 0 % 2 ^ 16 ∷ get_or l 1 0 / 2 ^ 16 ∷ []

abbrev pub paired_lane : ℕ → ℕ → ℕ
paired_lane x y = x % 2 ^ 16 + 2 ^ 16 * (y % 2 ^ 16)

abbrev pub paired : List ℕ → List ℕ
paired l = paired_lane (get_or l 0 0) (get_or l 1 0) ∷ paired_lane (get_or l 2 0) (get_or l 3 0) ∷ 0 ∷ 0 ∷ []

-- from lanes of 16 bits, or of 32; to lanes of 16 bits, or of 32
abbrev pub recast : Bool → Bool → List ℕ → List ℕ
recast true true l = l
recast true false l = paired l
recast false true l = halved l
recast false false l = l

-- ---- matrices

abbrev pub columns_of : Kind → ℕ
columns_of Empty = 0
columns_of (One s) = 0
columns_of (Vec n s) = 0
columns_of (Mat c r w) = size_of c

abbrev pub rows_of : Kind → ℕ
rows_of Empty = 0
rows_of (One s) = 0
rows_of (Vec n s) = 0
rows_of (Mat c r w) = size_of r

-- with rows and columns swapped
abbrev pub turned_kind : Kind → Kind
turned_kind Empty = Empty
turned_kind (One s) = One s
turned_kind (Vec n s) = Vec n s
turned_kind (Mat c r w) = Mat r c w

-- four columns of four lanes, of which a matrix of fewer rows or columns uses the first: from the words of a call
abbrev pub column : List ℕ → ℕ → List ℕ
column w i = get_or w i 0 ∷ get_or w (i + 1) 0 ∷ get_or w (i + 2) 0 ∷ get_or w (i + 3) 0 ∷ []

-- of n rows
abbrev pub columns : ℕ → List ℕ → List (List ℕ)
columns n w = column w 4 ∷ column w (4 + n) ∷ column w (4 + 2 * n) ∷ column w (4 + 3 * n) ∷ []

-- the lane at column c, row r
abbrev pub at : List (List ℕ) → ℕ → ℕ → ℕ
at m c r = get_or (get_or m c []) r 0

abbrev pub row : List (List ℕ) → ℕ → List ℕ
row m r = at m 0 r ∷ at m 1 r ∷ at m 2 r ∷ at m 3 r ∷ []

abbrev pub turned : List (List ℕ) → List (List ℕ)
turned m = row m 0 ∷ row m 1 ∷ row m 2 ∷ row m 3 ∷ []
