-- Calls on one line: 02, Q-8, "A line that holds an opening round bracket is one call: a name and, in round brackets, one or more arguments parted by semicolons,
-- each a value spelling, a call, or for bitcast's first a type." Definitions only.
use Rattle.std.specs.Prelude.{ℕ, ◌+◌, max, Bool, true, false, not, ◌&&◌, ◌||◌, List, [], ◌∷◌, ◌++◌, ◌≡◌, leb, ltb, eqb, length}
use Rattle.values.specs.Value.{every}
use Rattle.buffers.specs.Text.{byte, same_bytes, place_of}
use Rattle.calls.specs.declared.Builtin.TheVariants.{Bitcast}
use Rattle.names.specs.Names.{name_of}
use Rattle.fields.specs.Fields.{tab}

-- "A line that holds an opening round bracket"
abbrev pub is_nested : List ℕ → Bool
is_nested l = ltb (place_of (byte "(") l) (length l)

-- "a name and .. one or more arguments .., each a value spelling, a call, or .. a type": an argument, and arguments
mutual
  pub data Tree : Type 0 where
    spelling : List ℕ → Tree
    call : List ℕ → Trees → Tree

  pub data Trees : Type 0 where
    last : Tree → Trees
    next : Tree → Trees → Trees

-- "in round brackets, .. parted by semicolons": the text, that of arguments with the bracket that closes them
unfoldable mutual
  pub text : Tree → List ℕ
  text (spelling w) = w
  text (call w a) = w ++ byte "(" ∷ texts a

  pub texts : Trees → List ℕ
  texts (last t) = text t ++ byte ")" ∷ []
  texts (next t a) = text t ++ byte ";" ∷ texts a

abbrev pub one_or_more : (ℕ → Bool) → List ℕ → Bool
one_or_more p [] = false
one_or_more p (x ∷ xs) = every p (x ∷ xs)

abbrev pub between : ℕ → ℕ → ℕ → Bool
between a b x = leb a x && leb x b

-- "A name is one or more letters and digits", those of ASCII
unfoldable pub letter_or_digit : ℕ → Bool
letter_or_digit x = between (byte "0") (byte "9") x || between (byte "A") (byte "Z") x || between (byte "a") (byte "z") x

unfoldable pub is_name : List ℕ → Bool
is_name w = one_or_more letter_or_digit w

-- "and a spelling one or more bytes other than tab, semicolon and round brackets"
unfoldable pub plain : ℕ → Bool
plain x = not (eqb x tab) && not (eqb x (byte ";")) && not (eqb x (byte "(")) && not (eqb x (byte ")"))

unfoldable pub is_spelling : List ℕ → Bool
is_spelling w = one_or_more plain w

unfoldable pub is_bitcast : List ℕ → Bool
is_bitcast w = same_bytes (name_of Bitcast) w

-- what is asked of an argument, where `first` says that it is a bitcast's first: "A bitcast's first is always a type spelling."
unfoldable mutual
  pub Formed : Tree → Bool → Type 0
  Formed (spelling w) first = is_spelling w ≡ true
  Formed (call w a) first = (first ≡ false) × (is_name w ≡ true) × Formeds a (is_bitcast w)

  pub Formeds : Trees → Bool → Type 0
  Formeds (last t) first = Formed t first
  Formeds (next t a) first = Formed t first × Formeds a false

abbrev pub is_call : Tree → Bool
is_call (spelling w) = false
is_call (call w a) = true

-- "A line .. is one call", and nothing stands before or after it
pub record Line (l : List ℕ) (t : Tree) : Type 0 where
  pub one : is_call t ≡ true
  pub formed : Formed t false
  pub whole : l ≡ text t

-- "the outermost is depth 1"
unfoldable mutual
  pub depth : Tree → ℕ
  depth (spelling w) = 0
  depth (call w a) = depths a + 1

  pub depths : Trees → ℕ
  depths (last t) = depth t
  depths (next t a) = max (depth t) (depths a)
