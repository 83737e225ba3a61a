-- Hexadecimal digits, the highest first: 01, "Lines": "upper-case hex: 8 digits, f16 4, bool 1". Definitions only.
use Rattle.std.specs.Prelude.{ℕ, zero, suc, ◌+◌, ◌*◌, ◌-◌, ◌/◌, ◌%◌, ◌<◌, Bool, cond, List, [], ◌∷◌, ◌++◌, ◌≡◌, ltb, leb, get_or}
use Rattle.values.specs.Value.{every}
use Rattle.values.specs.declared.Scalar.{Scalar}
use Rattle.values.specs.declared.Scalar.TheVariants.{Boolean, I32, U32, F32, F16}
use Rattle.buffers.specs.Text.{byte}

abbrev pub digit_count : Scalar → ℕ
digit_count Boolean = 1
digit_count I32 = 8
digit_count U32 = 8
digit_count F32 = 8
digit_count F16 = 4

-- 02, Q-2: "a wrong digit (a bool's above 1)": the first digit that a lane cannot have
abbrev pub digit_bound : Scalar → ℕ
digit_bound Boolean = 2
digit_bound I32 = 16
digit_bound U32 = 16
digit_bound F32 = 16
digit_bound F16 = 16

-- the digit that a byte spells, and 16 of a byte that spells none
abbrev pub digit_of : ℕ → ℕ
digit_of x =
    cond (ltb x (byte "0")) 16
    (cond (leb x (byte "9")) (x - byte "0")
    (cond (ltb x (byte "A")) 16
    (cond (leb x (byte "F")) (x - byte "A" + 10) 16)))

-- whether all bytes spell digits below b
abbrev pub digits_below : ℕ → List ℕ → Bool
digits_below b s = every (λ x. ltb (digit_of x) b) s

-- the number that digits spell after those that spell v
unfoldable pub number : ℕ → List ℕ → ℕ
number v [] = v
number v (x ∷ s) = number (v * 16 + digit_of x) s

-- a table of what f gives of each number below n
pub record Table (f : ℕ → ℕ) (n : ℕ) (t : List ℕ) : Type 0 where
  pub entry : (x : ℕ) → x < n → get_or t x 0 ≡ f x

-- a table of the digits that the bytes spell
abbrev pub DigitTable : List ℕ → Type 0
DigitTable t = Table digit_of 256 t

-- the byte that spells a digit
abbrev pub hex_byte : ℕ → ℕ
hex_byte d = cond (ltb d 10) (byte "0" + d) (byte "A" + (d - 10))

-- a table of the bytes that spell the digits
abbrev pub HexTable : List ℕ → Type 0
HexTable t = Table hex_byte 16 t

-- the low n digits of v
unfoldable pub hex_bytes : ℕ → ℕ → List ℕ
hex_bytes zero v = []
hex_bytes (suc n) v = hex_bytes n (v / 16) ++ (hex_byte (v % 16) ∷ [])
