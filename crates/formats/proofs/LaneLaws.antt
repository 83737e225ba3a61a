-- What packing and unpacking do to one lane, for each format in each reading: of the norm lanes it is norm's and exact's, of the half lanes half's, and of the integer lanes
-- arithmetic. Assumes nothing.
use Prim.Native.Nat.{ℕ, ◌+◌, ◌-◌, ◌^◌, ◌≤◌, ◌<◌}
use mathlib.Core.Bool.{Bool, true, false, cond}
use mathlib.Core.Path.{◌≡◌, refl, ap, sym, ◌∙◌}
use native.Mathlib.Nat.{mod-lt, mod-eq_of_lt}
use native.Mathlib.Omega.{arith}
use borrow.Author.Tests.{ne_eqb, lt-ltb, le-ltb, ltb-true, ltb-false}
use lib.Dec.{ltb}
use lib.Pow.{pow_pos}
use Rattle.readings.specs.declared.Reading.{Reading}
use Rattle.readings.specs.declared.Reading.TheVariants as In
use Rattle.half.specs.Format.{f16, f32, nan, is_nan}
use Rattle.half.specs.Convert.{half_of, single_of}
use Rattle.half.proofs.Conversion.{number_kept}
use Rattle.half.proofs.Half.{half_nan, half_below}
use Rattle.half.proofs.Single.{single_nan, single_below, half_back, half_back_nan}
use Rattle.norm.specs.Norm.{unpacked_norm, normal_code}
use Rattle.norm.proofs.Lanes.{unpacks_as_normal}
use Rattle.norm.proofs.Trip.{trip, unpacked_below}
use Rattle.exact.specs.Exact.{norm_code}
use Rattle.exact.proofs.Trip.{exact_trip}
use Rattle.packing.specs.Lanes.{low_byte, extended, plain, clamped_i8, code_u8}
use Rattle.packing.proofs.Codes.{code_normal}
use Rattle.formats.specs.Formats.{Format, x8snorm, x8unorm, x_i8, x_u8, x_i8_clamp, x_u8_clamp, x16snorm, x16unorm, x16float, normal_half}

-- words of `count` lanes of `width` bits: the code of a lane, the lane of a code, the normal form of a code
pub record Coding : Type 0 where
  pub width : ℕ
  pub count : ℕ
  pub code : ℕ → ℕ
  pub lane : ℕ → ℕ
  pub normal : ℕ → ℕ

abbrev norms : Reading → Bool → ℕ → ℕ → Coding
norms r g w n = record { width = w; count = n; code = norm_code r g w; lane = unpacked_norm g w; normal = normal_code g w }

abbrev bytes : (ℕ → ℕ) → (ℕ → ℕ) → Coding
bytes code lane = record { width = 8; count = 4; code = code; lane = lane; normal = plain }

abbrev pub coding : Reading → Format → Coding
coding r x8snorm = norms r true 8 4
coding r x8unorm = norms r false 8 4
coding r x_i8 = bytes low_byte extended
coding r x_u8 = bytes low_byte plain
coding r x_i8_clamp = bytes clamped_i8 extended
coding r x_u8_clamp = bytes (code_u8 r) plain
coding r x16snorm = norms r true 16 2
coding r x16unorm = norms r false 16 2
coding r x16float = record { width = 16; count = 2; code = half_of; lane = single_of; normal = normal_half }

pub record Laws (t : Coding) : Type 0 where
  -- a lane made of a code has 32 bits, its code is the normal one, and the normal code has the same lane
  pub narrow : (c : ℕ) → c < 2 ^ t.width → t.lane c < 2 ^ 32
  pub back : (c : ℕ) → c < 2 ^ t.width → t.code (t.lane c) ≡ t.normal c
  pub alike : (c : ℕ) → c < 2 ^ t.width → t.lane (t.normal c) ≡ t.lane c
  -- the code of any lane is a code, and normal
  pub below : (x : ℕ) → t.code x < 2 ^ t.width
  pub own : (x : ℕ) → t.normal (t.code x) ≡ t.code x
  pub nought : t.normal 0 ≡ 0

norm_laws : (r : Reading) (g : Bool) (w n : ℕ) → 3 ≤ w → w ≤ 16 → Laws (norms r g w n)
norm_laws r g w n lo hi =
    record {
      narrow = λ c h. unpacked_below g w c;
      back = back r;
      alike = λ c h. unpacks_as_normal w lo hi g c;
      below = λ x. (code_normal r g w x (omega arith) hi).below;
      own = λ x. (code_normal r g w x (omega arith) hi).own;
      nought = nought g;
    }
  where
    back : (r : Reading) (c : ℕ) → c < 2 ^ w → norm_code r g w (unpacked_norm g w c) ≡ normal_code g w c
    back In.Crate c h = trip g w lo hi c h
    back In.Text c h = exact_trip g w lo hi c h

    nought : (g : Bool) → normal_code g w 0 ≡ 0
    nought false = refl
    nought true = rw (ne_eqb 0 (2 ^ (w - 1)) (λ e. omega (arith, pow_pos (w - 1))))

-- the code of a lane made of a byte is the byte
byte_laws : (code lane : ℕ → ℕ) → ((c : ℕ) → c < 2 ^ 8 → (lane c < 2 ^ 32) × (code (lane c) ≡ c)) → ((x : ℕ) → code x < 2 ^ 8) → Laws (bytes code lane)
byte_laws code lane h b = record { narrow = λ c l. (h c l).0; back = λ c l. (h c l).1; alike = λ c l. refl; below = b; own = λ x. refl; nought = refl }

low_below : (x : ℕ) → low_byte x < 2 ^ 8
low_below x = mod-lt x (pow_pos 8)

signed_laws : Laws (bytes low_byte extended)
signed_laws = byte_laws low_byte extended (λ c h. back c (ltb c 0x80) h) low_below
  where
    back : (c : ℕ) (b : Bool) → c < 2 ^ 8 → (cond b c (0xffff_ff00 + c) < 2 ^ 32) × (low_byte (cond b c (0xffff_ff00 + c)) ≡ c)
    back c true h = (omega arith, omega arith)
    back c false h = (omega arith, omega arith)

unsigned_laws : Laws (bytes low_byte plain)
unsigned_laws = byte_laws low_byte plain (λ c h. (omega arith, mod-eq_of_lt h)) low_below

-- a byte, extended, is within the range that is clamped to
clamped_signed_laws : Laws (bytes clamped_i8 extended)
clamped_signed_laws = byte_laws clamped_i8 extended (λ c h. back c (ltb c 0x80) h refl) (λ x. low_below _)
  where
    back : (c : ℕ) (b : Bool) → c < 2 ^ 8 → ltb c 0x80 ≡ b → (cond b c (0xffff_ff00 + c) < 2 ^ 32) × (clamped_i8 (cond b c (0xffff_ff00 + c)) ≡ c)
    back c true h e = (omega arith, rw (lt-ltb c (2 ^ 31) (omega arith)) (omega (arith, ltb-true c 0x80 e)))
    back c false h e = (omega arith, rw (le-ltb (0xffff_ff00 + c) (2 ^ 31) (omega arith)) (omega (arith, ltb-false c 0x80 e)))

clamped_unsigned_laws : (r : Reading) → Laws (bytes (code_u8 r) plain)
clamped_unsigned_laws In.Crate = unsigned_laws
clamped_unsigned_laws In.Text = byte_laws (code_u8 In.Text) plain (λ c h. (omega arith, omega arith)) (λ x. omega arith)

half_laws : (r : Reading) → Laws (coding r x16float)
half_laws r = record { narrow = λ c h. single_below c; back = λ c h. back c h (is_nan f16 c) refl; alike = λ c h. alike c (is_nan f16 c) refl; below = half_below; own = λ x. own x (is_nan f32 x) refl; nought = refl }
  where
    back : (c : ℕ) → c < 2 ^ 16 → (b : Bool) → is_nan f16 c ≡ b → half_of (single_of c) ≡ cond b (nan f16) c
    back c h true e = half_back_nan c e
    back c h false e = half_back c h e

    alike : (c : ℕ) (b : Bool) → is_nan f16 c ≡ b → single_of (cond b (nan f16) c) ≡ single_of c
    alike c true e = single_nan (nan f16) refl ∙ sym (single_nan c e)
    alike c false e = refl

    own : (x : ℕ) (b : Bool) → is_nan f32 x ≡ b → normal_half (half_of x) ≡ half_of x
    own x true e = ap normal_half (half_nan x e) ∙ sym (half_nan x e)
    own x false e = ap (λ (b : Bool). cond b (nan f16) (half_of x)) (number_kept f32 f16 x e)

pub laws : (r : Reading) (f : Format) → Laws (coding r f)
laws r x8snorm = norm_laws r true 8 4 (omega arith) (omega arith)
laws r x8unorm = norm_laws r false 8 4 (omega arith) (omega arith)
laws r x_i8 = signed_laws
laws r x_u8 = unsigned_laws
laws r x_i8_clamp = clamped_signed_laws
laws r x_u8_clamp = clamped_unsigned_laws r
laws r x16snorm = norm_laws r true 16 2 (omega arith) (omega arith)
laws r x16unorm = norm_laws r false 16 2 (omega arith) (omega arith)
laws r x16float = half_laws r
