-- How the program works a call of words out: on the first four lanes, cut to 32 bits, and on types by their places, of which 1 to 20 are the scalars' and the vectors'. No statement of what a call gives rests on this. Definitions only.
use Rattle.std.specs.Prelude.{ℕ, ◌-◌, min, Bool, true, false, not, cond, List, [], ◌∷◌, ◌++◌, map, eqb, take, get_or}
use Rattle.readings.specs.declared.Reading.{Reading}
use Rattle.values.specs.declared.Scalar.{Scalar}
use Rattle.values.specs.declared.Scalar.TheVariants.{Boolean, I32, U32, F32, F16}
use Rattle.values.specs.declared.Kind.TheVariants.{One}
use Rattle.values.specs.declared.Value.{Value}
use Rattle.values.specs.Value.{scalar_of, lane_count, shaped, place, kind_at, same_kind, lane, flag, every}
use Rattle.values.specs.Program.{low, four, four2, four3}
use Rattle.numeric.specs.Numeric.{abs_lane, sign_lane, leading_lane, ones_lane, trailing_lane}
use Rattle.limits.specs.Limits.{min_lane, max_lane, clamp_lane, saturate_lane, step_lane}
use Rattle.products.specs.Products.{cross_lane, dot_lane}
use Rattle.numeric.specs.Parts.{parts, joined}
use Rattle.exponent.specs.Exponent.{fraction_lane, exponent_lane, ldexp_lane}
use Rattle.rounding.specs.declared.Way.TheVariants as To
use Rattle.rounding.specs.Lanes.{whole_lane, fract_lane}
use Rattle.calls.specs.declared.Builtin.{Builtin}
use Rattle.calls.specs.declared.Builtin.TheVariants.{All, Any, Select, Abs, Sign, CountLeadingZeros, CountOneBits, CountTrailingZeros, Min, Max, Clamp, Saturate, Step, Cross, Dot, Transpose, Frexp, Ldexp, Bitcast, Pack4x8snorm, Pack4x8unorm, Pack4xI8, Pack4xI8Clamp, Pack4xU8, Pack4xU8Clamp, Pack2x16snorm, Pack2x16unorm, Pack2x16float, Unpack4x8snorm, Unpack4x8unorm, Unpack4xI8, Unpack4xU8, Unpack2x16snorm, Unpack2x16unorm, Unpack2x16float, Floor, Ceil, Trunc, Round, Fract, Unknown}
use Rattle.packing.specs.declared.Coding8.TheVariants as Of8
use Rattle.packing.specs.declared.Coding16.TheVariants as Of16
use Rattle.losses.specs.Losses.{largest}
use Rattle.packing.specs.Program.{code8_of, lane8_of, code16_of, loss16_of, lane16_of, clamp_four}
use Rattle.arms.specs.declared.Outcome.{Outcome}
use Rattle.moves.specs.Moves.{select_lane}
use Rattle.moves.specs.Program.{recast}

abbrev pub cut_of : Value → List ℕ
cut_of v = four low v.lanes

-- a scalar condition holds for every lane
abbrev pub condition_of : Value → List ℕ
condition_of c = cond (same_kind c.kind (One Boolean)) (low (lane c 0) ∷ low (lane c 0) ∷ low (lane c 0) ∷ low (lane c 0) ∷ []) (cut_of c)

-- whether a lane has 16 bits
abbrev pub is_half : Scalar → Bool
is_half Boolean = false
is_half I32 = false
is_half U32 = false
is_half F32 = false
is_half F16 = true

-- ---- what an arm works out, `ok` where the call passes its test

abbrev pub given_two : Bool → ℕ → List ℕ → ℕ → List ℕ → Outcome
given_two ok p x q y = record { passes = ok; first = p; lanes = x; second = q; exponents = y; loss = 0 }

abbrev pub given : Bool → ℕ → List ℕ → Outcome
given ok p x = given_two ok p x 0 (0 ∷ 0 ∷ 0 ∷ 0 ∷ [])

abbrev pub given_one : Bool → ℕ → ℕ → Outcome
given_one ok p x = given ok p (x ∷ 0 ∷ 0 ∷ 0 ∷ [])

-- a word, and what was lost
abbrev pub given_word : Bool → ℕ → ℕ → Outcome
given_word ok x loss = record { passes = ok; first = 3; lanes = x ∷ 0 ∷ 0 ∷ 0 ∷ []; second = 0; exponents = 0 ∷ 0 ∷ 0 ∷ 0 ∷ []; loss = loss }

abbrev pub cross_four : List ℕ → List ℕ → List ℕ
cross_four x y =
    cross_lane (get_or x 1 0) (get_or y 2 0) (get_or x 2 0) (get_or y 1 0)
    ∷ cross_lane (get_or x 2 0) (get_or y 0 0) (get_or x 0 0) (get_or y 2 0)
    ∷ cross_lane (get_or x 0 0) (get_or y 1 0) (get_or x 1 0) (get_or y 0 0) ∷ 0 ∷ []

-- in the reading r, of the type field t, the first value of the type at p with the lanes x, the others b and c. The reading tells only in six packers: what a function of another works out is stated in the crate's.
abbrev pub outcome : Reading → Builtin → Bool → ℕ → ℕ → List ℕ → Value → Value → Outcome
outcome r All ok t p x b c = given_one ok 1 (flag (every (λ y. eqb y 1) (take (lane_count (kind_at p)) x)))
outcome r Any ok t p x b c = given_one ok 1 (flag (not (every (λ y. eqb y 0) (take (lane_count (kind_at p)) x))))
outcome r Select ok t p x b c = given ok p (four3 select_lane x (cut_of b) (condition_of c))
outcome r Abs ok t p x b c = given ok p (four (abs_lane (scalar_of (kind_at p))) x)
outcome r Sign ok t p x b c = given ok p (four (sign_lane (scalar_of (kind_at p))) x)
outcome r CountLeadingZeros ok t p x b c = given ok p (four leading_lane x)
outcome r CountOneBits ok t p x b c = given ok p (four ones_lane x)
outcome r CountTrailingZeros ok t p x b c = given ok p (four trailing_lane x)
outcome r Min ok t p x b c = given ok p (four2 (min_lane (scalar_of (kind_at p))) x (cut_of b))
outcome r Max ok t p x b c = given ok p (four2 (max_lane (scalar_of (kind_at p))) x (cut_of b))
outcome r Clamp ok t p x b c = given ok p (four3 (clamp_lane (scalar_of (kind_at p))) x (cut_of b) (cut_of c))
outcome r Saturate ok t p x b c = given ok p (four saturate_lane x)
outcome r Step ok t p x b c = given ok p (four2 (step_lane (scalar_of (kind_at p))) x (cut_of b))
outcome r Cross ok t p x b c = given ok p (cross_four x (cut_of b))
outcome r Dot ok t p x b c = given_one ok (place (One (scalar_of (kind_at p)))) (dot_lane (scalar_of (kind_at p)) (λ i. get_or x i 0) (λ i. get_or (cut_of b) i 0) (min (lane_count (kind_at p)) 4 - 1))
outcome r Transpose ok t p x b c = given ok p x
outcome r Frexp ok t p x b c = given_two ok p (four (fraction_lane (scalar_of (kind_at p))) x) (place (shaped I32 (kind_at p))) (four (exponent_lane (scalar_of (kind_at p))) x)
outcome r Ldexp ok t p x b c = given ok p (four2 ldexp_lane x (cut_of b))
outcome r Bitcast ok t p x b c = given ok (place (kind_at t)) (recast (is_half (scalar_of (kind_at p))) (is_half (scalar_of (kind_at t))) x)
outcome r Pack4x8snorm ok t p x b c = given_one ok 3 (joined 8 (four (code8_of r Of8.Snorm) x))
outcome r Pack4x8unorm ok t p x b c = given_one ok 3 (joined 8 (four (code8_of r Of8.Unorm) x))
outcome r Pack4xI8 ok t p x b c = given_one ok 3 (joined 8 (four (code8_of r Of8.Signed) x))
outcome r Pack4xI8Clamp ok t p x b c = given_one ok 3 (clamp_four r x)
outcome r Pack4xU8 ok t p x b c = given_one ok 3 (joined 8 (four (code8_of r Of8.Unsigned) x))
outcome r Pack4xU8Clamp ok t p x b c = given_one ok 3 (joined 8 (four (code8_of r Of8.ClampedUnsigned) x))
outcome r Pack2x16snorm ok t p x b c = given_one ok 3 (joined 16 (take 2 (four (code16_of r Of16.Snorm) x)))
outcome r Pack2x16unorm ok t p x b c = given_one ok 3 (joined 16 (take 2 (four (code16_of r Of16.Unorm) x)))
outcome r Pack2x16float ok t p x b c = given_word ok (joined 16 (take 2 (four (code16_of r Of16.Float) x))) (largest (take 2 (four (loss16_of Of16.Float) x)))
outcome r Unpack4x8snorm ok t p x b c = given ok 19 (map (lane8_of Of8.Snorm) (parts 8 4 (get_or x 0 0)))
outcome r Unpack4x8unorm ok t p x b c = given ok 19 (map (lane8_of Of8.Unorm) (parts 8 4 (get_or x 0 0)))
outcome r Unpack4xI8 ok t p x b c = given ok 17 (map (lane8_of Of8.Signed) (parts 8 4 (get_or x 0 0)))
outcome r Unpack4xU8 ok t p x b c = given ok 18 (map (lane8_of Of8.Unsigned) (parts 8 4 (get_or x 0 0)))
outcome r Unpack2x16snorm ok t p x b c = given ok 9 (map (lane16_of Of16.Snorm) (parts 16 2 (get_or x 0 0)) ++ 0 ∷ 0 ∷ [])
outcome r Unpack2x16unorm ok t p x b c = given ok 9 (map (lane16_of Of16.Unorm) (parts 16 2 (get_or x 0 0)) ++ 0 ∷ 0 ∷ [])
outcome r Unpack2x16float ok t p x b c = given ok 9 (map (lane16_of Of16.Float) (parts 16 2 (get_or x 0 0)) ++ 0 ∷ 0 ∷ [])
outcome r Floor ok t p x b c = given ok p (four (whole_lane To.Floor (scalar_of (kind_at p))) x)
outcome r Ceil ok t p x b c = given ok p (four (whole_lane To.Ceil (scalar_of (kind_at p))) x)
outcome r Trunc ok t p x b c = given ok p (four (whole_lane To.Trunc (scalar_of (kind_at p))) x)
outcome r Round ok t p x b c = given ok p (four (whole_lane To.Round (scalar_of (kind_at p))) x)
outcome r Fract ok t p x b c = given ok p (four (fract_lane (scalar_of (kind_at p))) x)
outcome r Unknown ok t p x b c = given ok p x
