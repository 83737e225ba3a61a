-- The builtin at the place of a name's slot has the name: by cases of the builtin. So two builtins of one name are one, and that each is found by its name is one computed test;
-- and so the builtin of any slot, tried, is what the search finds. Assumes nothing.
use Prim.Native.Nat.{ℕ, zero, suc, ◌<◌}
use mathlib.Core.Bool.{Bool, true, false, ◌&&◌}
use mathlib.Core.List.{List, [], ◌∷◌}
use mathlib.Core.Path.{◌≡◌, refl, ap, sym, ◌∙◌}
use borrow.Author.Tests.{ltb-true}
use lib.Dec.{ltb}
use lib.ListN.{get_or}
use Rattle.calls.specs.declared.Builtin.{Builtin}
use Rattle.calls.specs.declared.Builtin.TheVariants.{All, Any, Select, Abs, Sign, CountLeadingZeros, CountOneBits, CountTrailingZeros, Min, Max, Clamp, Saturate, Step, Cross, Dot, Transpose, Frexp, Ldexp, Bitcast, Pack4x8snorm, Pack4x8unorm, Pack4xI8, Pack4xI8Clamp, Pack4xU8, Pack4xU8Clamp, Pack2x16snorm, Pack2x16unorm, Pack2x16float, Unpack4x8snorm, Unpack4x8unorm, Unpack4xI8, Unpack4xU8, Unpack2x16snorm, Unpack2x16unorm, Unpack2x16float, Floor, Ceil, Trunc, Round, Fract, Unknown}
use Rattle.calls.specs.Table.{builtins, builtin_at}
use Rattle.calls.proofs.Shaped.{numbered, each}
use Rattle.values.proofs.Bools.{both}
use Rattle.buffers.specs.Text.{same_bytes, first_spelled}
use Rattle.buffers.proofs.Lookup as lookup
use Rattle.names.specs.Names.{name_of, builtin_of}
use Rattle.names.specs.Program.{candidates, slot, places, place}

abbrev pub guess : List ℕ → Builtin
guess s = builtin_at (place (slot s))

guess_named : (b : Builtin) → guess (name_of b) ≡ b
unfolding builtin_at place places slot
guess_named All = refl
guess_named Any = refl
guess_named Select = refl
guess_named Abs = refl
guess_named Sign = refl
guess_named CountLeadingZeros = refl
guess_named CountOneBits = refl
guess_named CountTrailingZeros = refl
guess_named Min = refl
guess_named Max = refl
guess_named Clamp = refl
guess_named Saturate = refl
guess_named Step = refl
guess_named Cross = refl
guess_named Dot = refl
guess_named Transpose = refl
guess_named Frexp = refl
guess_named Ldexp = refl
guess_named Bitcast = refl
guess_named Pack4x8snorm = refl
guess_named Pack4x8unorm = refl
guess_named Pack4xI8 = refl
guess_named Pack4xI8Clamp = refl
guess_named Pack4xU8 = refl
guess_named Pack4xU8Clamp = refl
guess_named Pack2x16snorm = refl
guess_named Pack2x16unorm = refl
guess_named Pack2x16float = refl
guess_named Unpack4x8snorm = refl
guess_named Unpack4x8unorm = refl
guess_named Unpack4xI8 = refl
guess_named Unpack4xU8 = refl
guess_named Unpack2x16snorm = refl
guess_named Unpack2x16unorm = refl
guess_named Unpack2x16float = refl
guess_named Floor = refl
guess_named Ceil = refl
guess_named Trunc = refl
guess_named Round = refl
guess_named Fract = refl
guess_named Unknown = refl

-- what one computed test finds of every number holds of every builtin
pub each_builtin : (f : Builtin → Bool) → numbered (λ n b. f b) 0 (Unknown ∷ builtins) ≡ true → (b : Builtin) → f b ≡ true
each_builtin f t b =
    rw (guess_named b) at (each (λ n w. f w) (λ n. (both (f Unknown) (numbered (λ m w. f w) 1 builtins) t).0) t (place (slot (name_of b))))

module _ {A : Type 0} (p : A → Bool) where
  every : List A → Bool
  every [] = true
  every (x ∷ xs) = p x && every xs

  every_at : (l : List A) (d : A) (i : ℕ) → p d ≡ true → every l ≡ true → p (get_or l i d) ≡ true
  unfolding every
  every_at [] d i e t = e
  every_at (x ∷ xs) d zero e t = (both (p x) (every xs) t).0
  every_at (x ∷ xs) d (suc i) e t = every_at xs d i e (both (p x) (every xs) t).1

-- each slot leads to a number of the table
pub place_below : (h : ℕ) → place h < 41
unfolding every place places slot
place_below h = ltb-true (place h) 41 (every_at (λ x. ltb x 41) (places 1 builtins) 0 h refl refl)

named_alike : (a b : Builtin) → name_of a ≡ name_of b → a ≡ b
named_alike a b e = sym (guess_named a) ∙ ap guess e ∙ guess_named b

-- each builtin is found by its name
pub found_named : (b : Builtin) → builtin_of (name_of b) ≡ b
unfolding every builtin_at builtin_of first_spelled same_bytes
found_named b =
    named_alike (builtin_of (name_of b)) b
    (lookup.same_true (name_of (builtin_of (name_of b))) (name_of b)
    (rw (guess_named b) at (every_at itself candidates Unknown (place (slot (name_of b))) refl refl)))
  where
    itself : Builtin → Bool
    itself b = same_bytes (name_of (builtin_of (name_of b))) (name_of b)

module _ (s : List ℕ) where
  pub guess_right : same_bytes (name_of (guess s)) s ≡ true → guess s ≡ builtin_of s
  unfolding builtin_of
  guess_right = lookup.guess_right name_of Unknown builtins guess found_named guess_named s

  pub guess_wrong : same_bytes (name_of (guess s)) s ≡ false → Unknown ≡ builtin_of s
  unfolding builtin_of
  guess_wrong = lookup.guess_wrong name_of Unknown builtins guess found_named guess_named s
