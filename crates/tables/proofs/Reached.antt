-- A start is right for every lane if the f32 there packs to its height and the f32 just before it packs lower: packing keeps the order of lanes (brighter's
-- `crate_never_darker`). So a table of starts is right by one test of its entries, and a search of it finds the code. Assumes nothing.
use mathlib.Core.Path.{◌≡◌, refl, sym, ap, ◌∙◌}
use mathlib.Core.Bool.{Bool, true, false, not, ◌&&◌, cond, false≢true}
use mathlib.Core.List.{List}
use Prim.Native.Nat.{ℕ, zero, suc, ◌+◌, ◌-◌, ◌%◌, ◌≤◌, ◌<◌, zero-le}
use native.Mathlib.Nat.{le_antisymm, mod-lt}
use native.Mathlib.Numerals.{add-one}
use native.Mathlib.Omega.{arith}
use borrow.Author.Tests.{eqb-true, eqb-false, leb-true, leb-false, le-leb, lt-leb, ltb-true, ltb-false, not-true}
use lib.Dec.{T, leb, ltb, eqb, leb→le, lit<, lit≤}
use lib.IntN.{pos, negsuc}
use lib.Signed.{le_z}
use lib.Ieee.{Float, nan, binary32, add, mul, lt, of_int, of_bits}
use lib.ListN.{length, get_or}
use Rattle.half.specs.Format.{f32, top, is_nan, rank}
use Rattle.values.proofs.Bools.{both}
use Rattle.values.proofs.Tested.{below, below_at}
use Rattle.floats.proofs.Nan.{float_test, one_nan}
use Rattle.norm.specs.Norm.{stepped, floor_code, packed_norm, number}
use Rattle.norm.proofs.Normal.{Normal, packed}
use Rattle.brighter.proofs.Crate.{crate_never_darker}
use Rattle.tables.specs.Tables.{height, bottom, Start, Starts, Found}

pub code_normal : (g : Bool) (x : ℕ) → Normal g 8 (packed_norm g 8 x)
code_normal g x = packed g 8 x (lit≤ tt) (lit≤ tt)

-- ---- heights keep the order of lanes
heights : (g : Bool) (c d : ℕ) → c < 256 → d < 256 → T (le_z (number g 8 c) (number g 8 d)) → height g c ≤ height g d
heights false c d C D t = leb→le c d t
heights true c d C D t = go (ltb c 128) (ltb d 128) refl refl t
  where
    go : (a b : Bool) → ltb c 128 ≡ a → ltb d 128 ≡ b → T (le_z (cond a (pos c) (negsuc (256 - suc c))) (cond b (pos d) (negsuc (256 - suc d)))) → (c + 128) % 256 ≤ (d + 128) % 256
    go true true e f t = omega (arith, leb→le c d t, ltb-true c 128 e, ltb-true d 128 f)
    go false true e f t = omega (arith, ltb-false c 128 e, ltb-true d 128 f)
    go true false e f t = absurd t
    go false false e f t = omega (arith, leb→le (256 - suc d) (256 - suc c) t, ltb-false c 128 e, ltb-false d 128 f)

never_lower : (g : Bool) (x y : ℕ) → is_nan f32 x ≡ false → is_nan f32 y ≡ false → rank f32 x ≤ rank f32 y → height g (packed_norm g 8 x) ≤ height g (packed_norm g 8 y)
never_lower g x y i j h = heights g (packed_norm g 8 x) (packed_norm g 8 y) (code_normal g x).below (code_normal g y).below (crate_never_darker g 8 (lit≤ tt) (lit≤ tt) x y (record { number = i; other_number = j; below = h }))

-- ---- the test of a start
-- the pattern at a place of the numeric order
abbrev pub pattern_at : ℕ → ℕ
pattern_at t = cond (ltb t (top f32)) (top f32 + (top f32 - t)) (t - top f32)

-- whether x is the f32 at the place t, and packs to the height h
abbrev pub stands : Bool → ℕ → ℕ → ℕ → Bool
stands g h t x = not (is_nan f32 x) && eqb (rank f32 x) t && eqb (height g (packed_norm g 8 x)) h

-- whether h begins at t: the f32 there packs to it, and the one before to the height before
abbrev pub begins : Bool → ℕ → ℕ → Bool
begins g h t = stands g h t (pattern_at t) && stands g (h - 1) (t - 1) (pattern_at (t - 1)) && ltb 0 t && ltb 0 h

-- what the test of an f32 says
record Stands (g : Bool) (h t x : ℕ) : Type 0 where
  number : is_nan f32 x ≡ false
  there : rank f32 x ≡ t
  packs : height g (packed_norm g 8 x) ≡ h

stood : (g : Bool) (h t x : ℕ) → stands g h t x ≡ true → Stands g h t x
stood g h t x e =
    let p = both (not (is_nan f32 x) && eqb (rank f32 x) t) (eqb (height g (packed_norm g 8 x)) h) e in
    let q = both (not (is_nan f32 x)) (eqb (rank f32 x) t) p.0 in
    record { number = not-true (is_nan f32 x) q.0; there = eqb-true (rank f32 x) t q.1; packs = eqb-true (height g (packed_norm g 8 x)) h p.1 }

starts_there : (g : Bool) (h t a b : ℕ) → 0 < t → 0 < h → Stands g h t a → Stands g (h - 1) (t - 1) b → Start g h t
starts_there g h t a b above up here before = record { lane = a; number = here.number; there = here.there; reached = λ x i. by x i (leb t (rank f32 x)) refl }
  where
    by : (x : ℕ) → is_nan f32 x ≡ false → (r : Bool) → leb t (rank f32 x) ≡ r → r ≡ leb h (height g (packed_norm g 8 x))
    by x i true e =
        let k = never_lower g a x here.number i (omega (arith, here.there, leb-true t (rank f32 x) e)) in
        sym (le-leb h (height g (packed_norm g 8 x)) (omega (arith, here.packs, k)))
    by x i false e =
        let k = never_lower g x b i before.number (omega (arith, before.there, leb-false t (rank f32 x) e)) in
        sym (lt-leb h (height g (packed_norm g 8 x)) (omega (arith, before.packs, k)))

begun : (g : Bool) (h t : ℕ) → begins g h t ≡ true → Start g h t
begun g h t e =
    let a = stands g h t (pattern_at t) in
    let b = stands g (h - 1) (t - 1) (pattern_at (t - 1)) in
    let p = both (a && b && ltb 0 t) (ltb 0 h) e in
    let q = both (a && b) (ltb 0 t) p.0 in
    let r = both a b q.0 in
    starts_there g h t (pattern_at t) (pattern_at (t - 1)) (ltb-true 0 t q.1) (ltb-true 0 h p.1) (stood g h t (pattern_at t) r.0) (stood g (h - 1) (t - 1) (pattern_at (t - 1)) r.1)

-- a table of starts, by one test of all its entries
pub all_begin : (g : Bool) (l : List ℕ) → length l + bottom g ≡ 255 → below (λ k. begins g (k + suc (bottom g)) (get_or l k 0)) (length l) ≡ true → Starts g l
all_begin g l n e = record { all = n; entry = λ k h. begun g (k + suc (bottom g)) (get_or l k 0) (below_at (λ k. begins g (k + suc (bottom g)) (get_or l k 0)) (length l) k e h) }

-- ---- what the search finds
lowest : (g : Bool) (x : ℕ) → bottom g ≤ height g (packed_norm g 8 x)
lowest false x = zero-le
lowest true x = go (packed_norm true 8 x) (code_normal true x).below (code_normal true x).own
  where
    go : (c : ℕ) → c < 256 → cond (eqb c 128) (suc c) c ≡ c → 1 ≤ (c + 128) % 256
    go c h e = by (eqb c 128) refl e
      where
        by : (b : Bool) → eqb c 128 ≡ b → cond b (suc c) c ≡ c → 1 ≤ (c + 128) % 256
        by true t e = absurd (omega arith)
        by false t e = let n = eqb-false c 128 t in omega arith

highest : (g : Bool) (x : ℕ) → height g (packed_norm g 8 x) ≤ 255
highest false x = omega (arith, (code_normal false x).below)
highest true x = omega (arith, mod-lt (packed_norm true 8 x + 128) {m = 256} (lit< tt))

module _ (g : Bool) (l : List ℕ) (x r : ℕ) (i : is_nan f32 x ≡ false) (s : Starts g l) (f : Found l (rank f32 x) r) where
  at_least : r + bottom g ≤ height g (packed_norm g 8 x)
  at_least = go r refl
    where
      go : (n : ℕ) → n ≡ r → n + bottom g ≤ height g (packed_norm g 8 x)
      go zero e = omega (arith, lowest g x)
      go (suc k) e =
          let here = f.reached k (add-one k ∙ e) in
          omega (arith, leb-true (k + suc (bottom g)) (height g (packed_norm g 8 x)) (sym ((s.entry k (omega (arith, f.most))).reached x i) ∙ le-leb (get_or l k 0) (rank f32 x) here))

  at_most : height g (packed_norm g 8 x) ≤ r + bottom g
  at_most = by (ltb r (length l)) refl
    where
      by : (b : Bool) → ltb r (length l) ≡ b → height g (packed_norm g 8 x) ≤ r + bottom g
      by true e =
          let h = ltb-true r (length l) e in
          omega (arith, leb-false (r + suc (bottom g)) (height g (packed_norm g 8 x)) (sym ((s.entry r h).reached x i) ∙ lt-leb (get_or l r 0) (rank f32 x) (f.short h)))
      by false e = omega (arith, ltb-false r (length l) e, s.all, highest g x)

  pub found_height : height g (packed_norm g 8 x) ≡ r + bottom g
  found_height = le_antisymm at_most at_least

-- by the format
pub found_snorm : (g : Bool) (c r : ℕ) → g ≡ true → height g c ≡ r + bottom g → (c + 128) % 256 ≡ r + 1
found_snorm true c r e h = h
found_snorm false c r e h = absurd (false≢true e)

pub found_unorm : (g : Bool) (c r : ℕ) → g ≡ false → height g c ≡ r + bottom g → c ≡ r
found_unorm false c r e h = omega arith
found_unorm true c r e h = absurd (false≢true (sym e))

-- ---- a NaN
no_code : (g : Bool) → floor_code g 8 (stepped g 8 nan) ≡ 0
unfolding floor_code stepped add mul lt of_int
no_code true = refl
no_code false = refl

pub nan_packs : (g : Bool) (x : ℕ) → is_nan f32 x ≡ true → packed_norm g 8 x ≡ 0
unfolding packed_norm
nan_packs g x e = ap (λ (y : Float). floor_code g 8 (stepped g 8 y)) (one_nan (of_bits binary32 x) (float_test x ∙ e)) ∙ no_code g
