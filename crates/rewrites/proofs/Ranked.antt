-- min and max of lanes over an order that a rank gives: one law for i32, u32 and f32. Both pick the lane with the lesser key, the first of two that are alike: min's key is the rank, max's
-- how far the rank lies below a bound, and in both a NaN's is that bound, which no number has. The key of what is picked is the lesser of two keys. Assumes nothing.
use mathlib.Core.Path.{◌≡◌, refl, sym, ap, ap₂, ◌∙◌}
use Prim.Native.Nat.{ℕ, ◌+◌, ◌-◌, ◌^◌, ◌≤◌, ◌<◌, min}
use native.Mathlib.Omega.{arith}
use mathlib.Core.Bool.{Bool, true, false, cond}
use borrow.Author.Tests.{ltb-true, ltb-false, lt-ltb, le-ltb}
use lib.Dec.{ltb}
use Rattle.floats.proofs.Order.{alike}
use Rattle.values.specs.declared.Scalar.{Scalar}
use Rattle.limits.specs.Limits.{min_lane, max_lane}
use Rattle.limits.specs.Program.{below_of, other_of}
use Rattle.limits.proofs.Chosen.{min_is, max_is}
use Rattle.rewrites.specs.Equality.{stands_for, SameLane, nan_lane}

-- what is asked of the lanes of a scalar; `again` is a lane read and written
pub record Ranked (s : Scalar) : Type 0 where
  pub again : ℕ → ℕ
  pub number : (x : ℕ) → x < 2 ^ 32 → nan_lane s x ≡ false → again x ≡ x
  pub nan : (x : ℕ) → nan_lane s x ≡ true → nan_lane s (again x) ≡ true
  pub one_nan : (x y : ℕ) → nan_lane s x ≡ true → nan_lane s y ≡ true → again x ≡ again y
  pub other : (second : Bool) (x y : ℕ) → other_of s second x y ≡ again (cond (nan_lane s x) y (cond second y x))
  -- the order of the numbers, and that a NaN is in none
  pub rank : ℕ → ℕ
  pub bound : ℕ
  pub least : (x : ℕ) → 0 < rank x
  pub most : (x : ℕ) → x < 2 ^ 32 → rank x < bound
  pub below : (x y : ℕ) → nan_lane s x ≡ false → nan_lane s y ≡ false → below_of s x y ≡ ltb (rank x) (rank y)
  pub nan_below : (x y : ℕ) → nan_lane s x ≡ true → below_of s x y ≡ false
  pub below_nan : (x y : ℕ) → nan_lane s y ≡ true → below_of s x y ≡ false
  -- lanes that are taken as one are those of one rank, and the NaNs
  pub same : (x y : ℕ) → x < 2 ^ 32 → y < 2 ^ 32 → nan_lane s x ≡ false → nan_lane s y ≡ false → rank x ≡ rank y → SameLane s x y
  pub same_nan : (x y : ℕ) → nan_lane s x ≡ true → nan_lane s y ≡ true → SameLane s x y
  pub stands_nan : (x : ℕ) → nan_lane s (stands_for s x) ≡ nan_lane s x
  pub stands : (x : ℕ) → nan_lane s x ≡ false → rank (stands_for s x) ≡ rank x

-- of two lanes the second where its key is the lesser
abbrev pub lesser : (ℕ → ℕ) → ℕ → ℕ → ℕ
lesser key x y = cond (ltb (key y) (key x)) y x

module _ (s : Scalar) (o : Ranked s) where
  -- the rank as a key, told off from the one end of the order or from the other
  abbrev pub key_by : (ℕ → ℕ) → ℕ → ℕ
  key_by turn x = cond (nan_lane s x) o.bound (turn (o.rank x))

  -- ---- what picks by a key
  pub record Picks (f : ℕ → ℕ → ℕ) : Type 0 where
    pub turn : ℕ → ℕ
    pub inside : (n : ℕ) → 0 < n → n < o.bound → turn n < o.bound
    pub apart : (m n : ℕ) → 0 < m → m < o.bound → 0 < n → n < o.bound → turn m ≡ turn n → m ≡ n
    pub is : (x y : ℕ) → x < 2 ^ 32 → y < 2 ^ 32 → f x y ≡ o.again (lesser (key_by turn) x y)

  settled : (x : ℕ) → x < 2 ^ 32 → o.again (o.again x) ≡ o.again x
  settled x h = go (nan_lane s x) refl
    where
      go : (b : Bool) → nan_lane s x ≡ b → o.again (o.again x) ≡ o.again x
      go true e = o.one_nan (o.again x) x (o.nan x e) e
      go false e = ap o.again (o.number x h e)

  module _ (f : ℕ → ℕ → ℕ) (p : Picks f) (narrow : (x y : ℕ) → x < 2 ^ 32 → y < 2 ^ 32 → f x y < 2 ^ 32) where
    abbrev pub key : ℕ → ℕ
    key = key_by p.turn

    kept : (x : ℕ) → x < 2 ^ 32 → key (o.again x) ≡ key x
    kept x h = go (nan_lane s x) refl
      where
        go : (b : Bool) → nan_lane s x ≡ b → key (o.again x) ≡ cond b o.bound (p.turn (o.rank x))
        go true e = ap (λ (b : Bool). cond b o.bound (p.turn (o.rank (o.again x)))) (o.nan x e)
        go false e = ap key (o.number x h e) ∙ ap (λ (b : Bool). cond b o.bound (p.turn (o.rank x))) e

    -- lanes of one key are those that are taken as one
    key_same : (x y : ℕ) → x < 2 ^ 32 → y < 2 ^ 32 → key x ≡ key y → SameLane s x y
    key_same x y h k = go (nan_lane s x) (nan_lane s y) refl refl
      where
        within : (z : ℕ) → z < 2 ^ 32 → p.turn (o.rank z) < o.bound
        within z l = p.inside (o.rank z) (o.least z) (o.most z l)

        go : (b c : Bool) → nan_lane s x ≡ b → nan_lane s y ≡ c → cond b o.bound (p.turn (o.rank x)) ≡ cond c o.bound (p.turn (o.rank y)) → SameLane s x y
        go true true i j e = o.same_nan x y i j
        go true false i j e = absurd (omega (arith, e, within y k))
        go false true i j e = absurd (omega (arith, e, within x h))
        go false false i j e = o.same x y h k i j (p.apart (o.rank x) (o.rank y) (o.least x) (o.most x h) (o.least y) (o.most y k) e)

    same_key : (x y : ℕ) → SameLane s x y → key x ≡ key y
    same_key x y e = sym (stands x) ∙ ap key e ∙ stands y
      where
        stands : (x : ℕ) → key (stands_for s x) ≡ key x
        stands x = ap (λ (b : Bool). cond b o.bound (p.turn (o.rank (stands_for s x)))) (o.stands_nan x) ∙ go (nan_lane s x) refl
          where
            go : (b : Bool) → nan_lane s x ≡ b → cond b o.bound (p.turn (o.rank (stands_for s x))) ≡ cond b o.bound (p.turn (o.rank x))
            go true e = refl
            go false e = ap p.turn (o.stands x e)

    picked : (x y : ℕ) → x < 2 ^ 32 → y < 2 ^ 32 → lesser key x y < 2 ^ 32
    picked x y h k = go (ltb (key y) (key x))
      where
        go : (b : Bool) → cond b y x < 2 ^ 32
        go true = k
        go false = h

    lesser_key : (x y : ℕ) → key (lesser key x y) ≡ min (key x) (key y)
    lesser_key x y = go (ltb (key y) (key x)) refl
      where
        go : (b : Bool) → ltb (key y) (key x) ≡ b → key (cond b y x) ≡ min (key x) (key y)
        go true e = omega (arith, ltb-true (key y) (key x) e)
        go false e = omega (arith, ltb-false (key y) (key x) e)

    pub given_key : (x y : ℕ) → x < 2 ^ 32 → y < 2 ^ 32 → key (f x y) ≡ min (key x) (key y)
    given_key x y h k = ap key (p.is x y h k) ∙ kept (lesser key x y) (picked x y h k) ∙ lesser_key x y

    -- ---- its laws
    pub respects : (x y z w : ℕ) → x < 2 ^ 32 → y < 2 ^ 32 → z < 2 ^ 32 → w < 2 ^ 32 → SameLane s x z → SameLane s y w → SameLane s (f x y) (f z w)
    respects x y z w h k l m e g =
        key_same (f x y) (f z w) (narrow x y h k) (narrow z w l m) (given_key x y h k ∙ ap₂ min (same_key x z e) (same_key y w g) ∙ sym (given_key z w l m))

    pub commutes : (x y : ℕ) → x < 2 ^ 32 → y < 2 ^ 32 → SameLane s (f x y) (f y x)
    commutes x y h k =
        let e : min (key x) (key y) ≡ min (key y) (key x) = omega arith in
        key_same (f x y) (f y x) (narrow x y h k) (narrow y x k h) (given_key x y h k ∙ e ∙ sym (given_key y x k h))

    pub idempotent : (x : ℕ) → x < 2 ^ 32 → SameLane s (f x x) x
    idempotent x h =
        let e : min (key x) (key x) ≡ key x = omega arith in
        key_same (f x x) x (narrow x x h h) h (given_key x x h h ∙ e)

    -- a lane read and written is picked as it is
    on_left : (u z : ℕ) → u < 2 ^ 32 → o.again (lesser key (o.again u) z) ≡ o.again (lesser key u z)
    on_left u z h = ap (λ (n : ℕ). o.again (cond (ltb (key z) n) z (o.again u))) (kept u h) ∙ go (ltb (key z) (key u))
      where
        go : (b : Bool) → o.again (cond b z (o.again u)) ≡ o.again (cond b z u)
        go true = refl
        go false = settled u h

    on_right : (x u : ℕ) → u < 2 ^ 32 → o.again (lesser key x (o.again u)) ≡ o.again (lesser key x u)
    on_right x u h = ap (λ (n : ℕ). o.again (cond (ltb n (key x)) (o.again u) x)) (kept u h) ∙ go (ltb (key u) (key x))
      where
        go : (b : Bool) → o.again (cond b (o.again u) x) ≡ o.again (cond b u x)
        go true = settled u h
        go false = refl

    lesser_associates : (x y z : ℕ) → lesser key (lesser key x y) z ≡ lesser key x (lesser key y z)
    lesser_associates x y z = go (ltb (key y) (key x)) (ltb (key z) (key y)) refl refl
      where
        go : (b c : Bool) → ltb (key y) (key x) ≡ b → ltb (key z) (key y) ≡ c → lesser key (cond b y x) z ≡ lesser key x (cond c z y)
        go true true i j = rw j (sym (rw (lt-ltb (key z) (key x) (omega (arith, ltb-true (key y) (key x) i, ltb-true (key z) (key y) j)))))
        go true false i j = rw (i, j)
        go false true i j = refl
        go false false i j = rw i (rw (le-ltb (key z) (key x) (omega (arith, ltb-false (key y) (key x) i, ltb-false (key z) (key y) j))))

    pub associates : (x y z : ℕ) → x < 2 ^ 32 → y < 2 ^ 32 → z < 2 ^ 32 → f (f x y) z ≡ f x (f y z)
    associates x y z h k l =
        p.is (f x y) z (narrow x y h k) l ∙ ap (λ (u : ℕ). o.again (lesser key u z)) (p.is x y h k) ∙ on_left (lesser key x y) z (picked x y h k)
        ∙ ap o.again (lesser_associates x y z)
        ∙ sym (p.is x (f y z) h (narrow y z k l) ∙ ap (λ (u : ℕ). o.again (lesser key x u)) (p.is y z k l) ∙ on_right x (lesser key y z) (picked y z k l))

    pub repeats : (x y : ℕ) → x < 2 ^ 32 → y < 2 ^ 32 → f x (f x y) ≡ f x y
    repeats x y h k =
        p.is x (f x y) h (narrow x y h k) ∙ ap (λ (u : ℕ). o.again (lesser key x u)) (p.is x y h k) ∙ on_right x (lesser key x y) (picked x y h k)
        ∙ ap o.again (go (ltb (key y) (key x)) refl) ∙ sym (p.is x y h k)
      where
        go : (b : Bool) → ltb (key y) (key x) ≡ b → lesser key x (cond b y x) ≡ cond b y x
        go true e = rw e
        go false e = rw (le-ltb (key x) (key x) (omega arith))

  -- ---- min and max
  chosen : (turn : ℕ → ℕ) → ((n : ℕ) → 0 < n → n < o.bound → turn n < o.bound) → (second : Bool) (x y : ℕ) → x < 2 ^ 32 → y < 2 ^ 32
      → (nan_lane s y ≡ true → second ≡ false) → (nan_lane s x ≡ false → nan_lane s y ≡ false → second ≡ ltb (turn (o.rank y)) (turn (o.rank x)))
      → other_of s second x y ≡ o.again (lesser (key_by turn) x y)
  chosen turn inside second x y h k none both = o.other second x y ∙ go (nan_lane s x) (nan_lane s y) refl refl
    where
      within : (z : ℕ) → z < 2 ^ 32 → turn (o.rank z) < o.bound
      within z l = inside (o.rank z) (o.least z) (o.most z l)

      go : (b c : Bool) → nan_lane s x ≡ b → nan_lane s y ≡ c
          → o.again (cond b y (cond second y x)) ≡ o.again (cond (ltb (cond c o.bound (turn (o.rank y))) (cond b o.bound (turn (o.rank x)))) y x)
      go true true i j = rw (le-ltb o.bound o.bound (omega arith)) (o.one_nan y x j i)
      go true false i j = rw (lt-ltb (turn (o.rank y)) o.bound (within y k))
      go false true i j = rw (none j, le-ltb o.bound (turn (o.rank x)) (omega (arith, within x h)))
      go false false i j = rw (both i j)

  pub mins : Picks (min_lane s)
  mins = record {
    turn = λ n. n;
    inside = λ n l h. h;
    apart = λ m n l h l' h' e. e;
    is = λ x y h k. sym (min_is s x y) ∙ chosen (λ n. n) (λ n l h. h) (below_of s y x) x y h k (λ j. o.nan_below y x j) (λ i j. o.below y x j i);
  }

  pub maxes : Picks (max_lane s)
  maxes = record {
    turn = λ n. o.bound - n;
    inside = λ n l h. omega arith;
    apart = λ m n l h l' h' e. omega arith;
    is = λ x y h k.
        sym (max_is s x y) ∙ chosen (λ n. o.bound - n) (λ n l h. omega arith) (below_of s x y) x y h k (λ j. o.below_nan x y j)
        (λ i j. o.below x y i j ∙ turned (o.rank x) (o.rank y) (o.most x h) (o.most y k));
  }
    where
      turned : (m n : ℕ) → m < o.bound → n < o.bound → ltb m n ≡ ltb (o.bound - n) (o.bound - m)
      turned m n h k = (alike m n (o.bound - n) (o.bound - m) (λ l. omega arith) (λ e. omega arith) (λ g. omega arith)).less

  -- ---- one in the other: two keys of a number make up the bound, and of any lane no less
  module _ (f g : ℕ → ℕ → ℕ) (p : Picks f) (q : Picks g) (narrow : (x y : ℕ) → x < 2 ^ 32 → y < 2 ^ 32 → f x y < 2 ^ 32)
      (meet : (n : ℕ) → n < o.bound → p.turn n + q.turn n ≡ o.bound) where
    pub absorbs : (x y : ℕ) → x < 2 ^ 32 → y < 2 ^ 32 → nan_lane s x ≡ false → g x (f x y) ≡ x
    absorbs x y h k n =
        q.is x (f x y) h (narrow x y h k) ∙ ap (λ (b : Bool). o.again (cond b (f x y) x)) (le-ltb (key_by q.turn (f x y)) (key_by q.turn x) no_less)
        ∙ o.number x h n
      where
        sums : (z : ℕ) → z < 2 ^ 32 → o.bound ≤ key_by p.turn z + key_by q.turn z
        sums z l = go (nan_lane s z)
          where
            go : (b : Bool) → o.bound ≤ cond b o.bound (p.turn (o.rank z)) + cond b o.bound (q.turn (o.rank z))
            go true = omega arith
            go false = omega (arith, meet (o.rank z) (o.most z l))

        own : key_by p.turn x + key_by q.turn x ≡ o.bound
        own = rw n (meet (o.rank x) (o.most x h))

        no_less : key_by q.turn x ≤ key_by q.turn (f x y)
        no_less = omega (arith, own, sums (f x y) (narrow x y h k), given_key f p narrow x y h k)

  pub max_absorbs : ((x y : ℕ) → x < 2 ^ 32 → y < 2 ^ 32 → min_lane s x y < 2 ^ 32) → (x y : ℕ) → x < 2 ^ 32 → y < 2 ^ 32 → nan_lane s x ≡ false → max_lane s x (min_lane s x y) ≡ x
  unfolding mins maxes
  max_absorbs narrow = absorbs (min_lane s) (max_lane s) mins maxes narrow (λ n h. omega arith)

  pub min_absorbs : ((x y : ℕ) → x < 2 ^ 32 → y < 2 ^ 32 → max_lane s x y < 2 ^ 32) → (x y : ℕ) → x < 2 ^ 32 → y < 2 ^ 32 → nan_lane s x ≡ false → min_lane s x (max_lane s x y) ≡ x
  unfolding mins maxes
  min_absorbs narrow = absorbs (max_lane s) (min_lane s) maxes mins narrow (λ n h. omega arith)
