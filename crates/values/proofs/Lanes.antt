-- The four lanes that the program works on are the lanes in use. A function of three lanes serves for one of two or of one, which looks at fewer;
-- of a well-formed value the cut to 32 bits loses nothing. By writing four lanes out. Assumes nothing.
use Prim.Native.Nat.{ℕ, zero, suc, ◌-◌, ◌≤◌}
use mathlib.Core.Bool.{true, false≢true}
use mathlib.Core.List.{List, [], ◌∷◌, ◌++◌, map}
use mathlib.Core.Path.{◌≡◌, refl, ap, ◌∙◌}
use native.Mathlib.Nat.{mod-eq_of_lt}
use native.Mathlib.Omega.{arith}
use borrow.Author.Tests.{lt-ltb}
use lib.ListN.{length, take, get_or, replicate}
use lib.Seq.{take-nil}
use Rattle.values.specs.Value.{lane_count, lanes_of, value, well_formed, lanewise, lanewise2, lanewise3, zip2, zip3}
use Rattle.values.specs.Program.{low, four, four2, four3, kept, is_lanes}
use Rattle.values.specs.declared.Size.TheVariants.{Two, Three, Four}
use Rattle.values.specs.declared.Kind.{Kind}
use Rattle.values.specs.declared.Kind.TheVariants.{Empty, One, Vec, Mat}
use Rattle.values.specs.declared.Value.{Value}
use Rattle.values.proofs.Formed.{lane_narrow}

-- what holds of a list of four or more that is written out holds of each
split4 : (P : List ℕ → Type 0) → ((a b c d : ℕ) (r : List ℕ) → P (a ∷ b ∷ c ∷ d ∷ r)) → (l : List ℕ) → 4 ≤ length l → P l
split4 P p (a ∷ b ∷ c ∷ d ∷ r) h = p a b c d r
split4 P p [] h = absurd (omega arith)
split4 P p (a ∷ []) h = absurd (omega arith)
split4 P p (a ∷ b ∷ []) h = absurd (omega arith)
split4 P p (a ∷ b ∷ c ∷ []) h = absurd (omega arith)

zipped : (f : ℕ → ℕ → ℕ → ℕ) (n a b c d : ℕ) (r : List ℕ) (a' b' c' d' : ℕ) (r' : List ℕ) (a'' b'' c'' d'' : ℕ) (r'' : List ℕ) → n ≤ 4
    → take n (four3 f (a ∷ b ∷ c ∷ d ∷ r) (a' ∷ b' ∷ c' ∷ d' ∷ r') (a'' ∷ b'' ∷ c'' ∷ d'' ∷ r''))
    ≡ zip3 f (take n (a ∷ b ∷ c ∷ d ∷ r)) (a' ∷ b' ∷ c' ∷ d' ∷ r') (a'' ∷ b'' ∷ c'' ∷ d'' ∷ r'')
zipped f zero a b c d r a' b' c' d' r' a'' b'' c'' d'' r'' h = refl
zipped f (suc zero) a b c d r a' b' c' d' r' a'' b'' c'' d'' r'' h = refl
zipped f (suc (suc zero)) a b c d r a' b' c' d' r' a'' b'' c'' d'' r'' h = refl
zipped f (suc (suc (suc zero))) a b c d r a' b' c' d' r' a'' b'' c'' d'' r'' h = refl
zipped f (suc (suc (suc (suc zero)))) a b c d r a' b' c' d' r' a'' b'' c'' d'' r'' h = refl
zipped f (suc (suc (suc (suc (suc n))))) a b c d r a' b' c' d' r' a'' b'' c'' d'' r'' h = absurd (omega arith)

zips : (f : ℕ → ℕ → ℕ → ℕ) (n : ℕ) (l m o : List ℕ) → n ≤ 4 → 4 ≤ length l → 4 ≤ length m → 4 ≤ length o → take n (four3 f l m o) ≡ zip3 f (take n l) m o
zips f n l m o h hl hm ho =
    split4 (λ (x : List ℕ). take n (four3 f x m o) ≡ zip3 f (take n x) m o)
    (λ a b c d r. split4 (λ (y : List ℕ). take n (four3 f (a ∷ b ∷ c ∷ d ∷ r) y o) ≡ zip3 f (take n (a ∷ b ∷ c ∷ d ∷ r)) y o)
    (λ a' b' c' d' r'. split4 (λ (z : List ℕ). take n (four3 f (a ∷ b ∷ c ∷ d ∷ r) (a' ∷ b' ∷ c' ∷ d' ∷ r') z) ≡ zip3 f (take n (a ∷ b ∷ c ∷ d ∷ r)) (a' ∷ b' ∷ c' ∷ d' ∷ r') z)
    (λ a'' b'' c'' d'' r''. zipped f n a b c d r a' b' c' d' r' a'' b'' c'' d'' r'' h) o ho) m hm) l hl

zip_two : (f : ℕ → ℕ → ℕ) (n : ℕ) (l m : List ℕ) → zip3 (λ x y z. f x y) (take n l) m l ≡ zip2 f (take n l) m
zip_two f zero l m = refl
zip_two f (suc n) [] m = refl
zip_two f (suc n) (x ∷ l) [] = refl
zip_two f (suc n) (x ∷ l) (y ∷ m) = ap (◌∷◌ (f x y)) (zip_two f n l m)

zip_one : (f : ℕ → ℕ) (n : ℕ) (l : List ℕ) → zip2 (λ x y. f x) (take n l) l ≡ map f (take n l)
zip_one f zero l = refl
zip_one f (suc n) [] = refl
zip_one f (suc n) (x ∷ l) = ap (◌∷◌ (f x)) (zip_one f n l)

pub few : (k : Kind) → is_lanes k ≡ true → lane_count k ≤ 4
few (One s) t = omega arith
few (Vec Two s) t = omega arith
few (Vec Three s) t = omega arith
few (Vec Four s) t = omega arith
few Empty t = absurd (false≢true t)
few (Mat c r w) t = absurd (false≢true t)

-- the cut loses nothing
uncut : (v : Value) → well_formed v ≡ true → four low v.lanes ≡ four (λ x. x) v.lanes
uncut v w =
    let e : (i : ℕ) → low (get_or v.lanes i 0) ≡ get_or v.lanes i 0 = λ i. mod-eq_of_lt (lane_narrow v w i) in
    cc (e 0, e 1, e 2, e 3)

-- ---- results of type k, which has as many lanes as the first value

module _ (k : Kind) (f : ℕ → ℕ → ℕ → ℕ) (u v w : Value) (lu : length u.lanes ≡ 16) (lv : length v.lanes ≡ 16) (lw : length w.lanes ≡ 16)
    (fu : well_formed u ≡ true) (fv : well_formed v ≡ true) (fw : well_formed w ≡ true) (is : is_lanes u.kind ≡ true) (same : lane_count k ≡ lane_count u.kind) where
  taken3 : take (lane_count k) (four3 f (four low u.lanes) (four low v.lanes) (four low w.lanes)) ≡ zip3 f (lanes_of u) v.lanes w.lanes
  taken3 =
      ap (λ (l : List ℕ). take (lane_count k) (four3 f l (four low v.lanes) (four low w.lanes))) (uncut u fu)
      ∙ ap (λ (l : List ℕ). take (lane_count k) (four3 f u.lanes l (four low w.lanes))) (uncut v fv)
      ∙ ap (λ (l : List ℕ). take (lane_count k) (four3 f u.lanes v.lanes l)) (uncut w fw)
      ∙ ap (λ (n : ℕ). take n (four3 f u.lanes v.lanes w.lanes)) same
      ∙ zips f (lane_count u.kind) u.lanes v.lanes w.lanes (few u.kind is) (omega arith) (omega arith) (omega arith)

  pub lanes3_as : value k (take (lane_count k) (four3 f (four low u.lanes) (four low v.lanes) (four low w.lanes))) ≡ value k (zip3 f (lanes_of u) v.lanes w.lanes)
  lanes3_as = ap (value k) taken3

module _ (k : Kind) (f : ℕ → ℕ → ℕ) (u v : Value) (lu : length u.lanes ≡ 16) (lv : length v.lanes ≡ 16)
    (fu : well_formed u ≡ true) (fv : well_formed v ≡ true) (is : is_lanes u.kind ≡ true) (same : lane_count k ≡ lane_count u.kind) where
  taken2 : take (lane_count k) (four2 f (four low u.lanes) (four low v.lanes)) ≡ zip2 f (lanes_of u) v.lanes
  taken2 = taken3 k (λ x y z. f x y) u v u lu lv lu fu fv fu is same ∙ zip_two f (lane_count u.kind) u.lanes v.lanes

  pub lanes2_as : value k (take (lane_count k) (four2 f (four low u.lanes) (four low v.lanes))) ≡ value k (zip2 f (lanes_of u) v.lanes)
  lanes2_as = ap (value k) taken2

module _ (k : Kind) (f : ℕ → ℕ) (v : Value) (lv : length v.lanes ≡ 16) (fv : well_formed v ≡ true) (is : is_lanes v.kind ≡ true) (same : lane_count k ≡ lane_count v.kind) where
  pub lanes1_as : value k (take (lane_count k) (four f (four low v.lanes))) ≡ value k (map f (lanes_of v))
  lanes1_as = ap (value k) (taken2 k (λ x y. f x) v v lv lv fv fv is same ∙ zip_one f (lane_count v.kind) v.lanes)

-- ---- results of the first value's type

pub lanes1 : (f : ℕ → ℕ) (v : Value) → length v.lanes ≡ 16 → well_formed v ≡ true → is_lanes v.kind ≡ true
    → value v.kind (take (lane_count v.kind) (four f (four low v.lanes))) ≡ lanewise f v
unfolding lanewise
lanes1 f v lv fv is = lanes1_as v.kind f v lv fv is refl

pub lanes2 : (f : ℕ → ℕ → ℕ) (u v : Value) → length u.lanes ≡ 16 → length v.lanes ≡ 16 → well_formed u ≡ true → well_formed v ≡ true → is_lanes u.kind ≡ true
    → value u.kind (take (lane_count u.kind) (four2 f (four low u.lanes) (four low v.lanes))) ≡ lanewise2 f u v
unfolding lanewise2
lanes2 f u v lu lv fu fv is = lanes2_as u.kind f u v lu lv fu fv is refl

pub lanes3 : (f : ℕ → ℕ → ℕ → ℕ) (u v w : Value) → length u.lanes ≡ 16 → length v.lanes ≡ 16 → length w.lanes ≡ 16
    → well_formed u ≡ true → well_formed v ≡ true → well_formed w ≡ true → is_lanes u.kind ≡ true
    → value u.kind (take (lane_count u.kind) (four3 f (four low u.lanes) (four low v.lanes) (four low w.lanes))) ≡ lanewise3 f u v w
unfolding lanewise3
lanes3 f u v w lu lv lw fu fv fw is = lanes3_as u.kind f u v w lu lv lw fu fv fw is refl

-- ---- four lanes of which n are kept, the others 0

keeps : (n a b c d : ℕ) (r : List ℕ) → length (a ∷ b ∷ c ∷ d ∷ r) ≡ 4
    → let x = a ∷ b ∷ c ∷ d ∷ r in kept 0 n x ∷ kept 1 n x ∷ kept 2 n x ∷ kept 3 n x ∷ replicate 12 0 ≡ take n x ++ replicate (16 - length (take n x)) 0
keeps n a b c d (e ∷ r) h = absurd (omega arith)
keeps zero a b c d [] h = refl
keeps (suc zero) a b c d [] h = refl
keeps (suc (suc zero)) a b c d [] h = refl
keeps (suc (suc (suc zero))) a b c d [] h = refl
keeps (suc (suc (suc (suc n)))) a b c d [] h =
    let m = suc (suc (suc (suc n))) in
    rw (lt-ltb 0 m (omega arith), lt-ltb 1 m (omega arith), lt-ltb 2 m (omega arith), lt-ltb 3 m (omega arith), take-nil n)

pub kept_value : (k : Kind) (x : List ℕ) → length x ≡ 4 → {n : ℕ} → n ≡ lane_count k → {a b c d : ℕ} → a ≡ kept 0 n x → b ≡ kept 1 n x → c ≡ kept 2 n x → d ≡ kept 3 n x
    → ◌≡◌ {A = Value} (record { kind = k; lanes = a ∷ b ∷ c ∷ d ∷ replicate 12 0 }) (value k (take (lane_count k) x))
unfolding value
kept_value k x h {n} en ea eb ec ed =
    rw (ea, eb, ec, ed, ← en)
    (ap (λ (l : List ℕ). record { kind = k; lanes = l })
    (split4 (λ (y : List ℕ). length y ≡ 4 → kept 0 n y ∷ kept 1 n y ∷ kept 2 n y ∷ kept 3 n y ∷ replicate 12 0 ≡ take n y ++ replicate (16 - length (take n y)) 0)
    (keeps n) x (omega arith) h))

-- four lanes are equal where each is
pub same_four : {a a' b b' c c' d d' : ℕ} → a ≡ a' → b ≡ b' → c ≡ c' → d ≡ d' → a ∷ b ∷ c ∷ d ∷ [] ≡ a' ∷ b' ∷ c' ∷ d' ∷ []
same_four p q r s = cc
