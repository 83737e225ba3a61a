-- What is read without a fault was written so: s is `text_of` of what `read_value s` gives, which is well formed. What is spelt of a lane is carried byte by byte. Assumes nothing.
use Prim.Native.Nat.{ℕ, zero, suc, ◌+◌, ◌*◌, ◌-◌, ◌/◌, ◌%◌, ◌<◌, ◌≤◌, ◌^◌}
use mathlib.Core.List.{List, [], ◌∷◌, ◌++◌}
use mathlib.Core.Bool.{Bool, true, false, cond}
use mathlib.Core.Path.{◌≡◌, refl, ap, sym, ◌∙◌}
use native.Mathlib.Nat.{zero-mul, zero-add, lt-div-mul-add, pow-le-pow_right, pow-zero, div-one, div-eq_of_lt, mod-eq_of_lt}
use native.Mathlib.Omega.{arith}
use lib.ListN.{length, take, drop, replicate}
use lib.Seq.{take_at}
use lib.Dec.{ltb, eqb, eqb-suc-zero}
use borrow.Author.Tests.{lt-ltb, ltb-true, ltb-false, eqb-true, eqb-false}
use Rattle.values.specs.Value.{lane_bits, lane_count, scalar_of, value, empty_value, every, well_formed}
use Rattle.buffers.specs.Text.{byte}
use Rattle.spelling.specs.Hex.{digit_count, digit_bound, digit_of, hex_bytes}
use Rattle.values.specs.declared.Scalar.{Scalar}
use Rattle.values.specs.declared.Scalar.TheVariants.{Boolean, I32, U32, F32, F16}
use Rattle.values.specs.declared.Kind.{Kind}
use Rattle.spelling.specs.Types.{spelled, kind_of}
use Rattle.spelling.proofs.Spellings.{spelled_kind}
use Rattle.values.specs.declared.Value.{Value}
use Rattle.values.proofs.Places.{lanes_at_most_16, typed}
use Rattle.values.proofs.Formed.{formed, lanes_16}
use Rattle.spelling.specs.declared.Fault.{Fault}
use Rattle.spelling.specs.declared.Fault.TheVariants.{Nothing, TypeSpelling, Lanes, Digit}
use Rattle.spelling.specs.declared.Reading.{Reading}
use Rattle.spelling.specs.Read.{fault_number, Scanned, digit_at, count_at, good, before, lanes_at, wrong, found, reading, colon_at, read_lanes, read_value}
use Rattle.spelling.specs.Write.{lanes_text, text_of}
use Rattle.buffers.proofs.FirstPlace.{place_split}
use Rattle.spelling.proofs.Hexes.{byte_digit, no_digits, hex_front, hex_none, digit_low, digit_high, div_suc, one_at_least}
use Rattle.spelling.proofs.ReadsBack.{Fit, Fits, none, more}

-- s spells lanes l, where d digits of the first are left and v is the number of those before them
record Spelt (b w n d v : ℕ) (s l : List ℕ) : Type 0 where
  x : ℕ
  xs : List ℕ
  lanes : l ≡ x ∷ xs
  text : s ≡ hex_bytes d x ++ lanes_text 44 w xs
  front : v ≡ x / 16 ^ d
  count : length xs ≡ n
  low : (j : ℕ) → j < d → x / 16 ^ j % 16 < b
  rest : Fits b w xs

digit_good : {p : ℕ} {l : List ℕ} → digit_at p ≡ good l → ⊥
digit_good {p} {l} e = let z : ◌≡◌ {A = ℕ} 0 1 = cc in omega arith

count_good : {p : ℕ} {l : List ℕ} → count_at p ≡ good l → ⊥
count_good {p} {l} e = let z : ◌≡◌ {A = ℕ} 0 1 = cc in omega arith

-- the end of the field
at_end_lem : (b w n p v : ℕ) (l : List ℕ) (t : Bool) → eqb n 0 ≡ t → cond t (good (v ∷ [])) (count_at p) ≡ good l → Spelt b w n 0 v [] l
unfolding lanes_text
at_end_lem b w n p v l true en e = record {
  x = v;
  xs = [];
  lanes = cc;
  text = rw (hex_none v);
  front = sym (no_digits v);
  count = sym (eqb-true n 0 en);
  low = λ j h. absurd (omega arith);
  rest = none;
}
at_end_lem b w n p v l false en e = absurd (count_good e)

-- the fit of a lane whose digits are all read
no_more : (x w : ℕ) → 0 ≡ x / 16 ^ w → x < 16 ^ w
no_more x w e = rw (← e, zero-mul, zero-add) at (lt-div-mul-add {a = x} {b = 16 ^ w} (one_at_least w))

far_digit : (b w x j : ℕ) (t : Bool) → ltb j w ≡ t → 0 < b → x < 16 ^ w → ((i : ℕ) → i < w → x / 16 ^ i % 16 < b) → x / 16 ^ j % 16 < b
far_digit b w x j true e h s f = f j (ltb-true j w e)
far_digit b w x j false e h s f =
    let p = pow-le-pow_right {n = 16} (omega arith) {i = w} {j = j} (ltb-false j w e) in
    let q : x < 16 ^ j = omega arith in
    rw (div-eq_of_lt q) h

whole : (b w x : ℕ) → 0 < b → 0 ≡ x / 16 ^ w → ((j : ℕ) → j < w → x / 16 ^ j % 16 < b) → Fit b w x
whole b w x h e f = record { small = no_more x w e; digits = λ j. far_digit b w x j (ltb j w) refl h (no_more x w e) f }

-- a comma after a lane
before_good : (v : ℕ) (r : Scanned) (l : List ℕ) → before v r ≡ good l → (m : List ℕ) × (r ≡ good m) × (l ≡ v ∷ m)
before_good v (digit_at p) l e = absurd (digit_good e)
before_good v (count_at p) l e = absurd (count_good e)
before_good v (good m) l e = (m, refl, cc)

at_comma : (b w n v c : ℕ) (t l m : List ℕ) → 0 < b → c ≡ 44 → (n ≡ 0 → ⊥) → l ≡ v ∷ m → Spelt b w (n - 1) w 0 t m → Spelt b w n 0 v (c ∷ t) l
unfolding lanes_text
at_comma b w n v c t l m hb ec en el i = record {
  x = v;
  xs = i.x ∷ i.xs;
  lanes = el ∙ ap (λ (k : List ℕ). v ∷ k) i.lanes;
  text = rw (ec, hex_none v) (ap (λ (k : List ℕ). 44 ∷ k) i.text);
  front = sym (no_digits v);
  count = omega (arith, i.count);
  low = λ j h. absurd (omega arith);
  rest = more (whole b w i.x hb i.front i.low) i.rest;
}

-- a digit
last_digit : (b d x j : ℕ) (t : Bool) → ltb j d ≡ t → j < suc d → x / 16 ^ d % 16 < b → ((i : ℕ) → i < d → x / 16 ^ i % 16 < b) → x / 16 ^ j % 16 < b
last_digit b d x j true e h q f = f j (ltb-true j d e)
last_digit b d x j false e h q f =
    let z : j ≡ d = omega (arith, ltb-false j d e) in
    rw z q

at_digit : (b w n d v c : ℕ) (t l : List ℕ) → b ≤ 16 → digit_of c < b → Spelt b w n d (v * 16 + digit_of c) t l → Spelt b w n (suc d) v (c ∷ t) l
at_digit b w n d v c t l hb hc i =
    let hq : digit_of c < 16 = omega arith in
    let e : i.x / 16 ^ d % 16 ≡ digit_of c = rw (← i.front) (digit_low v (digit_of c) hq) in
    record {
      x = i.x;
      xs = i.xs;
      lanes = i.lanes;
      text = rw (hex_front d i.x, e, byte_digit c hq) (ap (λ (k : List ℕ). c ∷ k) i.text);
      front = rw (div_suc d i.x, ← i.front) (sym (digit_high v (digit_of c) hq));
      count = i.count;
      low = λ j h. last_digit b d i.x j (ltb j d) refl h (rw e hc) i.low;
      rest = i.rest;
    }

-- by the tests that reading makes
lane_full : (b w n p v c : ℕ) (t l : List ℕ) (tc tn : Bool) → eqb c 44 ≡ tc → eqb n 0 ≡ tn → 0 < b
    → ((m : List ℕ) → lanes_at b w (n - 1) w (p + 1) 0 t ≡ good m → Spelt b w (n - 1) w 0 t m)
    → cond tc (cond tn (count_at p) (before v (lanes_at b w (n - 1) w (p + 1) 0 t))) (digit_at p) ≡ good l → Spelt b w n 0 v (c ∷ t) l
lane_full b w n p v c t l true true ec en h ih e = absurd (count_good e)
lane_full b w n p v c t l true false ec en h ih e =
    let g = before_good v (lanes_at b w (n - 1) w (p + 1) 0 t) l e in
    at_comma b w n v c t l g.0 h (eqb-true c 44 ec) (eqb-false n 0 en) g.2 (ih g.0 g.1)
lane_full b w n p v c t l false tn ec en h ih e = absurd (digit_good e)

lane_due : (b w n d p v c : ℕ) (t l : List ℕ) (tb : Bool) → ltb (digit_of c) b ≡ tb → b ≤ 16
    → (lanes_at b w n (suc d - 1) (p + 1) (v * 16 + digit_of c) t ≡ good l → Spelt b w n (suc d - 1) (v * 16 + digit_of c) t l)
    → cond tb (lanes_at b w n (suc d - 1) (p + 1) (v * 16 + digit_of c) t) (digit_at p) ≡ good l → Spelt b w n (suc d) v (c ∷ t) l
lane_due b w n d p v c t l true eb h ih e =
    let z : suc d - 1 ≡ d = omega arith in
    at_digit b w n d v c t l h (ltb-true (digit_of c) b eb) (rw z at (ih e))
lane_due b w n d p v c t l false eb h ih e = absurd (digit_good e)

-- what is read without a fault is spelt
spelt : (b w n d p v : ℕ) (s l : List ℕ) → 0 < b → b ≤ 16 → lanes_at b w n d p v s ≡ good l → Spelt b w n d v s l
unfolding lanes_at
spelt b w n zero p v [] l z h e = at_end_lem b w n p v l (eqb n 0) refl e
spelt b w n (suc d) p v [] l z h e = absurd (digit_good (rw (eqb-suc-zero d) at e))
spelt b w n zero p v (c ∷ t) l z h e = lane_full b w n p v c t l (eqb c 44) (eqb n 0) refl refl z (λ m q. spelt b w (n - 1) w (p + 1) 0 t m z h q) e
spelt b w n (suc d) p v (c ∷ t) l z h e =
    lane_due b w n d p v c t l (ltb (digit_of c) b) refl h (λ q. spelt b w n (suc d - 1) (p + 1) (v * 16 + digit_of c) t l z h q) (rw (eqb-suc-zero d) at e)

-- the lanes t of a value of type k, read into r
record Read (k : Kind) (t : List ℕ) (r : Reading) : Type 0 where
  list : List ℕ
  is : r ≡ found (value k list)
  some : 0 < lane_count k
  count : length list ≡ lane_count k
  fit : Fits (digit_bound (scalar_of k)) (digit_count (scalar_of k)) list
  text : 58 ∷ t ≡ lanes_text 58 (digit_count (scalar_of k)) list

bound : (s : Scalar) → (0 < digit_bound s) × (digit_bound s ≤ 16)
bound Boolean = (omega arith, omega arith)
bound I32 = (omega arith, omega arith)
bound U32 = (omega arith, omega arith)
bound F32 = (omega arith, omega arith)
bound F16 = (omega arith, omega arith)

lanes_so : (b w n : ℕ) (t l : List ℕ) → 0 < b → Spelt b w n w 0 t l → (length l ≡ suc n) × Fits b w l × (58 ∷ t ≡ lanes_text 58 w l)
unfolding lanes_text
lanes_so b w n t l z i = (
  rw i.lanes (ap suc i.count),
  rw i.lanes (more (whole b w i.x z i.front i.low) i.rest),
  rw i.lanes (ap (λ (k : List ℕ). 58 ∷ k) i.text),
)

-- a fault is told
told : {f : Fault} → f ≡ Nothing → fault_number f ≡ 0
told e = ap fault_number e

by_lanes : (k : Kind) (p : ℕ) (t : List ℕ) (tn : Bool) (r : Scanned) → eqb (lane_count k) 0 ≡ tn
    → lanes_at (digit_bound (scalar_of k)) (digit_count (scalar_of k)) (lane_count k - 1) (digit_count (scalar_of k)) p 0 t ≡ r
    → (cond tn (wrong TypeSpelling 1) (reading k r)).fault ≡ Nothing → Read k t (cond tn (wrong TypeSpelling 1) (reading k r))
unfolding wrong
by_lanes k p t true r en er e = absurd (omega (arith, told e))
by_lanes k p t false (digit_at q) en er e = absurd (omega (arith, told e))
by_lanes k p t false (count_at q) en er e = absurd (omega (arith, told e))
by_lanes k p t false (good l) en er e =
    let b = bound (scalar_of k) in
    let n : suc (lane_count k - 1) ≡ lane_count k = omega (arith, eqb-false (lane_count k) 0 en) in
    let s = lanes_so (digit_bound (scalar_of k)) (digit_count (scalar_of k)) (lane_count k - 1) t l b.0
    (spelt (digit_bound (scalar_of k)) (digit_count (scalar_of k)) (lane_count k - 1) (digit_count (scalar_of k)) p 0 t l b.0 b.1 er) in
    record { list = l; is = refl; some = omega arith; count = s.0 ∙ n; fit = s.1; text = s.2 }

lanes_read : (k : Kind) (p : ℕ) (t : List ℕ) → (read_lanes k p t).fault ≡ Nothing → Read k t (read_lanes k p t)
unfolding read_lanes
lanes_read k p t e =
    by_lanes k p t (eqb (lane_count k) 0) (lanes_at (digit_bound (scalar_of k)) (digit_count (scalar_of k)) (lane_count k - 1) (digit_count (scalar_of k)) p 0 t) refl refl e

-- the text of a value that was read
read_text : (k : Kind) (t : List ℕ) (r : Reading) → Read k t r → text_of r.value ≡ spelled k ++ (58 ∷ t)
unfolding text_of found value
read_text k t r i = rw (i.is, take_at i.list (replicate (16 - length i.list) 0) (lane_count k) i.count, ← i.text)

-- and that it is well formed
below : (s : Scalar) (x : ℕ) → Fit (digit_bound s) (digit_count s) x → x < 2 ^ lane_bits s
below Boolean x f = omega (arith, f.small, rw (pow-zero, div-one, mod-eq_of_lt {n = x} {m = 16} f.small) at (f.digits 0))
below I32 x f = omega (arith, f.small)
below U32 x f = omega (arith, f.small)
below F32 x f = omega (arith, f.small)
below F16 x f = omega (arith, f.small)

all_below : (s : Scalar) (l : List ℕ) → Fits (digit_bound s) (digit_count s) l → every (λ x. ltb x (2 ^ lane_bits s)) l ≡ true
all_below s [] none = refl
all_below s (x ∷ xs) (more f fs) = rw (lt-ltb x (2 ^ lane_bits s) (below s x f)) (all_below s xs fs)

-- what is read without a fault is spelled as it was read, well formed, and has 16 lanes
pub record Spelled (s : List ℕ) (v : Value) : Type 0 where
  pub text : s ≡ text_of v
  pub formed : well_formed v ≡ true
  pub lanes : length v.lanes ≡ 16

read_formed : (k : Kind) (t : List ℕ) (r : Reading) → Read k t r → (well_formed r.value ≡ true) × (length r.value.lanes ≡ 16)
unfolding found
read_formed k t r i =
    rw i.is (
      formed k i.list (typed k ∙ lt-ltb 0 (lane_count k) i.some) i.count (all_below (scalar_of k) i.list i.fit),
      lanes_16 k i.list (omega (arith, i.count, lanes_at_most_16 k)),
    )

by_split : (s : List ℕ) (t : Bool) → ltb (colon_at s) (length s) ≡ t
    → (cond t (read_lanes (kind_of (take (colon_at s) s)) (colon_at s + 2) (drop (colon_at s + 1) s)) (wrong TypeSpelling 1)).fault ≡ Nothing
    → Spelled s (cond t (read_lanes (kind_of (take (colon_at s) s)) (colon_at s + 2) (drop (colon_at s + 1) s)) (wrong TypeSpelling 1)).value
unfolding wrong
by_split s false h e = absurd (omega (arith, told e))
by_split s true h e =
    let k = kind_of (take (colon_at s) s) in
    let t = drop (colon_at s + 1) s in
    let r = read_lanes k (colon_at s + 2) t in
    let i = lanes_read k (colon_at s + 2) t e in
    let q = spelled_kind (take (colon_at s) s) k refl (typed k ∙ lt-ltb 0 (lane_count k) i.some) in
    record {
      text = place_split (byte ":") s (ltb-true (colon_at s) (length s) h) ∙ ap (λ (l : List ℕ). l ++ (58 ∷ t)) q ∙ sym (read_text k t r i);
      formed = (read_formed k t r i).0;
      lanes = (read_formed k t r i).1;
    }

pub written_so : (s : List ℕ) → (read_value s).fault ≡ Nothing → Spelled s (read_value s).value
unfolding read_value
written_so s e = by_split s (ltb (colon_at s) (length s)) refl e

-- where there is a fault, the value is the empty one
reading_empty : (k : Kind) (r : Scanned) → ((reading k r).fault ≡ Nothing → ⊥) → (reading k r).value ≡ empty_value
unfolding wrong found
reading_empty k (digit_at p) h = refl
reading_empty k (count_at p) h = refl
reading_empty k (good l) h = absurd (h refl)

cond_empty : (t : Bool) (a b : Reading) → ((a.fault ≡ Nothing → ⊥) → a.value ≡ empty_value) → ((b.fault ≡ Nothing → ⊥) → b.value ≡ empty_value)
    → ((cond t a b).fault ≡ Nothing → ⊥) → (cond t a b).value ≡ empty_value
cond_empty true a b p q h = p h
cond_empty false a b p q h = q h

wrong_empty : (f : Fault) (p : ℕ) → (wrong f p).value ≡ empty_value
unfolding wrong
wrong_empty f p = refl

pub fault_empty : (s : List ℕ) → ((read_value s).fault ≡ Nothing → ⊥) → (read_value s).value ≡ empty_value
unfolding read_value read_lanes
fault_empty s =
    let k = kind_of (take (colon_at s) s) in
    let r = lanes_at (digit_bound (scalar_of k)) (digit_count (scalar_of k)) (lane_count k - 1) (digit_count (scalar_of k)) (colon_at s + 2) 0 (drop (colon_at s + 1) s) in
    cond_empty (ltb (colon_at s) (length s)) (cond (eqb (lane_count k) 0) (wrong TypeSpelling 1) (reading k r)) (wrong TypeSpelling 1)
    (cond_empty (eqb (lane_count k) 0) (wrong TypeSpelling 1) (reading k r) (λ h. wrong_empty TypeSpelling 1) (reading_empty k r)) (λ h. wrong_empty TypeSpelling 1)

-- so what is read has 16 lanes
pub read_lanes_lem : (s : List ℕ) → length (read_value s).value.lanes ≡ 16
unfolding empty_value
read_lanes_lem s = by (read_value s).fault refl
  where
    empty : {f : Fault} → (read_value s).fault ≡ f → 0 < fault_number f → length (read_value s).value.lanes ≡ 16
    empty e h = rw (fault_empty s (λ n. omega (arith, ap fault_number e, told n)))

    by : (f : Fault) → (read_value s).fault ≡ f → length (read_value s).value.lanes ≡ 16
    by Nothing e = (written_so s e).lanes
    by TypeSpelling e = empty e (omega arith)
    by Lanes e = empty e (omega arith)
    by Digit e = empty e (omega arith)
