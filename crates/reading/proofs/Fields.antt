-- A field is its bytes up to the first tab. What the program finds in it is what the definition reads: sound, since the type stands before the lanes and the text of a
-- value has no tab; complete, since of a text that spells a value the program finds the type, the end and each lane, so that where it finds none there is a fault. Assumes nothing.
use Prim.Native.Nat.{ℕ, zero, suc, ◌+◌, ◌*◌, ◌-◌, ◌≤◌, ◌<◌}
use mathlib.Core.Bool.{Bool, true, false, not, cond, ◌&&◌, false≢true}
use mathlib.Core.List.{List, [], ◌∷◌, ◌++◌, append_assoc, append-nil}
use mathlib.Core.Logic.{◌⊎◌, inl, inr, ⊎_elim}
use mathlib.Core.Path.{◌≡◌, refl, ap, sym, ◌∙◌}
use native.Mathlib.Nat.{sub-zero}
use native.Mathlib.Omega.{arith}
use borrow.Author.Tests.{eq-eqb, eqb-true, eqb-false, not-true, ltb-true, ltb-false, ne_eqb}
use lib.Dec.{eqb, ltb}
use lib.ListN.{length, take, drop, get_or, take-append-drop}
use lib.Seq.{take_all, drop_at, take-take, length-take-le, get_or_at}
use Rattle.values.specs.declared.Kind.{Kind}
use Rattle.values.specs.declared.Scalar.{Scalar}
use Rattle.values.specs.declared.Value.{Value}
use Rattle.values.specs.Value.{scalar_of, lane_count, lanes_of, is_type, place, kind_at, value, empty_value}
use Rattle.values.proofs.Bools.{both}
use Rattle.values.proofs.Formed.{is_type_lem, used_below}
use Rattle.values.proofs.Places as places
use Rattle.buffers.specs.Text.{place_of}
use Rattle.buffers.proofs.FirstPlace.{place_le, place_hit, place_past, place_split}
use Rattle.places.proofs.Tables.{own_place, typed}
use Rattle.spelling.specs.declared.Fault.{Fault}
use Rattle.spelling.specs.declared.Fault.TheVariants.{Nothing, TypeSpelling, Lanes, Digit}
use Rattle.spelling.specs.Types.{spelled}
use Rattle.spelling.specs.Hex.{digit_count, digit_bound}
use Rattle.spelling.specs.Read.{fault_number, good, lanes_at, wrong, found, reading, read_value}
use Rattle.spelling.specs.Write.{lanes_text, text_of, text_length}
use Rattle.spelling.proofs.ReadsBack.{fits, read_back}
use Rattle.spelling.proofs.Texts.{text_16, at_most_8}
use Rattle.spelling.proofs.TextBytes.{text_tabless}
use Rattle.spelling.proofs.WrittenSo.{Spelled, written_so, fault_empty}
use Rattle.typenames.specs.Program.{type_from}
use Rattle.digits.specs.Program.{lanes_from}
use Rattle.reading.specs.Program.{ends}
use Rattle.digits.proofs.LaneTexts.{from_most, lanes_read, lanes_there}
use Rattle.spelling.proofs.Scan.{lanes_of_lem}
use Rattle.typenames.proofs.TypeTexts.{sound, complete}
use Rattle.typenames.proofs.BeforeColon.{colon_behind}

-- the lanes that the program finds in a text of a type
abbrev pub lanes_in : Kind → List ℕ → List ℕ
lanes_in k s = lanes_from (digit_bound (scalar_of k)) (digit_count (scalar_of k)) 58 (lane_count k) s (length (spelled k))

pub lanes_most : (k : Kind) (s : List ℕ) → (length (lanes_in k s) ≤ lane_count k) × (length (lanes_in k s) ≤ 16)
lanes_most k s =
    let h = from_most (digit_bound (scalar_of k)) (digit_count (scalar_of k)) 58 (lane_count k) s (length (spelled k)) in
    (h, omega (arith, places.lanes_at_most_16 k))

-- as the code has it, in a part of the text
pub lanes_parts : (t : List ℕ) (len : ℕ) (k : Kind) {s : Scalar} {n start : ℕ} → s ≡ scalar_of k → n ≡ lane_count k → start ≡ length (spelled k)
    → lanes_from (digit_bound s) (digit_count s) 58 n (take (len - 0) (drop 0 t)) start ≡ lanes_in k (take len t)
lanes_parts t len k es en el = rw (es, en, el, sub-zero)

-- ---- ends

pub ends_within : (t : List ℕ) (e : ℕ) → ends t e ≡ true → e ≤ length t
ends_within t e = by (ltb e (length t)) refl
  where
    by : (on : Bool) → ltb e (length t) ≡ on → cond on (eqb (get_or t e 0) 9) (eqb e (length t)) ≡ true → e ≤ length t
    by true l h = omega (arith, ltb-true e (length t) l)
    by false l h = omega (arith, eqb-true e (length t) h)

-- where no tab stands before it
ends_first : (t : List ℕ) (e : ℕ) → ends t e ≡ true → e ≤ place_of 9 t → e ≡ place_of 9 t
ends_first t e = by (ltb e (length t)) refl
  where
    by : (on : Bool) → ltb e (length t) ≡ on → cond on (eqb (get_or t e 0) 9) (eqb e (length t)) ≡ true → e ≤ place_of 9 t → e ≡ place_of 9 t
    by true l h a = omega (arith, place_hit 9 t e (ltb-true e (length t) l) (eqb-true (get_or t e 0) 9 h))
    by false l h a = omega (arith, eqb-true e (length t) h, place_le 9 t)

first_ends : (t : List ℕ) → ends t (place_of 9 t) ≡ true
first_ends t = by (ltb (place_of 9 t) (length t)) refl
  where
    by : (on : Bool) → ltb (place_of 9 t) (length t) ≡ on → cond on (eqb (get_or t (place_of 9 t) 0) 9) (eqb (place_of 9 t) (length t)) ≡ true
    by true l =
        let h = ltb-true (place_of 9 t) (length t) l in
        eq-eqb (get_or t (place_of 9 t) 0) 9
        (ap (λ (u : List ℕ). get_or u (place_of 9 t) 0) (place_split 9 t h) ∙ get_or_at (take (place_of 9 t) t) 9 (drop (place_of 9 t + 1) t) 0 (place_of 9 t) (length-take-le (place_of 9 t) t (place_le 9 t)))
    by false l = eq-eqb (place_of 9 t) (length t) (omega (arith, place_le 9 t, ltb-false (place_of 9 t) (length t) l))

module _ (t : List ℕ) where
  abbrev pub field : List ℕ
  field = take (place_of 9 t) t

  -- ---- complete

  module _ (right : (read_value field).fault ≡ Nothing) where
    abbrev read : Value
    read = (read_value field).value

    so : Spelled field read
    so = written_so field right

    is : is_type read.kind ≡ true
    is = is_type_lem read so.formed

    text : field ≡ spelled read.kind ++ lanes_text 58 (digit_count (scalar_of read.kind)) (lanes_of read)
    unfolding text_of
    text = so.text

    type : type_from t ≡ place read.kind
    type =
        ap type_from
        (sym (take-append-drop (place_of 9 t) t) ∙ ap (λ (l : List ℕ). l ++ drop (place_of 9 t) t) text
        ∙ append_assoc (spelled read.kind) (lanes_text 58 (digit_count (scalar_of read.kind)) (lanes_of read)) (drop (place_of 9 t) t))
        ∙ complete read.kind (lanes_text 58 (digit_count (scalar_of read.kind)) (lanes_of read) ++ drop (place_of 9 t) t) is

    kind : {p : ℕ} → p ≡ type_from t → kind_at p ≡ read.kind
    kind e = ap kind_at (e ∙ type) ∙ places.there read.kind

    long : text_length read.kind ≡ place_of 9 t
    long = sym (text_16 read so.lanes) ∙ ap length (sym so.text) ∙ length-take-le (place_of 9 t) t (place_le 9 t)

    lanes : lanes_in read.kind field ≡ lanes_of read
    lanes =
        let k = read.kind in
        let n : length (lanes_of read) ≡ lane_count k = length-take-le (lane_count k) read.lanes (omega (arith, places.lanes_at_most_16 k, so.lanes)) in
        let rest : drop (length (spelled k)) field ≡ lanes_text 58 (digit_count (scalar_of k)) (lanes_of read) ++ []
        = ap (drop (length (spelled k))) text ∙ drop_at (spelled k) _ (length (spelled k)) refl ∙ sym (append-nil _) in
        rw n at (lanes_there (digit_bound (scalar_of k)) (digit_count (scalar_of k)) (at_most_8 (scalar_of k)) field 58 (length (spelled k)) (lanes_of read) []
        (fits (scalar_of k) (lanes_of read) (used_below read so.formed)) rest)

  module _ {p len : ℕ} (ep : p ≡ type_from t) (el : len ≡ text_length (kind_at p)) where
    ended : (read_value field).fault ≡ Nothing → len ≡ place_of 9 t
    ended right = el ∙ ap text_length (kind right ep) ∙ long right

    pub none_ended : ends t len ≡ false → (read_value field).value ≡ empty_value
    none_ended e = fault_empty field (λ right. false≢true (sym e ∙ rw (ended right) (first_ends t)))

    pub none_found : length (lanes_in (kind_at p) (take len t)) < lane_count (kind_at p) → (read_value field).value ≡ empty_value
    none_found h =
        fault_empty field
        (λ right.
        let n : length (lanes_in (kind_at p) (take len t)) ≡ lane_count (kind_at p)
        = rw (ended right, kind right ep, lanes right) (length-take-le _ _ (omega (arith, places.lanes_at_most_16 (read right).kind, (so right).lanes))) in
        omega arith)

    -- ---- sound

    none_typed : p ≡ 0 → (read_value field).value ≡ empty_value
    none_typed z =
        fault_empty field
        (λ right.
        let e : place (read right).kind ≡ 0 = sym (type right) ∙ sym ep ∙ z in
        false≢true (rw (eq-eqb (place (read right).kind) 0 e) at (typed (read right).kind ∙ is right)))

    module _ (at : ends t len ≡ true) (enough : lane_count (kind_at p) ≤ length (lanes_in (kind_at p) (take len t))) where
      all : length (lanes_in (kind_at p) (take len t)) ≡ lane_count (kind_at p)
      all = omega (arith, (lanes_most (kind_at p) (take len t)).0)

      module _ (some : 0 < p) where
        below : p < 39
        below = rw ep (sound t (rw ep at some)).0

        counted : 0 < lane_count (kind_at p)
        counted =
            ltb-true 0 (lane_count (kind_at p))
            (sym (places.typed (kind_at p)) ∙ sym (typed (kind_at p)) ∙ rw (own_place p below, ne_eqb p 0 (λ z. omega arith)))

        room : length (take len t) ≡ length (spelled (kind_at p)) + lane_count (kind_at p) * (digit_count (scalar_of (kind_at p)) + 1)
        unfolding text_length
        room = length-take-le len t (ends_within t len at) ∙ el

        lanes_so : (get_or (take len t) (length (spelled (kind_at p))) 0 ≡ 58) × (length (spelled (kind_at p)) < length (take len t))
            × (lanes_at (digit_bound (scalar_of (kind_at p))) (digit_count (scalar_of (kind_at p))) (lane_count (kind_at p) - 1) (digit_count (scalar_of (kind_at p))) (1 + (length (spelled (kind_at p)) + 1)) 0 (drop (length (spelled (kind_at p)) + 1) (take len t))
            ≡ good (lanes_in (kind_at p) (take len t)))
        lanes_so = lanes_read (digit_bound (scalar_of (kind_at p))) (digit_count (scalar_of (kind_at p))) 1 (take len t) (lane_count (kind_at p)) (length (spelled (kind_at p))) counted room all

        -- a field is its type, a colon and its lanes
        is_read : read_value (take len t) ≡ found (value (kind_at p) (lanes_in (kind_at p) (take len t)))
        is_read =
            let n = length (spelled (kind_at p)) in
            let l : n ≤ len = omega (arith, length-take-le len t (ends_within t len at), lanes_so.1) in
            let front : take n (take len t) ≡ spelled (kind_at p) = take-take n len t l ∙ rw ep (sound t (rw ep at some)).1 in
            let at : n + 2 ≡ 1 + (n + 1) = omega arith in
            colon_behind (kind_at p) (take len t) refl front lanes_so.0
            ∙ rw at (sym (lanes_of_lem (kind_at p) (1 + (n + 1)) (drop (n + 1) (take len t)) refl refl refl refl (λ z. omega (arith, counted)) (ap (reading (kind_at p)) (sym lanes_so.2))))

        first : len ≡ place_of 9 t
        unfolding found
        first =
            let w = written_so (take len t) (ap (λ r. r.fault) is_read) in
            let a : length (take len t) ≤ place_of 9 t = rw take-append-drop at (place_past 9 (take len t) (drop len t) (rw w.text (text_tabless _))) in
            ends_first t len at (omega (arith, length-take-le len t (ends_within t len at)))

      pub is_found : (0 < len → len ≡ place_of 9 t) × ((read_value field).value ≡ value (kind_at p) (lanes_in (kind_at p) (take len t)))
      unfolding kind_at text_length value empty_value found lanes_from
      is_found = by p refl
        where
          by : (q : ℕ) → p ≡ q → (0 < len → len ≡ place_of 9 t) × ((read_value field).value ≡ value (kind_at p) (lanes_in (kind_at p) (take len t)))
          by zero z = (λ h. absurd (omega (arith, el ∙ ap (λ (q : ℕ). text_length (kind_at q)) z)), none_typed z ∙ rw z)
          by (suc q) z =
              let some : 0 < p = omega arith in
              (λ h. first some, ap (λ (n : ℕ). (read_value (take n t)).value) (sym (first some)) ∙ ap (λ r. r.value) (is_read some))

-- where nothing is left there is no value
pub nothing_left : (t : List ℕ) → length t ≡ 0 → (0 ≡ place_of 9 t) × ((read_value (field t)).value ≡ empty_value)
unfolding place_of read_value wrong
nothing_left [] e = (refl, refl)
nothing_left (x ∷ t) e = absurd (omega arith)

-- ---- a field that is all of a text

fault_or_not : (f : Fault) → (f ≡ Nothing) ⊎ (f ≡ Nothing → ⊥)
fault_or_not Nothing = inl refl
fault_or_not TypeSpelling = inr (λ e. omega (arith, ap fault_number e))
fault_or_not Lanes = inr (λ e. omega (arith, ap fault_number e))
fault_or_not Digit = inr (λ e. omega (arith, ap fault_number e))

module _ (s : List ℕ) {v : Value} (ev : v ≡ (read_value (field s)).value) where
  all_of_it : place_of 9 s ≡ length s → v ≡ (read_value s).value
  all_of_it e = ev ∙ ap (λ (t : List ℕ). (read_value t).value) (take_all (place_of 9 s) s (omega arith))

  -- a value in it is what the text spells
  pub whole_found : not (eqb (place v.kind) 0) && eqb (place_of 9 s) (length s) ≡ true → found v ≡ read_value s
  unfolding empty_value
  whole_found t =
      let tests = both (not (eqb (place v.kind) 0)) (eqb (place_of 9 s) (length s)) t in
      let is = all_of_it (eqb-true (place_of 9 s) (length s) tests.1) in
      ⊎_elim
      (λ right.
      let so = written_so s right in
      rw is (sym (ap read_value so.text ∙ read_back (read_value s).value so.lanes so.formed)))
      (λ wrong. absurd (eqb-false (place v.kind) 0 (not-true _ tests.0) (ap (λ (u : Value). place u.kind) (is ∙ fault_empty s wrong))))
      (fault_or_not (read_value s).fault)

  -- and where there is none, or a tab, there is a fault
  pub whole_none : not (eqb (place v.kind) 0) && eqb (place_of 9 s) (length s) ≡ false → empty_value ≡ (read_value s).value
  whole_none t =
      sym
      (fault_empty s
      (λ right.
      let so = written_so s right in
      let past = place_past 9 s [] (rw so.text (text_tabless _)) in
      let e : place_of 9 s ≡ length s = omega (arith, place_le 9 s, rw append-nil at past) in
      let k : is_type v.kind ≡ true = rw (all_of_it e) (is_type_lem (read_value s).value so.formed) in
      false≢true (sym t ∙ rw (typed v.kind, k, eq-eqb (place_of 9 s) (length s) e))))
