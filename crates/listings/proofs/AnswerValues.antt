-- The values of an answer line that is not refused are well formed, and the line is their text, by cases on its fields: what is read without a fault was written so, and a line is its fields with tabs between them. Assumes nothing.
use Prim.Native.Nat.{ℕ, ◌<◌}
use mathlib.Core.Bool.{Bool, true, false, cond, ◌&&◌}
use mathlib.Core.List.{List, [], ◌∷◌, ◌++◌, append-nil}
use mathlib.Core.Logic.{◌⊎◌, inl, inr}
use mathlib.Core.Path.{◌≡◌, refl, ap, sym, ◌∙◌}
use native.Mathlib.Omega.{arith}
use lib.Dec.{eqb}
use lib.ListN.{length}
use borrow.Author.Tests.{eqb-true}
use Rattle.values.specs.Value.{empty_value, well_formed, Formed}
use Rattle.values.specs.declared.Value.{Value}
use Rattle.values.proofs.Bools.{both}
use Rattle.values.proofs.Formed.{is_type_lem}
use Rattle.spelling.specs.declared.Fault.{Fault}
use Rattle.spelling.specs.declared.Fault.TheVariants.{Nothing, TypeSpelling, Lanes, Digit}
use Rattle.spelling.specs.Read.{read_value}
use Rattle.spelling.specs.Write.{text_of}
use Rattle.spelling.proofs.WrittenSo.{written_so}
use Rattle.fields.specs.Fields.{tab, fields, on_first}
use Rattle.answers.specs.Answers.{second_text}
use Rattle.listings.specs.declared.Answered.{Answered}
use Rattle.listings.specs.Answers.{no_answer, refused_line, values_line, is_number, is_pair, faultless, says_refused, lone_line, pair_line, of_fields, read_answer}
use Rattle.listings.proofs.Parted.{some}

-- a lone value, or a pair, and the text of the one or the two
abbrev pub Values : List ℕ → Answered → Type 0
Values s a =
    Formed a.first × ((a.second ≡ empty_value) ⊎ (Formed a.second × (is_pair a.first.kind a.second.kind ≡ true)))
    × (s ≡ text_of a.first ++ second_text a.second)

-- where a line is no answer line or a refused one, nothing is asked
abbrev Asked : List ℕ → Answered → Type 0
Asked s a = a.ok ≡ true → a.refused ≡ false → Values s a

none : (s : List ℕ) → Asked s no_answer
unfolding no_answer
none s h g = let z : ◌≡◌ {A = ℕ} 0 1 = cc in absurd (omega arith)

refusal : (s : List ℕ) (b : Bool) → Asked s (cond b refused_line no_answer)
unfolding refused_line
refusal s true h g = let z : ◌≡◌ {A = ℕ} 0 1 = cc in absurd (omega arith)
refusal s false h g = none s h g

no_fault : (f : Fault) → faultless f ≡ true → f ≡ Nothing
no_fault Nothing e = refl
no_fault TypeSpelling e = let z : ◌≡◌ {A = ℕ} 0 1 = cc in absurd (omega arith)
no_fault Lanes e = let z : ◌≡◌ {A = ℕ} 0 1 = cc in absurd (omega arith)
no_fault Digit e = let z : ◌≡◌ {A = ℕ} 0 1 = cc in absurd (omega arith)

text : (s : List ℕ) → faultless (read_value s).fault ≡ true → s ≡ text_of (read_value s).value
text s e = (written_so s (no_fault (read_value s).fault e)).text

formed : (s : List ℕ) → faultless (read_value s).fault ≡ true → Formed (read_value s).value
formed s e =
    let w = written_so s (no_fault (read_value s).fault e) in
    record { good = w.formed; lanes = w.lanes }

pub no_second : second_text empty_value ≡ []
unfolding second_text empty_value
no_second = refl

pub second : (v : Value) → well_formed v ≡ true → second_text v ≡ tab ∷ text_of v
unfolding second_text
second v w = rw (is_type_lem v w)

lone : (s : List ℕ) → Asked s (lone_line (read_value s))
unfolding values_line
lone s = by (faultless (read_value s).fault) refl
  where
    by : (b : Bool) → faultless (read_value s).fault ≡ b → Asked s (cond b (values_line (read_value s).value empty_value) no_answer)
    by true e h g = (formed s e, inl refl, text s e ∙ sym (rw (no_second, append-nil)))
    by false e h g = none s h g

pair : (s t : List ℕ) → Asked (s ++ (tab ∷ t)) (pair_line (read_value s) (read_value t))
unfolding values_line
pair s t = by (faultless (read_value s).fault && faultless (read_value t).fault && is_pair (read_value s).value.kind (read_value t).value.kind) refl
  where
    by : (b : Bool) → faultless (read_value s).fault && faultless (read_value t).fault && is_pair (read_value s).value.kind (read_value t).value.kind ≡ b
        → Asked (s ++ (tab ∷ t)) (cond b (values_line (read_value s).value (read_value t).value) no_answer)
    by true e h g =
        let p = both (faultless (read_value s).fault && faultless (read_value t).fault) (is_pair (read_value s).value.kind (read_value t).value.kind) e in
        let q = both (faultless (read_value s).fault) (faultless (read_value t).fault) p.0 in
        let w = formed t q.1 in (
          formed s q.0,
          inr (w, p.1),
          ap (λ (l : List ℕ). l ++ (tab ∷ t)) (text s q.0)
              ∙ ap (λ (l : List ℕ). text_of (read_value s).value ++ l) (ap (λ (l : List ℕ). tab ∷ l) (text t q.1) ∙ sym (second (read_value t).value w.good)),
        )
    by false e h g = none (s ++ (tab ∷ t)) h g

two : (b : Bool) (s t : List ℕ) → Asked (s ++ (tab ∷ t)) (cond b (cond (is_number t) refused_line no_answer) (pair_line (read_value s) (read_value t)))
two true s t = refusal (s ++ (tab ∷ t)) (is_number t)
two false s t = pair s t

-- fields with tabs between them
unfoldable joined : List (List ℕ) → List ℕ
joined [] = []
joined (f ∷ []) = f
joined (f ∷ g ∷ l) = f ++ (tab ∷ joined (g ∷ l))

joined_first : (x : ℕ) (l : List (List ℕ)) → joined (on_first x l) ≡ x ∷ joined l
unfolding joined on_first
joined_first x [] = refl
joined_first x (f ∷ []) = refl
joined_first x (f ∷ g ∷ l) = refl

joined_next : (l : List (List ℕ)) → 0 < length l → joined ([] ∷ l) ≡ tab ∷ joined l
unfolding joined
joined_next [] h = absurd (omega arith)
joined_next (g ∷ l) h = refl

fields_joined : (s : List ℕ) → joined (fields s) ≡ s
unfolding fields joined
fields_joined [] = refl
fields_joined (x ∷ xs) = by (eqb x tab) refl (fields_joined xs)
  where
    by : (b : Bool) → eqb x tab ≡ b → joined (fields xs) ≡ xs → joined (cond b ([] ∷ fields xs) (on_first x (fields xs))) ≡ x ∷ xs
    by true e ih = joined_next (fields xs) (some xs) ∙ rw (ih, eqb-true x tab e)
    by false e ih = joined_first x (fields xs) ∙ rw ih

by_fields : (l : List (List ℕ)) → Asked (joined l) (of_fields l)
unfolding of_fields joined
by_fields [] = none []
by_fields (v ∷ []) = lone v
by_fields (v ∷ w ∷ []) = two (says_refused v) v w
by_fields (v ∷ n ∷ p ∷ []) = refusal (v ++ (tab ∷ (n ++ (tab ∷ p)))) (says_refused v && is_number n && is_number p)
by_fields (v ∷ n ∷ p ∷ x ∷ more) = none (joined (v ∷ n ∷ p ∷ x ∷ more))

pub values_formed : (s : List ℕ) → (read_answer s).ok ≡ true → (read_answer s).refused ≡ false → Values s (read_answer s)
unfolding read_answer
values_formed s = rw (fields_joined s) at (by_fields (fields s))
