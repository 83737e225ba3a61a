-- The arguments of a line gone through one by one: what is wrong with those behind the tab at `tab` is what is wrong with the first of them, or else with those behind the tab that ends it. Assumes nothing.
use Prim.Native.Nat.{ℕ, suc, ◌+◌, ◌-◌, ◌<◌, ◌≤◌}
use mathlib.Core.Bool.{Bool, true, false, cond}
use mathlib.Core.List.{List, []}
use mathlib.Core.Path.{◌≡◌, refl, ap, sym, ◌∙◌}
use native.Mathlib.Numerals.{add-one}
use native.Mathlib.Omega.{arith}
use borrow.Author.Tests.{lt-ltb, le-ltb, ltb-true, ltb-false, eq-eqb, ne_eqb}
use lib.Dec.{ltb, eqb}
use lib.ListN.{length, take, drop, length-drop}
use lib.Seq.{drop-drop, length-take-le, take_all}
use Rattle.values.specs.Value.{is_type}
use Rattle.buffers.proofs.FirstPlace.{place_le}
use Rattle.spelling.specs.Types.{kind_of}
use Rattle.spelling.proofs.FaultPlaces.{place_most}
use Rattle.fields.specs.Fields.{tab, fields}
use Rattle.fields.proofs.Tabs.{tab_at, cut, field_length}
use Rattle.misspellings.specs.declared.Misspelling.{Misspelling}
use Rattle.misspellings.specs.Misspellings.{misspelled, rightly, type_fault, field_fault, in_line, first_fault, line_fault}

-- what is wrong with the arguments behind the tab at t, of which there are none where t is the line's end
abbrev pub rest_fault : Bool → ℕ → List ℕ → Misspelling
rest_fault cast t line = cond (ltb t (length line)) (first_fault cast (t + 2) (fields (drop (suc t) line))) rightly

if_any : (cast : Bool) (at : ℕ) (fs : List (List ℕ)) (b : Bool) → first_fault cast at (cond b fs []) ≡ cond b (first_fault cast at fs) rightly
unfolding first_fault
if_any cast at fs true = refl
if_any cast at fs false = refl

pub all_arguments : (cast : Bool) (line : List ℕ) → line_fault cast line ≡ rest_fault cast (tab_at line) line
unfolding line_fault
all_arguments cast line =
    rw (field_length line, cut line) (if_any cast (tab_at line + 2) (fields (drop (suc (tab_at line)) line)) (ltb (tab_at line) (length line)))

pub no_more : (cast : Bool) (t : ℕ) (line : List ℕ) → length line ≤ t → rest_fault cast t line ≡ rightly
no_more cast t line h = rw (le-ltb t (length line) h)

same_test : (a b c d : ℕ) → (a < b → c < d) → (c < d → a < b) → ltb a b ≡ ltb c d
same_test a b c d f g = by (ltb a b) refl
  where
    by : (t : Bool) → ltb a b ≡ t → t ≡ ltb c d
    by true e = sym (lt-ltb c d (f (ltb-true a b e)))
    by false e = sym (by_no (ltb c d) refl)
      where
        by_no : (t : Bool) → ltb c d ≡ t → t ≡ false
        by_no true k = absurd (omega (arith, g (ltb-true c d k), ltb-false a b e))
        by_no false k = refl

-- what stands behind the tab at t, as the code cuts it
abbrev pub behind : List ℕ → ℕ → List ℕ
behind line t = take (length line - (t + 1)) (drop (t + 1) line)

behind_tab : (line : List ℕ) (t : ℕ) → behind line t ≡ drop (suc t) line
behind_tab line t = take_all (length line - (t + 1)) (drop (t + 1) line) (omega (arith, length-drop (t + 1) line)) ∙ rw add-one

pub length_behind : (line : List ℕ) (t : ℕ) → length (behind line t) ≡ length line - (t + 1)
length_behind line t = rw (behind_tab line t) (omega (arith, length-drop (suc t) line))

module _ (line : List ℕ) (t n : ℕ) (cast : Bool) (m : Misspelling) (h : t < length line) (en : n ≡ tab_at (behind line t)) (em : m ≡ field_fault cast (take (n - 0) (drop 0 (behind line t)))) where
  abbrev next : List (List ℕ)
  next = cond (ltb n (length (drop (suc t) line))) (fields (drop (suc n) (drop (suc t) line))) []

  ends : n ≡ tab_at (drop (suc t) line)
  ends = en ∙ ap tab_at (behind_tab line t)

  zero_less : n - 0 ≡ n
  zero_less = omega arith

  own : m ≡ field_fault cast (take n (drop (suc t) line))
  own = em ∙ ap (λ (l : List ℕ). field_fault cast (take (n - 0) l)) (behind_tab line t) ∙ ap (λ (k : ℕ). field_fault cast (take k (drop (suc t) line))) zero_less

  taken : rest_fault cast t line ≡ cond (eqb m.refusal 0) (first_fault false (t + 2 + length (take n (drop (suc t) line)) + 1) next) (in_line (t + 2) m)
  unfolding first_fault
  taken = rw (lt-ltb t (length line) h, cut (drop (suc t) line), ← ends, ← own)

  pub wrong_here : (m.refusal ≡ 0 → ⊥) → rest_fault cast t line ≡ in_line (t + 2) m
  wrong_here w = taken ∙ rw (ne_eqb _ _ w)

  pub right_here : m.refusal ≡ 0 → rest_fault cast t line ≡ rest_fault false (t + (n + 1)) line
  right_here r =
      let k : n ≤ length (drop (suc t) line) = rw ends (place_le tab (drop (suc t) line)) in
      let l : t + 2 + length (take n (drop (suc t) line)) + 1 ≡ t + (n + 1) + 2 = omega (arith, length-take-le n (drop (suc t) line) k) in
      let b : ltb n (length (drop (suc t) line)) ≡ ltb (t + (n + 1)) (length line) = same_test n (length (drop (suc t) line)) (t + (n + 1)) (length line) (λ q. omega (arith, length-drop (suc t) line)) (λ q. omega (arith, length-drop (suc t) line)) in
      let i : suc t + suc n ≡ suc (t + (n + 1)) = omega arith in
      let d : drop (suc n) (drop (suc t) line) ≡ drop (suc (t + (n + 1))) line = drop-drop (suc n) (suc t) line ∙ ap (λ (j : ℕ). drop j line) i in
      taken ∙ rw (eq-eqb _ _ r, l) (if_any false (t + (n + 1) + 2) (fields (drop (suc n) (drop (suc t) line))) (ltb n (length (drop (suc t) line))) ∙ rw (b, d))

-- ---- a field's fault stands at most one byte past the longest text of a value

pub fault_most : (cast : Bool) (s : List ℕ) → (field_fault cast s).place ≤ 156
unfolding field_fault type_fault
fault_most true s = by (is_type (kind_of s))
  where
    by : (t : Bool) → (cond t rightly (misspelled 9 1)).place ≤ 156
    by true = omega arith
    by false = omega arith
fault_most false s = place_most s
