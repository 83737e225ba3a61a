-- A line without a tab is its only field, and one with a tab is cut there. A line has a field at least, so what follows a third tab makes it no answer line. Assumes nothing.
use Prim.Native.Nat.{ℕ, ◌+◌, ◌-◌, ◌<◌}
use mathlib.Core.List.{List, [], ◌∷◌}
use mathlib.Core.Path.{◌≡◌, ◌∙◌}
use native.Mathlib.Numerals.{add-one}
use native.Mathlib.Omega.{arith}
use lib.ListN.{length, take, drop, length-drop}
use lib.Seq.{take_all}
use borrow.Author.Tests.{lt-ltb, le-ltb}
use Rattle.fields.specs.Fields.{fields}
use Rattle.fields.proofs.Tabs.{tab_at, cut}
use Rattle.listings.specs.Answers.{no_answer, of_fields}

pub whole : (s : List ℕ) → tab_at s ≡ length s → fields s ≡ s ∷ []
whole s e = cut s ∙ rw (le-ltb (tab_at s) (length s) (omega arith), take_all (tab_at s) s (omega arith))

pub cut_first : (s : List ℕ) → tab_at s < length s → fields s ≡ take (tab_at s) s ∷ fields (drop (tab_at s + 1) s)
cut_first s h = cut s ∙ rw (lt-ltb (tab_at s) (length s) h, add-one)

-- the first field and the rest, by the parts that the code takes
pub cut_at : (t : List ℕ) {n : ℕ} → n ≡ tab_at t → n < length t → fields t ≡ take (n - 0) t ∷ fields (take (length t - (n + 1)) (drop (n + 1) t))
cut_at t {n} e h =
    let z : n - 0 ≡ tab_at t = omega arith in
    rw (z, take_all (length t - (n + 1)) (drop (n + 1) t) (omega (arith, length-drop (n + 1) t)), e) (cut_first t (omega arith))

pub some : (s : List ℕ) → 0 < length (fields s)
some s = rw (cut s) (omega arith)

pub too_many : (v n t : List ℕ) → tab_at t < length t → of_fields (v ∷ n ∷ fields t) ≡ no_answer
unfolding of_fields
too_many v n t h = rw (cut_first t h, cut (drop (tab_at t + 1) t))
