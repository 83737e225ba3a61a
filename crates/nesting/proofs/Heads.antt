-- What an argument starts with, as the program finds it: where it stands, and the tree that is read from there. Assumes nothing.
use Prim.Native.Nat.{ℕ, ◌+◌, ◌-◌, ◌<◌, ◌≤◌}
use mathlib.Core.Bool.{Bool, true, false, not, cond, ◌&&◌, and-false}
use mathlib.Core.List.{List, [], ◌∷◌}
use mathlib.Core.Option.{Option as Maybe, none, some}
use Rattle.std.specs.Prelude.{Option, Some, None}
use mathlib.Core.Path.{◌≡◌, refl, ap, sym, ◌∙◌}
use native.Mathlib.Omega.{arith}
use lib.Dec.{eqb}
use lib.ListN.{length, take, drop, get_or, length-drop, length-append}
use lib.Seq.{drop-drop, get_or-drop, length-take-le}
use Rattle.std.specs.List.{list_all}
use Rattle.buffers.specs.Text.{same_bytes}
use Rattle.calls.specs.declared.Builtin.TheVariants.{Bitcast}
use Rattle.names.specs.Names.{name_of}
use Rattle.nesting.specs.declared.Head.{Head}
use Rattle.nesting.specs.Grammar.{letter_or_digit, is_name, is_bitcast, Tree, spelling}
use Rattle.nesting.specs.Read.{first_word, opens, a_spelling, a_call, tree_of, trees_of}
use Rattle.nesting.specs.Program.{word_end, spelt, head_by, head_at}
use Rattle.nesting.proofs.Words.{every_all, take_word, word_front, some_long, long_some, mark_room}
use Rattle.nesting.proofs.Fuel.{opening}

-- the bytes from a up to e
abbrev pub part : List ℕ → ℕ → ℕ → List ℕ
part s a e = take (e - a) (drop a s)

pub part_length : (s : List ℕ) (a e : ℕ) → a ≤ e → e ≤ length s → a + length (part s a e) ≡ e
part_length s a e h i = omega (arith, length-take-le (e - a) (drop a s) (omega (arith, length-drop a s)))

-- a head ends after `at` and within s, a call's before the last byte; a call's tells whether its name is bitcast's
abbrev pub Within : List ℕ → ℕ → Option Head → Type 0
Within s at None = Unit {0}
Within s at (Some (Head.Spelling e)) = (at < e) × (e ≤ length s)
Within s at (Some (Head.Call e b)) = (at < e) × (e < length s) × (b ≡ is_bitcast (part s at e))

module _ (s : List ℕ) (at : ℕ) where
  word_part : part s at (word_end s at) ≡ first_word (drop at s)
  unfolding word_end
  word_part = let e : at + length (first_word (drop at s)) - at ≡ length (first_word (drop at s)) = omega arith in rw (e, take_word (drop at s))

  word_room : (w : List ℕ) → first_word (drop at s) ≡ w → 0 < length w → (at < word_end s at) × (word_end s at ≤ length s)
  unfolding word_end
  word_room w q h =
      let l = ap length (word_front (drop at s)) ∙ length-append (first_word (drop at s)) (drop (length (first_word (drop at s))) (drop at s)) in
      let k = ap length q in
      (omega arith, omega (arith, length-drop at s))

pub head_within : (first : Bool) (s : List ℕ) (at : ℕ) → Within s at (head_at first s at)
unfolding head_at is_name
head_within first s at = by (first_word (drop at s)) refl (opens first (first_word (drop at s)) (get_or s (word_end s at) 0)) refl
  where
    by : (w : List ℕ) → first_word (drop at s) ≡ w → (t : Bool) → opens first w (get_or s (word_end s at) 0) ≡ t
        → Within s at (cond t (Some (Head.Call (word_end s at) (is_bitcast w))) (spelt (word_end s at) w))
    by w q true e =
        let o = opening first w (get_or s (word_end s at) 0) e in
        ((word_room s at w q (some_long letter_or_digit w o.name)).0, mark_room s (word_end s at) 40 o.bracket (omega arith), ap is_bitcast (sym q ∙ sym (word_part s at)))
    by [] q false e = tt
    by (x ∷ w) q false e = word_room s at (x ∷ w) q (omega arith)

-- ---- the tree by its head

abbrev pub tree_by : List ℕ → ℕ → Option Head → Maybe Tree
tree_by s at None = none
tree_by s at (Some (Head.Spelling e)) = some (spelling (part s at e))
tree_by s at (Some (Head.Call e b)) = a_call (part s at e) (trees_of b (drop (e + 1) s))

pub tree_by_head : (first : Bool) (s : List ℕ) (at : ℕ) → tree_of first (drop at s) ≡ tree_by s at (head_at first s at)
unfolding tree_of head_at word_end
tree_by_head first s at =
    let w = first_word (drop at s) in
    rw (get_or-drop at s (length w) 0) (by w (opens first w (get_or s (at + length w) 0)) (sym (word_part s at)))
  where
    by : (w : List ℕ) (t : Bool) → w ≡ part s at (at + length w)
        → cond t (a_call w (trees_of (is_bitcast w) (drop (length w + 1) (drop at s)))) (a_spelling w)
        ≡ tree_by s at (cond t (Some (Head.Call (at + length w) (is_bitcast w))) (spelt (at + length w) w))
    by w true q =
        let e : at + (length w + 1) ≡ at + length w + 1 = omega arith in
        rw (drop-drop (length w + 1) at s, e) (ap (λ (v : List ℕ). a_call v (trees_of (is_bitcast w) (drop (at + length w + 1) s))) q)
    by [] false q = refl
    by (x ∷ w) false q = ap (λ (v : List ℕ). some (spelling v)) q

-- ---- the head by what the program tests

module _ (first : Bool) (s : List ℕ) (at e : ℕ) (q : e ≡ word_end s at) where
  unfolded : e ≡ at + length (first_word (drop at s))
  unfolding word_end
  unfolded = q

  pub head_bad : at ≡ e → ◌≡◌ {A = Option Head} None (head_at first s at)
  unfolding head_at opens is_name
  head_bad h = by (first_word (drop at s)) (omega (arith, unfolded))
    where
      by : (w : List ℕ) → length w ≡ 0 → ◌≡◌ {A = Option Head} None (head_by first w (word_end s at) (get_or s (word_end s at) 0))
      by [] z = rw (and-false (not first))
      by (x ∷ w) z = absurd (omega arith)

  module _ (n : Bool) (c : ℕ) (i : at < e) (hn : n ≡ list_all letter_or_digit (part s at e)) (hc : c ≡ get_or s e 0) where
    some_word : 0 < length (first_word (drop at s))
    some_word = omega (arith, unfolded)

    opens_at : opens first (first_word (drop at s)) (get_or s (word_end s at) 0) ≡ not first && n && eqb c 40
    unfolding opens is_name
    opens_at = rw (hn, ← every_all letter_or_digit (part s at e), hc, q, word_part s at, long_some letter_or_digit (first_word (drop at s)) some_word)

    pub head_call : (b : Bool) → not first && n && eqb c 40 ≡ true → b ≡ same_bytes (name_of Bitcast) (part s at e) → Some (Head.Call e b) ≡ head_at first s at
    unfolding head_at is_bitcast
    head_call b t r = rw (opens_at, t, r, q, word_part s at)

    pub head_spelling : not first && n && eqb c 40 ≡ false → Some (Head.Spelling e) ≡ head_at first s at
    unfolding head_at
    head_spelling t = rw (opens_at, t, q) (by (first_word (drop at s)) some_word)
      where
        by : (w : List ℕ) → 0 < length w → Some (Head.Spelling (word_end s at)) ≡ spelt (word_end s at) w
        by [] h = absurd (omega arith)
        by (x ∷ w) h = refl
