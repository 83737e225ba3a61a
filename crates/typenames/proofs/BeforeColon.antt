-- A value's type stands before its first colon. No type's spelling has a colon, so the type that a value's text starts with is the value's where a colon stands right behind it; else there is no type or no colon. Assumes nothing.
use Prim.Native.Nat.{ℕ, zero, suc, ◌+◌, ◌-◌, ◌<◌}
use mathlib.Core.Bool.{Bool, true, false}
use mathlib.Core.List.{List, ◌∷◌, ◌++◌}
use mathlib.Core.Path.{◌≡◌, refl, ap, sym, ◌∙◌}
use native.Mathlib.Numerals.{add-one}
use native.Mathlib.Omega.{arith}
use borrow.Author.Tests.{eq-eqb, ltb-true, ltb-false}
use lib.Dec.{ltb}
use lib.ListN.{length, take, drop, get_or, length-drop, take-append-drop}
use lib.Seq.{drop-cons, get_or_at, take_all}
use Rattle.values.specs.declared.Kind.{Kind}
use Rattle.values.specs.Value.{lane_count, is_type, kind_at}
use Rattle.values.proofs.Places.{there, typed}
use Rattle.buffers.proofs.FirstPlace.{place_split}
use Rattle.spelling.specs.declared.Fault.TheVariants.{TypeSpelling}
use Rattle.spelling.specs.Types.{spelled, kind_of}
use Rattle.spelling.specs.Read.{wrong, colon_at, read_lanes, read_value}
use Rattle.spelling.proofs.ReadsBack.{type_back}
use Rattle.spelling.proofs.Spellings.{spelled_kind}
use Rattle.typenames.specs.Program.{type_from}
use Rattle.typenames.proofs.TypeTexts.{inside, sound, complete}

pub colon_inside : (s : List ℕ) (n : ℕ) → get_or s n 0 ≡ 58 → n < length s
colon_inside s n e = inside s n (rw e (omega arith))

-- a text that starts with a type's spelling and a colon
pub colon_behind : (k : Kind) (s : List ℕ) {n : ℕ} → n ≡ length (spelled k) → take n s ≡ spelled k → get_or s n 0 ≡ 58
    → read_value s ≡ read_lanes k (n + 2) (drop (n + 1) s)
colon_behind k s {n} en front colon =
    let cut : s ≡ spelled k ++ (58 ∷ drop (n + 1) s) = sym (take-append-drop n s) ∙ rw (front, drop-cons s n 0 (colon_inside s n colon), colon, add-one) in
    ap read_value cut ∙ type_back k (drop (n + 1) s) ∙ rw (← en)

-- by the type that it starts with, which is Empty where it starts with none
module _ (s : List ℕ) {p c : ℕ} (ep : p ≡ type_from s) (ec : c ≡ length (spelled (kind_at p))) where
  front : take c s ≡ spelled (kind_at p)
  unfolding kind_at
  front = by p refl
    where
      by : (q : ℕ) → p ≡ q → take c s ≡ spelled (kind_at p)
      by zero z = rw (ec, z)
      by (suc q) z = rw (ec, ep) (sound s (omega arith)).1

  -- the lanes cut off as the code cuts them
  pub by_type : get_or s c 0 ≡ 58 → read_lanes (kind_at p) (c + 2) (take (length s - (c + 1)) (drop (c + 1) s)) ≡ read_value s
  by_type colon =
      ap (read_lanes (kind_at p) (c + 2)) (take_all (length s - (c + 1)) (drop (c + 1) s) (omega (arith, length-drop (c + 1) s)))
      ∙ sym (colon_behind (kind_at p) s ec front colon)

  -- a type before the first colon is the one that the text starts with
  module _ (h : colon_at s < length s) (t : is_type (kind_of (take (colon_at s) s)) ≡ true) where
    abbrev kind : Kind
    kind = kind_of (take (colon_at s) s)

    cut : s ≡ spelled kind ++ (58 ∷ drop (colon_at s + 1) s)
    cut = place_split 58 s h ∙ ap (λ (l : List ℕ). l ++ (58 ∷ drop (colon_at s + 1) s)) (spelled_kind (take (colon_at s) s) kind refl t)

    same : kind_at p ≡ kind
    same = ap kind_at (ep ∙ ap type_from cut ∙ complete kind _ t) ∙ there kind

    colon : get_or s c 0 ≡ 58
    colon = ap (λ (l : List ℕ). get_or l c 0) cut ∙ get_or_at (spelled kind) 58 (drop (colon_at s + 1) s) 0 c (sym (ec ∙ ap (λ (k : Kind). length (spelled k)) same))

  pub no_type : (get_or s c 0 ≡ 58 → ⊥) → wrong TypeSpelling 1 ≡ read_value s
  unfolding read_value read_lanes
  no_type none = sym (by (ltb (colon_at s) (length s)) refl)
    where
      by_kind : (on : Bool) → is_type (kind_of (take (colon_at s) s)) ≡ on → ltb (colon_at s) (length s) ≡ true → read_value s ≡ wrong TypeSpelling 1
      by_kind true t e = absurd (none (colon (ltb-true _ _ e) t))
      by_kind false t e =
          let k = kind_of (take (colon_at s) s) in
          let z : lane_count k ≡ 0 = omega (arith, ltb-false 0 (lane_count k) (sym (typed k) ∙ t)) in
          rw (e, eq-eqb (lane_count k) 0 z)

      by : (on : Bool) → ltb (colon_at s) (length s) ≡ on → read_value s ≡ wrong TypeSpelling 1
      by true e = by_kind (is_type (kind_of (take (colon_at s) s))) refl e
      by false e = rw e
