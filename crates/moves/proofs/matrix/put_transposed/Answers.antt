-- The turned type's place is the first word; from there the invariant is that writing all lanes comes to writing those from j on. Assumes nothing.
use Prim.Native.Nat.{ℕ, ◌+◌, ◌*◌, ◌/◌, ◌%◌, ◌≤◌, ◌<◌}
use mathlib.Core.Bool.{Bool, true, false, cond}
use mathlib.Core.List.{List, []}
use mathlib.Core.Path.{◌≡◌, refl, ap, sym, ◌∙◌}
use native.Mathlib.Nat.{mod-lt, mul_comm, mul-le-mul_right, div-lt_iff_lt-mul}
use native.Mathlib.Omega.{arith}
use borrow.Author.Tests.{ltb-true}
use lib.Dec.{ltb}
use lib.ListN.{length, drop, get_or, length-set}
use lib.Seq.{drop-length}
use borrow.Author.Rules.{rules}
use Rattle.values.specs.declared.Kind.{Kind}
use Rattle.values.specs.Value.{lane_count, place, kind_at, lane}
use Rattle.buffers.specs.Memory.{put}
use Rattle.buffers.proofs.Puts.{put_cons, put_drop, put_nil}
use Rattle.words.specs.Words.{value_at}
use Rattle.calls.specs.Program.{FirstMatrix}
use Rattle.moves.specs.Moves.{transpose_of}
use Rattle.moves.specs.Program.{columns_of, rows_of, turned_kind, columns, at, turned}
use Rattle.words.proofs.There.{all_there, lane_there}
use Rattle.calls.proofs.Firsts.{first_kind, first_matrix}
use Rattle.moves.proofs.Transposing.{some_columns, few_columns, few_rows, counted, sixteen, inside, from_columns, turned_lane, turned_length, turned_words}
use Rattle.moves.proofs.matrix.put_transposed.Goals as goal

-- a lane of the turned columns, where it stood
turned_from : (w : List ℕ) (c r j : ℕ) → 1 ≤ c → c ≤ 4 → r ≤ 4 → (t : Bool) → ltb j (c * r) ≡ t → cond t (at (turned (columns r w)) (j / c) (j % c)) 0 ≡ cond t (get_or w (4 + (j % c * r + j / c)) 0) 0
turned_from w c r j h k l true e =
    let row : j / c < r = (div-lt_iff_lt-mul h).1 (rw (mul_comm r c) (ltb-true j (c * r) e)) in
    from_columns w r (j / c) (j % c) (omega (arith, row)) (omega (arith, mod-lt j {m = c} (omega arith)))
turned_from w c r j h k l false e = refl

at_most_four : (c r : ℕ) → r ≤ 4 → c * r ≤ 4 * c
at_most_four c r h = rw (mul_comm c r) (mul-le-mul_right c h)

-- a lane in use, where it stands
stands : (w : List ℕ) (j n i : ℕ) → 20 ≤ length w → (j < n → i < 16) → (t : Bool) → ltb j n ≡ t → cond t (get_or w (4 + i) 0) 0 ≡ cond t (lane (value_at w 3) i) 0
stands w j n i h g true e = sym (lane_there w 3 h i (g (ltb-true j n e)))
stands w j n i h g false e = refl

module _ {w : List ℕ} {p : ℕ} (f : FirstMatrix w p) where
  -- a lane as the code has it
  moved : (j : ℕ) {c r n x : ℕ} {m : List (List ℕ)} → c ≡ columns_of (kind_at p) → r ≡ rows_of (kind_at p) → n ≡ lane_count (kind_at p) → m ≡ turned (columns r w)
      → x ≡ cond (ltb j n) (at m (j / c) (j % c)) 0 → x ≡ get_or (transpose_of (value_at w 3)).lanes j 0
  moved j {c} {r} {n} ec er en em ex =
      let v = value_at w 3 in
      let m = first_matrix f in
      let k = v.kind in
      let one = ec ∙ ap columns_of (first_kind f) in
      let two = er ∙ ap rows_of (first_kind f) in
      let all : n ≡ c * r = en ∙ ap lane_count (first_kind f) ∙ counted k m ∙ rw (one, two) in
      let some : 1 ≤ c = rw one (some_columns k m) in
      let within : c * r ≤ 16 = rw (one, two) (sixteen k m) in
      ex ∙ rw (all, em) (turned_from w c r j some (rw one (few_columns k m)) (rw two (few_rows k m)) (ltb j (c * r)) refl)
      ∙ stands w j (c * r) (j % c * r + j / c) (all_there w 3 f.formed) (λ l. omega (arith, inside c r j some l)) (ltb j (c * r)) refl
      ∙ rw (one, two) (sym (turned_lane v m j))

pub columns-requires : goal.columns-requires
columns-requires c =
    (rw (c.rows_at.ensures, first_kind c.requires.0) (few_rows (value_at c.args.w.now 3).kind (first_matrix c.requires.0)), all_there c.args.w.now 3 c.requires.0.formed)

pub loop-j-init : goal.loop-j-init
loop-j-init c = (refl, refl)

pub lane_at-requires : goal.lane_at-requires
lane_at-requires c =
    let k = (value_at c.args.w.now 3).kind in
    let m = first_matrix c.requires.0 in
    let e = c.columns_at-n.ensures ∙ ap columns_of (first_kind c.requires.0) in
    let n = c.count_at-count.ensures.0 ∙ ap lane_count (first_kind c.requires.0) ∙ counted k m in
    (rw e (some_columns k m), rw e (few_columns k m), rw (e, n) (at_most_four (columns_of k) (rows_of k) (few_rows k m)))

pub bounds-out-j : goal.bounds-out-j
bounds-out-j c =
    let n = c.loop-j.invariant.0 ∙ length-set c.args.out.now 0 _ in
    search rules

pub loop-j-preserved : goal.loop-j-preserved
loop-j-preserved c =
    let v = value_at c.args.w.now 3 in
    let l = c.loop-j in
    let n = l.invariant.0 ∙ length-set c.args.out.now 0 _ in
    let s = turned_length v (first_matrix c.requires.0) in
    let m = c.turned-m.ensures ∙ ap turned c.columns.ensures in
    let e = moved c.requires.0 l.j c.columns_at-n.ensures c.rows_at.ensures c.count_at-count.ensures.0 m c.lane_at.ensures in
    (simp length-set n, l.invariant.1 ∙ rw e (put_drop l.out 1 (transpose_of v).lanes l.j (omega arith) (omega arith)))

pub shape_of-out : goal.shape_of-out
shape_of-out c = c.loop-j.invariant.0 ∙ length-set c.args.out.now 0 _

pub returns : goal.returns
returns c =
    let v = value_at c.args.w.now 3 in
    let o = c.args.out.now in
    let l = c.loop-j in
    let m = first_matrix c.requires.0 in
    let s = turned_length v m in
    let lanes = (transpose_of v).lanes in
    let e : l.j ≡ length lanes = omega arith in
    let z : drop l.j lanes ≡ [] = rw (e, drop-length) in
    let q = c.turned_at.ensures ∙ ap (λ (k : Kind). place (turned_kind k)) (first_kind c.requires.0) in
    sym
    (ap (put o 0) (turned_words v m ∙ rw (← q)) ∙ put_cons o 0 _ lanes (omega arith)
    ∙ l.invariant.1 ∙ rw z (put_nil l.out (1 + l.j)))
