use Prim.Native.Nat.{ℕ}
use mathlib.Core.Path.{◌≡◌, ap, sym, ◌∙◌}
use mathlib.Core.List.{List, ◌++◌}
use native.Mathlib.Omega.{arith}
use lib.ListN.{length}
use Rattle.buffers.specs.Memory.{put}
use Rattle.printing.specs.Decimal.{places, digits}
use Rattle.buffers.proofs.Puts.{put_nil, put_length, then, made}
use Rattle.printing.proofs.Digits.{word, refused_none, refused_some, length_refused}
use Rattle.printing.proofs.put_refusal.Goals as goal

pub returns-then-refusal-eq0 : goal.returns-then-refusal-eq0
returns-then-refusal-eq0 c =
    let a = c.args in
    let e = refused_none a.refusal c.if-refusal-eq0.true in
    (omega (arith, ap length e), sym (ap (put a.out.now a.at) e ∙ put_nil a.out.now a.at))

pub put_digits-requires : goal.put_digits-requires
put_digits-requires c =
    let a = c.args in
    let l = length_refused a.refusal c.if-refusal-eq0.false in
    let b = made a.out.now a.at word (omega (arith, l)) c.put_bytes-e.ensures in
    omega (arith, l, ap places c.from-v.ensures, b.0, ap length b.1, put_length a.out.now a.at word (omega (arith, l)))

pub returns : goal.returns
returns c =
    let a = c.args in
    let h = c.if-refusal-eq0.false in
    let l = length_refused a.refusal h in
    let v = c.from-v.ensures in
    let d : digits c.places_of-n.result c.from-v.result ≡ digits (places a.refusal) a.refusal
    = ap (λ (k : ℕ). digits k c.from-v.result) c.places_of-n.ensures ∙ ap (λ (k : ℕ). digits (places k) k) v in
    let b = made a.out.now a.at word (omega (arith, l, c.requires)) c.put_bytes-e.ensures in
    let f = c.put_digits.ensures in (
      omega (arith, l, ap places v),
      then a.out.now a.at word (digits c.places_of-n.result c.from-v.result) (omega (arith, l, c.requires)) b.1 b.0 f.1
          ∙ ap (put a.out.now a.at) (ap (λ (t : List ℕ). word ++ t) d ∙ sym (refused_some a.refusal h)),
    )
