-- Each number's word is written; any other has none. Assumes nothing.
use mathlib.Core.Path.{ap, sym, ◌∙◌}
use native.Mathlib.Omega.{arith}
use lib.ListN.{length}
use Rattle.buffers.specs.Memory.{put}
use Rattle.buffers.proofs.Puts.{put_nil}
use Rattle.telling.proofs.KindTexts.{word_made, wordless}
use Rattle.telling.proofs.put_word.Goals as goal

pub returns-in-1 : goal.returns-in-1
returns-in-1 c =
    let a = c.args in
    word_made a.out.now a.at 1 c.in-1.is c.requires c.put_bytes.ensures

pub returns-in-2 : goal.returns-in-2
returns-in-2 c =
    let a = c.args in
    word_made a.out.now a.at 2 c.in-2.is c.requires c.put_bytes-in-2.ensures

pub returns-in-3 : goal.returns-in-3
returns-in-3 c =
    let a = c.args in
    word_made a.out.now a.at 3 c.in-3.is c.requires c.put_bytes-in-3.ensures

pub returns-in-4 : goal.returns-in-4
returns-in-4 c =
    let a = c.args in
    word_made a.out.now a.at 4 c.in-4.is c.requires c.put_bytes-in-4.ensures

pub returns-in-5 : goal.returns-in-5
returns-in-5 c =
    let a = c.args in
    word_made a.out.now a.at 5 c.in-5.is c.requires c.put_bytes-in-5.ensures

pub returns-in-6 : goal.returns-in-6
returns-in-6 c =
    let a = c.args in
    word_made a.out.now a.at 6 c.in-6.is c.requires c.put_bytes-in-6.ensures

pub returns-in_default : goal.returns-in_default
returns-in_default c =
    let a = c.args in
    let e = wordless a.kind (λ h. omega arith) in
    (omega (arith, ap length e), sym (ap (put a.out.now a.at) e ∙ put_nil a.out.now a.at))
