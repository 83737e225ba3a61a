use mathlib.Core.Path.{sym}
use borrow.Author.Rules.{rules}
use Rattle.buffers.proofs.Puts.{put_nil}
use Rattle.stream.proofs.put_due.Goals as goal

pub returns-then-due : goal.returns-then-due
returns-then-due c = rw c.if-due.true c.put_line.ensures

pub returns-else-due : goal.returns-else-due
returns-else-due c =
    let a = c.args in
    rw c.if-due.false (search rules, sym (put_nil a.out.now a.at))
