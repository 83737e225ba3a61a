-- A line that is too long is refused by 7; else the words are those of its call, so that their answer is the line's, or its misspelling where that is refused by 3. Assumes nothing.
use Prim.Native.Nat.{ℕ, ◌<◌, ◌≤◌}
use mathlib.Core.List.{List}
use mathlib.Core.Path.{◌≡◌, ap, sym, ◌∙◌}
use native.Mathlib.Omega.{arith}
use borrow.Author.Tests.{lt-ltb, le-ltb}
use lib.ListN.{length, replicate}
use Rattle.readings.specs.declared.Reading.{Reading}
use Rattle.buffers.specs.Memory.{put}
use Rattle.buffers.proofs.Puts.{put_nil}
use Rattle.calls.specs.Words as Called
use Rattle.builtins.specs.declared.Answer.{Answer}
use Rattle.builtins.specs.Fold.{refused, fold_in}
use Rattle.builtins.specs.Words as Told
use Rattle.formed.proofs.AnswerWords.{answer_words_lem}
use Rattle.answers.specs.Program.{Answers}
use Rattle.answers.proofs.Written.{refused_so}
use Rattle.calls.specs.declared.Builtin.TheVariants.{Bitcast}
use Rattle.buffers.specs.Text.{same_bytes}
use Rattle.names.specs.Names.{name_of}
use Rattle.lines.specs.Line.{is_cast, call_of, line_of, written_in}
use Rattle.lines.proofs.Written.{answered_line, misspelled_line_lem}
use borrow.Author.Rules.{rules}
use Rattle.lines.proofs.fold_line_in.Goals as goal
use Rattle.lines.proofs.fold_line_in.Goals.{After-same-cast}

too_long : (R : Reading) (line : List ℕ) → 400 < length line → line_of R line ≡ refused 7
unfolding line_of
too_long R line h = rw (lt-ltb 400 (length line) h)

not_long : (R : Reading) (line : List ℕ) → length line ≤ 400 → line_of R line ≡ fold_in R (call_of line)
unfolding line_of
not_long R line h = rw (le-ltb 400 (length line) h)

-- the words of its call give its answer's
answers : (R : Reading) (line w o : List ℕ) {r : ℕ} {o' : List ℕ} → length line ≤ 400 → Called.call_of w ≡ call_of line → 35 ≤ length o
    → r ≡ Told.refusal_in R (length o) w → o' ≡ put o 0 (Told.written_in R (length o) w) → Answers r o' (line_of R line)
answers R line w o h e k er eo = rw (not_long R line h, ← e) (answer_words_lem R w o k eo er)

-- whether the name is bitcast's
cast_so : (c : After-same-cast) → c.same-cast.result ≡ is_cast c.args.line.now
cast_so c = c.same-cast.ensures ∙ ap (same_bytes (name_of Bitcast)) c.field-name.ensures

pub returns-then-line-gt-MOST_BYTES : goal.returns-then-line-gt-MOST_BYTES
unfolding refused written_in
returns-then-line-gt-MOST_BYTES c =
    let a = c.args in
    let seven : (line_of a.reading a.line.now).refusal ≡ 7 = ap (λ (x : Answer). x.refusal) (too_long a.reading a.line.now (omega arith)) in
    let r = refused_so a.out.now (line_of a.reading a.line.now) (sym seven) (λ z. omega arith) in
    (answered_line a.reading (length a.out.now) a.line.now (λ z. omega arith) r.0, r.1)

pub put_call-requires : goal.put_call-requires
put_call-requires c = (search rules, c.field-name.ensures, cast_so (goal.at.put_call-requires c).After-same-cast)

pub misspelled-requires : goal.misspelled-requires
misspelled-requires c = (omega arith, ap length c.field-name.ensures, cast_so (goal.at.misspelled-requires c).After-same-cast)

pub returns-then-refusal-eq3 : goal.returns-then-refusal-eq3
returns-then-refusal-eq3 c =
    let a = c.args in
    let f = c.fold_in in
    let w = c.put_call in
    let is = (answers a.reading a.line.now w.new.w (replicate 35 0) (omega arith) w.ensures (omega arith) (c.told-refusal.ensures ∙ f.ensures.0) f.ensures.1).0 in
    let m = misspelled_line_lem a.reading (length a.out.now) a.line.now (sym is ∙ c.if-refusal-eq3.true) c.misspelled.ensures in
    (m.0, sym (ap (put a.out.now 0) m.1 ∙ put_nil a.out.now 0))

pub returns : goal.returns
unfolding written_in
returns c =
    let a = c.args in
    let f = c.fold_in in
    let w = c.put_call in
    let so = answers a.reading a.line.now w.new.w (replicate 35 0) (omega arith) w.ensures (omega arith) (c.told-refusal.ensures ∙ f.ensures.0) f.ensures.1 in
    let r = c.put_answer.ensures (line_of a.reading a.line.now) so in
    (answered_line a.reading (length a.out.now) a.line.now (λ z. c.if-refusal-eq3.false (so.0 ∙ z)) r.0, r.1)
