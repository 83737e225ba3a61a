-- What the turns of a program's loop may lead to, as its functions state it: nothing is said of which bytes a read brings, and what is
-- written is what a step's text is.
use Rattle.std.specs.Prelude.{ℕ, suc, ◌+◌, ◌-◌, ◌^◌, ◌≤◌, ◌<◌, true, false, List, [], ◌++◌, ◌⊎◌, ◌≡◌, length}
use Rattle.readings.specs.declared.Reading.{Reading}
use Rattle.cutting.specs.Cutting.{held_of}
use Rattle.stream.specs.Stream.{start_of, step_lines, step_of, buffer_of, text_of}
use Rattle.inputs.specs.Runs.{read_of}
use Rattle.stream.specs.declared.Held.{Held}

-- A read behind what b holds, which leaves that as it is: `more` is what it put there. There is room for a byte at least, so that none
-- means the end of the input.
pub record Filled (b : List ℕ) (h : Held) (next : List ℕ) (r : Held) : Type 0 where
  pub more : List ℕ
  pub room : h.have < length next
  pub fits : h.have + length more ≤ length next
  pub held : held_of next h.at (h.have + length more) ≡ held_of b h.at h.have ++ more
  pub state : r ≡ read_of h (length more)

-- One turn: a step, and a read where it asks for that.
pub data Turn (R : Reading) (n : ℕ) (b : List ℕ) (h : Held) : List ℕ → Held → Type 0 where
  goes : (step_of R n b h).reads ≡ false → Turn R n b h (buffer_of R n b h) (step_of R n b h)
  gets : {next : List ℕ} {r : Held} → (step_of R n b h).reads ≡ true → Filled (buffer_of R n b h) (step_of R n b h) next r → Turn R n b h next r

unfoldable pub turn_read : {R : Reading} {n : ℕ} {b : List ℕ} {h : Held} {next : List ℕ} {r : Held} → Turn R n b h next r → List ℕ
turn_read (goes f) = []
turn_read (gets f g) = g.more

-- Turn after turn, and how many.
pub data Turns (R : Reading) (n : ℕ) (b : List ℕ) (h : Held) : ℕ → List ℕ → Held → Type 0 where
  begins : Turns R n b h 0 b h
  follows : {k : ℕ} {mid : List ℕ} {m : Held} {next : List ℕ} {r : Held} → Turns R n b h k mid m → Turn R n mid m next r → Turns R n b h (suc k) next r

-- all that they read, and the texts of their steps
unfoldable pub all_read : {R : Reading} {n : ℕ} {b : List ℕ} {h : Held} {k : ℕ} {next : List ℕ} {r : Held} → Turns R n b h k next r → List ℕ
all_read begins = []
all_read (follows t u) = all_read t ++ turn_read u

unfoldable pub all_text : {R : Reading} {n : ℕ} {b : List ℕ} {h : Held} {k : ℕ} {next : List ℕ} {r : Held} → Turns R n b h k next r → List ℕ
all_text begins = []
all_text {R} {n} (follows {mid = mid} {m = m} t u) = all_text t ++ text_of R n mid m

-- From before anything is read, until all is done, or for as many turns as are counted.
pub record Pumped (R : Reading) (b next : List ℕ) : Type 0 where
  pub count : ℕ
  pub held : Held
  pub turns : Turns R step_lines b start_of count next held
  pub until : (held.done ≡ true) ⊎ (count ≡ 2 ^ 64 - 1)
