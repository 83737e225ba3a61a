-- What the program tells of a fault: what is wrong, and where. Program-shaped: no statement of what is read rests on this. Definitions only.
use Rattle.std.specs.Prelude.{ℕ}
use Rattle.spelling.specs.declared.Fault.{Fault}
use Rattle.spelling.specs.declared.Fault.TheVariants.{Nothing, Lanes, Digit}
use Rattle.spelling.specs.declared.Reading.{Reading}
use Rattle.spelling.specs.Read.{Scanned, digit_at, count_at, good}
use Rattle.faults.specs.declared.Faulty.{Faulty}

abbrev pub faulty : Fault → ℕ → Faulty
faulty f p = record { fault = f; place = p }

-- the fault of lanes and its place
abbrev pub fault_of : Scanned → Faulty
fault_of (digit_at p) = faulty Digit p
fault_of (count_at p) = faulty Lanes p
fault_of (good l) = faulty Nothing 0

-- and of a value
abbrev pub told_of : Reading → Faulty
told_of r = faulty r.fault r.place
