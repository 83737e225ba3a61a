-- No refusal is told as 0.
use Rattle.std.proofs.Common.{ℕ, ◌≡◌, arith}
use Rattle.refusals.specs.declared.Refusal.{Refusal}
use Rattle.refusals.specs.declared.Refusal.TheVariants.{NotInTable, Count, IllFormed, NotTaken, NotTogether, ByteSizes, NoRoom}
use Rattle.refusals.specs.Refusals.{number}

pub told_some : (r : Refusal) → number r ≡ 0 → ⊥
told_some NotInTable z = omega (arith, z)
told_some Count z = omega (arith, z)
told_some IllFormed z = omega (arith, z)
told_some NotTaken z = omega (arith, z)
told_some NotTogether z = omega (arith, z)
told_some ByteSizes z = omega (arith, z)
told_some NoRoom z = omega (arith, z)
