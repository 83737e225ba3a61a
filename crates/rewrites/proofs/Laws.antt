-- 02, Q-4, as it is written, of whole calls. Assumes nothing.
use Rattle.readings.specs.declared.Reading.{Reading}
use Rattle.rewrites.specs.Rewrites.{Rewrites}
use Rattle.rewrites.proofs.Ordered as ordered
use Rattle.rewrites.proofs.Vectors as vectors
use Rattle.rewrites.proofs.Transposed as transposed
use Rattle.rewrites.proofs.Rejoined as rejoined
use Rattle.rewrites.proofs.Swapped as swapped

pub laws : (r : Reading) → Rewrites r
laws r = record {
  min_commutes = ordered.min_commutes r;
  max_commutes = ordered.max_commutes r;
  min_associates = ordered.min_associates r;
  max_associates = ordered.max_associates r;
  min_idempotent = ordered.min_idempotent r;
  max_idempotent = ordered.max_idempotent r;
  min_itself = ordered.min_itself r;
  max_itself = ordered.max_itself r;
  max_absorbs = ordered.max_of_min r;
  min_absorbs = ordered.min_of_max r;
  min_repeats = ordered.min_repeats r;
  max_repeats = ordered.max_repeats r;
  min_respects = ordered.min_respects r;
  max_respects = ordered.max_respects r;
  clamps_so = ordered.clamps_so r;
  cross_turns = vectors.cross_calls r;
  dot_commutes = vectors.dot_calls r;
  transposes_back = transposed.transposes_back r;
  rejoins = rejoined.rejoins r;
  min_refused = swapped.min_refused r;
  max_refused = swapped.max_refused r;
  cross_refused = swapped.cross_refused r;
  dot_refused = swapped.dot_refused r;
}
