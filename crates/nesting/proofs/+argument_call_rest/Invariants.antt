-- The bytes left fall: an argument goes on from its bracket, a call from the byte after its mark, the rest from a mark. Assumes nothing.
use Rattle.std.proofs.Common.{◌+◌, ◌*◌, ◌-◌, length}
use Rattle.nesting.proofs.+argument_call_rest.Given as goal

abbrev pub decreases-argument : goal.decreases-argument
decreases-argument l = 2 * (length l.s.now - l.at) + 1

abbrev pub decreases-call : goal.decreases-call
decreases-call l = 2 * (length l.s.now - l.at)

abbrev pub decreases-rest : goal.decreases-rest
decreases-rest l = 2 * (length l.s.now - l.given.end) + 1
