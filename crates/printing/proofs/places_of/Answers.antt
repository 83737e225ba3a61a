use borrow.Author.Tests.{lt-ltb, le-ltb}
use Rattle.printing.specs.Decimal.{places}
use Rattle.printing.proofs.places_of.Goals as goal

pub returns-then-v-lt10 : goal.returns-then-v-lt10
unfolding places
returns-then-v-lt10 c = rw (lt-ltb _ _ c.if-v-lt10.true)

pub returns-then-v-lt100 : goal.returns-then-v-lt100
unfolding places
returns-then-v-lt100 c = rw (le-ltb _ 10 c.if-v-lt10.false, lt-ltb _ _ c.if-v-lt100.true)

pub returns-else-v-lt100 : goal.returns-else-v-lt100
unfolding places
returns-else-v-lt100 c = rw (le-ltb _ 10 c.if-v-lt10.false, le-ltb _ 100 c.if-v-lt100.false)
