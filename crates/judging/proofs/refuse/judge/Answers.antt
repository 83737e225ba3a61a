-- One answer for each shape, from its function. Assumes nothing.
use Rattle.judging.proofs.refuse.judge.Goals as goal

pub returns-in-OneValue : goal.returns-in-OneValue
returns-in-OneValue c = rw c.in-OneValue.is c.one_value.ensures

pub returns-in-TwoAlike : goal.returns-in-TwoAlike
returns-in-TwoAlike c = rw c.in-TwoAlike.is c.two_alike.ensures

pub returns-in-ThreeAlike : goal.returns-in-ThreeAlike
returns-in-ThreeAlike c = rw c.in-ThreeAlike.is c.three_alike.ensures

pub returns-in-Selecting : goal.returns-in-Selecting
returns-in-Selecting c = rw c.in-Selecting.is c.selecting.ensures

pub returns-in-Scaling : goal.returns-in-Scaling
returns-in-Scaling c = rw c.in-Scaling.is c.scaling.ensures

pub returns-in-Casting : goal.returns-in-Casting
returns-in-Casting c = rw c.in-Casting.is c.casting.ensures
