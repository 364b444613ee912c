use Rattle.jam_meaning.proofs.CallsHold.{three_are_enough, two_are_not}
use Rattle.jam_meaning.proofs.ExamplesHold.{fault_before_turns}
use Rattle.jam_meaning.proofs.examples.turns.Goals as goal

pub returns-clause-enough : goal.returns-clause-enough
returns-clause-enough c = three_are_enough

pub returns-clause-too_few : goal.returns-clause-too_few
returns-clause-too_few c = two_are_not

pub returns-clause-argument : goal.returns-clause-argument
returns-clause-argument c = fault_before_turns
