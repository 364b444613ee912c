use Rattle.jam_meaning.proofs.ExamplesHold.{marks_take, marks_refuse}
use Rattle.jam_meaning.proofs.examples.marked_params.Goals as goal

pub returns-clause-taken : goal.returns-clause-taken
returns-clause-taken c = marks_take

pub returns-clause-refused : goal.returns-clause-refused
returns-clause-refused c = marks_refuse
