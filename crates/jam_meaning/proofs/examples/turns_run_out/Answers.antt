use Rattle.jam_meaning.proofs.ExamplesHold.{two_run_out, one_runs_out}
use Rattle.jam_meaning.proofs.CallsHold.{three_turns}
use Rattle.jam_meaning.proofs.examples.turns_run_out.Goals as goal

pub returns-clause-enough : goal.returns-clause-enough
returns-clause-enough c = three_turns

pub returns-clause-call : goal.returns-clause-call
returns-clause-call c = two_run_out

pub returns-clause-statement : goal.returns-clause-statement
returns-clause-statement c = one_runs_out
