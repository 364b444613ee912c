use Rattle.b2_runs.proofs.AllWentStartsNothing.{sink_fault_is_first}
use Rattle.b2_runs.proofs.what_answers_say.sink_fault_is_first.Goals as goal

pub returns : goal.returns
returns c = sink_fault_is_first
