use Rattle.b2_runs.proofs.AllWentStartsNothing.{cycle_ends_no_report}
use Rattle.b2_runs.proofs.what_answers_say.cycle_ends_no_report.Goals as goal

pub returns : goal.returns
returns c = cycle_ends_no_report
