use Rattle.b2_runs.proofs.AllWentStartsNothing.{update_reads_once}
use Rattle.b2_runs.proofs.what_answers_say.update_reads_once.Goals as goal

pub returns : goal.returns
returns c = update_reads_once
