use Rattle.b2_runs.proofs.AnswersExcludeEachOther.{failed_has_no_cycle}
use Rattle.b2_runs.proofs.what_answers_say.failed_has_no_cycle.Goals as goal

pub returns : goal.returns
returns c = failed_has_no_cycle
