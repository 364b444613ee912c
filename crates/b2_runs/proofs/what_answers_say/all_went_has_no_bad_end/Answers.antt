use Rattle.b2_runs.proofs.AllWentStartsNothing.{all_went_has_no_bad_end}
use Rattle.b2_runs.proofs.what_answers_say.all_went_has_no_bad_end.Goals as goal

pub returns : goal.returns
returns c = all_went_has_no_bad_end
