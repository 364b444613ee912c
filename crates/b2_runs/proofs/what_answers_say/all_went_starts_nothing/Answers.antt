use Rattle.b2_runs.proofs.AllWentStartsNothing.{all_went_starts_nothing}
use Rattle.b2_runs.proofs.what_answers_say.all_went_starts_nothing.Goals as goal

pub returns : goal.returns
returns c = all_went_starts_nothing
