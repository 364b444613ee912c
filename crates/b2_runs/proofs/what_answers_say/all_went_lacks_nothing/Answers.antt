use Rattle.b2_runs.proofs.AnswersExcludeEachOther.{all_went_lacks_nothing}
use Rattle.b2_runs.proofs.what_answers_say.all_went_lacks_nothing.Goals as goal

pub returns : goal.returns
returns c = all_went_lacks_nothing
