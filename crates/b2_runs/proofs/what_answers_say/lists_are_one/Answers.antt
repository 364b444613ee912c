use Rattle.b2_runs.proofs.AnswersExcludeEachOther.{lists_are_one}
use Rattle.b2_runs.proofs.what_answers_say.lists_are_one.Goals as goal

pub returns : goal.returns
returns c = lists_are_one
