use Rattle.b2_runs.proofs.AnswersExcludeEachOther.{may_answer_all_went}
use Rattle.b2_runs.proofs.what_answers_say.may_answer_all_went.Goals as goal

pub returns : goal.returns
returns c = may_answer_all_went
