use Rattle.b2_generators.proofs.ChainAnswersExcludeEachOther.{none_is_not_one, none_is_not_two, one_is_not_two}
use Rattle.b2_generators.proofs.laws.one_answer.Goals as goal

pub returns : goal.returns
returns c = record { none_or_one = none_is_not_one; none_or_two = none_is_not_two; one_or_two = one_is_not_two }
