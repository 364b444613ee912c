use Rattle.b2_generators.proofs.ChainAnswersExcludeEachOther.{same_type_is_empty, empty_is_chain}
use Rattle.b2_generators.proofs.laws.same_type.Goals as goal

pub returns : goal.returns
returns c = record { empty = same_type_is_empty; chain = empty_is_chain }
