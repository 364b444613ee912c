use Rattle.b2_props.proofs.WrittenValuesMakeASet.{empty_set}
use Rattle.b2_props.proofs.laws.no_pairs_are_set.Goals as goal

pub returns : goal.returns
returns c = empty_set
