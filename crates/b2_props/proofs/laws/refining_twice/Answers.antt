use Rattle.b2_props.specs.Refinement.{completed}
use Rattle.b2_props.proofs.WrittenValuesMakeASet.{refined_twice}
use Rattle.b2_props.proofs.laws.refining_twice.Goals as goal

pub returns : goal.returns
returns c = λ table set required distinct. refined_twice table set (completed table required) distinct
