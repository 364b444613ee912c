use Rattle.b2_props.proofs.RowsGrowChoiceByChoice.{meets_next}
use Rattle.b2_props.proofs.clashes.Clashes.of.Goals as goal

pub loop-choice-preserved : goal.loop-choice-preserved
loop-choice-preserved c = meets_next c.args.choices.now c.loop-choice.choice-index c.choice-item.result c.loop-choice.made c.add.new.self c.loop-choice-test.true c.choice-item.is c.loop-choice.invariant c.in_ok-add.ensures
