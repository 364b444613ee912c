use Rattle.b2_refine.proofs.RivalMeansNoneIsChosen.{choice_of_others}
use Rattle.b2_refine.proofs.choice.choose.Goals as goal

pub returns : goal.returns
returns c = choice_of_others c.args.full.now c.args.conditions.now c.choose_among.result c.if-conditions-eq1.false c.choose_among.ensures
