use Rattle.b2_refine.proofs.RivalMeansNoneIsChosen.{clash_choice}
use Rattle.b2_refine.proofs.choice.choose_among.Goals as goal

pub returns : goal.returns
returns c = clash_choice c.args.full.now c.args.conditions.now c.in-Some.place c.in-Some-rival._rival c.in-Some-first_clash.i c.in-Some-first_clash.k c.in-Some.ensures c.in-Some-rival.ensures.found c.in-Some-first_clash.ensures.found
