use Rattle.b2_drill_laws.proofs.SessionsGoWell.{drills_go_well}
use Rattle.b2_drill_laws.proofs.laws.drills_go_well.Goals as goal

pub returns : goal.returns
returns c = drills_go_well c.drill_means.ensures c.no_pattern_is_refused.ensures c.one_meaning.ensures
