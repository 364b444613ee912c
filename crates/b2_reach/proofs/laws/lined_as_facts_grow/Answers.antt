use Rattle.b2_reach.proofs.LinesAreThere.{lined_as_facts_grow}
use Rattle.b2_reach.proofs.laws.lined_as_facts_grow.Goals as goal

pub returns : goal.returns
returns c = lined_as_facts_grow
