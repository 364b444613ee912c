use Rattle.b2_project_walk.proofs.VisitsGrowByOne.{none_visited}
use Rattle.b2_project_walk.proofs.visits.Visits.new.Goals as goal

pub invariant_of-result : goal.invariant_of-result
invariant_of-result c = none_visited c.new-2.result c.new.result.items c.new-2.ensures c.new.ensures.items
