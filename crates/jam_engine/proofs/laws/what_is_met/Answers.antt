use Rattle.jam_engine.proofs.ListsMeetWhatTheyReach.{each_meets, met_is_reached, reached_is_met, each_is_met_once}
use Rattle.jam_engine.proofs.laws.what_is_met.Goals as goal

pub returns-clause-some : goal.returns-clause-some
returns-clause-some c = each_meets

pub returns-clause-reached : goal.returns-clause-reached
returns-clause-reached c = met_is_reached

pub returns-clause-met : goal.returns-clause-met
returns-clause-met c = reached_is_met

pub returns-clause-once : goal.returns-clause-once
returns-clause-once c = each_is_met_once
