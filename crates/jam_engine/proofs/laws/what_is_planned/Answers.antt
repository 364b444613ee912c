use Rattle.jam_engine.proofs.PlansHoldAllActs.{requested_is_wanted, each_act_is_in_a_step}
use Rattle.jam_engine.proofs.laws.what_is_planned.Goals as goal

pub returns-clause-acts : goal.returns-clause-acts
returns-clause-acts c = each_act_is_in_a_step

pub returns-clause-wanted : goal.returns-clause-wanted
returns-clause-wanted c = requested_is_wanted
