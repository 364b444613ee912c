use Rattle.b2_source_laws.proofs.NextPlanIsTheSame.{updates_leave_sources}
use Rattle.b2_source_laws.proofs.next_plans.updates_leave_sources.Goals as goal

pub returns : goal.returns
returns c = updates_leave_sources
