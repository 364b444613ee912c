use Rattle.b2_source_laws.proofs.SourcesStay.{stops_leave_sources}
use Rattle.b2_source_laws.proofs.next_plans.stops_leave_sources.Goals as goal

pub returns : goal.returns
returns c = stops_leave_sources
