use Rattle.b2_source_laws.proofs.SourcesStay.{host_updates_leave_sources}
use Rattle.b2_source_laws.proofs.next_plans.host_updates_leave_sources.Goals as goal

pub returns : goal.returns
returns c = host_updates_leave_sources
