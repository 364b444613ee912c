use Rattle.b2_runs.proofs.CleanBySources.{clean_by_sources}
use Rattle.b2_runs.proofs.settled_afterwards.clean_by_sources.Goals as goal

pub returns : goal.returns
returns c = clean_by_sources
