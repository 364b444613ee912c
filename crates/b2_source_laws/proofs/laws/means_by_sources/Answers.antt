use Rattle.b2_source_laws.proofs.MeaningBySources.{means_by_sources}
use Rattle.b2_source_laws.proofs.laws.means_by_sources.Goals as goal

pub returns : goal.returns
returns c = means_by_sources
