use Rattle.b2_facts.proofs.FactsTellSources.{true_as_files_change}
use Rattle.b2_facts.proofs.laws.true_as_files_change.Goals as goal

pub returns : goal.returns
returns c = true_as_files_change
