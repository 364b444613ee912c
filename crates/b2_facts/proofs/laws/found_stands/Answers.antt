use Rattle.b2_facts.proofs.FactsTellSources.{found_stands}
use Rattle.b2_facts.proofs.laws.found_stands.Goals as goal

pub returns : goal.returns
returns c = found_stands
