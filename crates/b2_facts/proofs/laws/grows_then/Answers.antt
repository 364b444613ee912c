use Rattle.b2_facts.proofs.FactsGrow.{grows_then}
use Rattle.b2_facts.proofs.laws.grows_then.Goals as goal

pub returns : goal.returns
returns c = grows_then
