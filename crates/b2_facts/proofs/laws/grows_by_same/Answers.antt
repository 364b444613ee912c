use Rattle.b2_facts.proofs.FactsGrow.{grows_same}
use Rattle.b2_facts.proofs.laws.grows_by_same.Goals as goal

pub returns : goal.returns
returns c = grows_same
