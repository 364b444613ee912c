use Rattle.b2_facts.proofs.FactsTellSources.{facts_tell_includes}
use Rattle.b2_facts.proofs.laws.facts_tell_includes.Goals as goal

pub returns : goal.returns
returns c = facts_tell_includes
