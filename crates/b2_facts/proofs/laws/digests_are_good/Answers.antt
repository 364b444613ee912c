use Rattle.b2_facts.proofs.DigestsAreHexadecimal.{digest_good}
use Rattle.b2_facts.proofs.laws.digests_are_good.Goals as goal

pub returns : goal.returns
returns c = digest_good
