use Rattle.b2_source_laws.proofs.NextFindsFresh.{next_finds_fresh}
use Rattle.b2_source_laws.proofs.next_calls.next_finds_fresh.Goals as goal

pub returns : goal.returns
returns c = next_finds_fresh c.one_meaning.ensures
