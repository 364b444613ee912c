use Rattle.b2_explain.proofs.FirstStarts.{first_starts}
use Rattle.b2_explain.proofs.laws.first_starts.Goals as goal

pub returns : goal.returns
returns c = first_starts
