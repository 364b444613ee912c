use Rattle.b2_explain.proofs.FoundIsExplained.{found_is_explained}
use Rattle.b2_explain.proofs.laws.found_is_explained.Goals as goal

pub returns : goal.returns
returns c = found_is_explained
