use Rattle.b2_runs.proofs.CleanIsOne.{clean_is_one}
use Rattle.b2_runs.proofs.clean_build_is_one.clean_is_one.Goals as goal

pub returns : goal.returns
returns c = clean_is_one
