use Rattle.b2_runs.proofs.CleanIsOne.{clean_is_made}
use Rattle.b2_runs.proofs.clean_build_is_one.clean_is_made.Goals as goal

pub returns : goal.returns
returns c = clean_is_made
