use Rattle.b2_explain.proofs.LogIsProper.{found_is_rising}
use Rattle.b2_explain.proofs.laws.log_is_proper.Goals as goal

pub returns : goal.returns
returns c = λ u is outs r found. found_is_rising u.build.folder u.log is outs r found
