use Rattle.b2_runs.proofs.KeptTellsSame as lemmas
use Rattle.b2_runs.proofs.log_file_stays_true.kept_tells_same.Goals as goal

pub returns : goal.returns
returns c = lemmas.kept_tells_same
