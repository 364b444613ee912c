use Rattle.b2_runs.proofs.TrueFileTells as lemmas
use Rattle.b2_runs.proofs.log_file_stays_true.true_file_tells.Goals as goal

pub returns : goal.returns
returns c = lemmas.true_file_tells
