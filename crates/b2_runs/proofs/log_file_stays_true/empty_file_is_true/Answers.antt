use Rattle.b2_runs.proofs.TrueFileTells as lemmas
use Rattle.b2_runs.proofs.log_file_stays_true.empty_file_is_true.Goals as goal

pub returns : goal.returns
returns c = lemmas.empty_file_is_true
