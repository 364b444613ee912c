use Rattle.b2_runs.proofs.TrueFileTells as lemmas
use Rattle.b2_runs.proofs.log_file_stays_true.file_true_as_past_grows.Goals as goal

pub returns : goal.returns
returns c = lemmas.file_true_as_past_grows
