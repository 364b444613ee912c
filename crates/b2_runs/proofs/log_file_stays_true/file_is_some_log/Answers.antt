use Rattle.b2_runs.proofs.FileIsOneLog as lemmas
use Rattle.b2_runs.proofs.log_file_stays_true.file_is_some_log.Goals as goal

pub returns : goal.returns
returns c = lemmas.file_is_some_log
