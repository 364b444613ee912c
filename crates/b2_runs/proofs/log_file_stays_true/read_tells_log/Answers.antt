use Rattle.b2_runs.proofs.ReadTellsLog as lemmas
use Rattle.b2_runs.proofs.log_file_stays_true.read_tells_log.Goals as goal

pub returns : goal.returns
returns c = lemmas.read_tells_log
