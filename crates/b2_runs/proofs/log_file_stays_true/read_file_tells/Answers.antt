use Rattle.b2_runs.proofs.FileIsOneLog as lemmas
use Rattle.b2_runs.proofs.log_file_stays_true.read_file_tells.Goals as goal

pub returns : goal.returns
returns c = lemmas.read_file_tells
