use Rattle.b2_runs.proofs.TornAppendLeaves as lemmas
use Rattle.b2_runs.proofs.log_file_stays_true.append_adds.Goals as goal

pub returns : goal.returns
returns c = lemmas.append_adds
