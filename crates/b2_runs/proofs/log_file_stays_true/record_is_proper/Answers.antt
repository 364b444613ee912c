use Rattle.b2_runs.proofs.RecordIsProper as lemmas
use Rattle.b2_runs.proofs.log_file_stays_true.record_is_proper.Goals as goal

pub returns : goal.returns
returns c = lemmas.record_is_proper
