use Rattle.b2_runs.proofs.RecordIsProper as lemmas
use Rattle.b2_runs.proofs.log_file_stays_true.drop_is_proper.Goals as goal

pub returns : goal.returns
returns c = lemmas.drop_is_proper
