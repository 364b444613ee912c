use Rattle.b2_runs.proofs.RecordIsTrue.{record_is_true}
use Rattle.b2_runs.proofs.disk_stays_sound.record_is_true.Goals as goal

pub returns : goal.returns
returns c = record_is_true
