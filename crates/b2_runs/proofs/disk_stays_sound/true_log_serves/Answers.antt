use Rattle.b2_runs.proofs.DiskStaysSound.{true_log_serves}
use Rattle.b2_runs.proofs.disk_stays_sound.true_log_serves.Goals as goal

pub returns : goal.returns
returns c = true_log_serves
