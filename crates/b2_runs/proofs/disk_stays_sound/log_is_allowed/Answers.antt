use Rattle.b2_runs.proofs.DiskStaysSound.{log_is_allowed}
use Rattle.b2_runs.proofs.disk_stays_sound.log_is_allowed.Goals as goal

pub returns : goal.returns
returns c = log_is_allowed
