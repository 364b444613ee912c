use Rattle.b2_runs.proofs.DiskStaysSound.{work_is_allowed}
use Rattle.b2_runs.proofs.disk_stays_sound.work_is_allowed.Goals as goal

pub returns : goal.returns
returns c = work_is_allowed
