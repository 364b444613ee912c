use Rattle.b2_runs.proofs.DiskStaysSound.{removal_is_allowed}
use Rattle.b2_runs.proofs.disk_stays_sound.removal_is_allowed.Goals as goal

pub returns : goal.returns
returns c = removal_is_allowed
