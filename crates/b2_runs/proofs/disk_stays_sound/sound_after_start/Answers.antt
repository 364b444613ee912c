use Rattle.b2_runs.proofs.DiskStaysSound.{sound_after_start}
use Rattle.b2_runs.proofs.disk_stays_sound.sound_after_start.Goals as goal

pub returns : goal.returns
returns c = sound_after_start
