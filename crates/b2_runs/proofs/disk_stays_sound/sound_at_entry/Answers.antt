use Rattle.b2_runs.proofs.DiskStaysSound.{sound_at_entry}
use Rattle.b2_runs.proofs.disk_stays_sound.sound_at_entry.Goals as goal

pub returns : goal.returns
returns c = sound_at_entry
