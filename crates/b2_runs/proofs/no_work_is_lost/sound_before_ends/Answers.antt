use Rattle.b2_runs.proofs.BegunUpToStart.{sound_before_ends}
use Rattle.b2_runs.proofs.no_work_is_lost.sound_before_ends.Goals as goal

pub returns : goal.returns
returns c = sound_before_ends
