use Rattle.b2_runs.proofs.RecordIsTrue.{distinguishes_less}
use Rattle.b2_runs.proofs.disk_stays_sound.distinguishes_less.Goals as goal

pub returns : goal.returns
returns c = distinguishes_less
