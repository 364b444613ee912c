use Rattle.b2_runs.proofs.AllWentStartsNothing.{sound_at_exit}
use Rattle.b2_runs.proofs.what_answers_say.sound_at_exit.Goals as goal

pub returns : goal.returns
returns c = sound_at_exit
