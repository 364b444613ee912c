use Rattle.b2_runs.proofs.AllWentStartsNothing.{done_well_stands}
use Rattle.b2_runs.proofs.what_answers_say.done_well_stands.Goals as goal

pub returns : goal.returns
returns c = done_well_stands
