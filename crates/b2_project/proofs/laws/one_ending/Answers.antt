use Rattle.b2_project.proofs.OneEnding as by
use Rattle.b2_project.proofs.laws.one_ending.Goals as goal

pub returns : goal.returns
returns c = by.one_ending c.one_course.ensures
