use Rattle.b2_project_walk.proofs.OneCourse as by
use Rattle.b2_project_walk.proofs.laws.one_course.Goals as goal

pub returns : goal.returns
returns c = by.one_course
