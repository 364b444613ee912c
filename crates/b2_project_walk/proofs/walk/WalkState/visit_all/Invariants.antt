use Rattle.std.proofs.Common.{drop}
use Rattle.b2_project_walk.specs.WalkParts.{stand, visits_all, Leads}
use Rattle.b2_project_walk.proofs.walk.WalkState.visit_all.Given as goal

abbrev pub invariant-loop-dir : goal.invariant-loop-dir
invariant-loop-dir g l =
    Leads (visits_all l.dirs) (visits_all (drop l.dir-index l.dirs)) (stand l.fn.self l.fn.turns (g.F.Files.outside l.fn.files)) (stand l.self l.turns (g.F.Files.outside l.files))
