use Rattle.std.proofs.Common.{◌≡◌, drop}
use Rattle.std.specs.Option.{option_or}
use Rattle.b2_project_walk.specs.Directories.{last_visited}
use Rattle.b2_project_walk.proofs.visits.Visits.last_of.Given as goal

abbrev pub invariant-loop-dir : goal.invariant-loop-dir
invariant-loop-dir l = option_or (last_visited l.self l.dirs) l.fn.first ≡ option_or (last_visited l.self (drop l.dir-index l.dirs)) l.last
