use Rattle.std.proofs.Common.{◌≡◌, ◌≤◌, ◌-◌, None, take, length}
use Rattle.b2_project_walk.specs.Directories.{first_new}
use Rattle.b2_project_walk.proofs.queue.Queue.pass.Given as goal

abbrev pub invariant-loop-passed : goal.invariant-loop-passed
invariant-loop-passed l = record {
  none : first_new l.visits (take l.passed l.self.dirs.items) ≡ None;
  short : l.passed ≤ length l.self.dirs.items;
}

abbrev pub decreases-loop-passed : goal.decreases-loop-passed
decreases-loop-passed l = length l.self.dirs.items - l.passed
