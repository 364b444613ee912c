use Rattle.std.proofs.Common.{◌≡◌, ◌++◌}
use Rattle.std.specs.Vec.Iter.{into_iter_items}
use Rattle.b2_project_walk.proofs.calls.append.Given as goal

abbrev pub invariant-loop-dir : goal.invariant-loop-dir
invariant-loop-dir l = l.dirs.items ++ into_iter_items l.dir-iterator ≡ l.fn.dirs.items ++ l.fn.more
