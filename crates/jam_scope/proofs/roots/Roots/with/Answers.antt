use Rattle.jam_scope.proofs.OutputRootsStayInFront.{begin_more}
use Rattle.jam_scope.proofs.roots.Roots.with.Goals as goal

pub invariant_of-result : goal.invariant_of-result
invariant_of-result c = begin_more c.as_slice.result.now c.args.dirs.now c.in_ok-paths.paths c.as_slice.ensures.first c.in_ok-paths.ensures
