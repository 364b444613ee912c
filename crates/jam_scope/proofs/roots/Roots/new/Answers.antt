use Rattle.std.proofs.Common.{[]}
use Rattle.jam_scope.proofs.roots.Roots.new.Goals as goal

pub invariant_of-result : goal.invariant_of-result
invariant_of-result c = ([], c.in_ok-paths.ensures)
