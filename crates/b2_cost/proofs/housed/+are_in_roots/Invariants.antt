use Rattle.std.proofs.Common.{length}
use Rattle.b2_cost.proofs.housed.+are_in_roots.Given as goal

abbrev pub decreases-are_in_roots : goal.decreases-are_in_roots
decreases-are_in_roots l = length l.paths.now
