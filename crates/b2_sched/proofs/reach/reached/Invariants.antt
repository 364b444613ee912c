use Rattle.std.proofs.Common.{◌+◌, not, length}
use Rattle.std.specs.List.{count_by}
use Rattle.b2_sched.specs.Reaches.{IsReach}
use Rattle.b2_sched.proofs.reach.reached.Given as goal

-- the search so far
abbrev pub invariant-loop-number : goal.invariant-loop-number
invariant-loop-number l = IsReach l.first l.dependents l.search.left.items l.search.found.items l.search.pending.items

abbrev pub decreases-loop-number : goal.decreases-loop-number
decreases-loop-number l = count_by not l.search.found.items + length l.search.pending.items
