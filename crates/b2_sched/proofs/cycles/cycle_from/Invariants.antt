use Rattle.std.proofs.Common.{not}
use Rattle.std.specs.List.{count_by}
use Rattle.b2_sched.specs.Cycles.{IsPathTo}
use Rattle.b2_sched.proofs.cycles.cycle_from.Given as goal

-- the walk so far
abbrev pub invariant-loop-seen : goal.invariant-loop-seen
invariant-loop-seen l = IsPathTo l.next l.first l.path.items l.at l.seen.items

abbrev pub decreases-loop-seen : goal.decreases-loop-seen
decreases-loop-seen l = count_by not l.seen.items
