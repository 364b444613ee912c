use Rattle.std.proofs.Common.{◌+◌, not, length}
use Rattle.std.specs.List.{count_by}
use Rattle.b2_sched.specs.Searches.{IsSearch}
use Rattle.b2_sched.specs.Schedules.{shown}
use Rattle.b2_sched.proofs.sched.Sched.search.Given as goal

-- the search so far
abbrev pub invariant-loop-step : goal.invariant-loop-step
invariant-loop-step l = IsSearch (shown l.self-inside.jobs l.self-inside.states.items l.self-inside.dependents.items l.self-inside.lacking.items l.self-inside.looks) l.search.left.items l.search.found.items l.search.pending.items

abbrev pub decreases-loop-step : goal.decreases-loop-step
decreases-loop-step l = count_by not l.search.found.items + length l.search.pending.items
