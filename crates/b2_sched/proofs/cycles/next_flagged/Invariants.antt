use Rattle.std.proofs.Common.{◌≤◌, length}
use Rattle.b2_sched.specs.Cycles.{LeadTo}
use Rattle.b2_sched.proofs.cycles.next_flagged.Given as goal

-- each number leads to the lowest flagged one from here on
abbrev pub invariant-loop-number : goal.invariant-loop-number
invariant-loop-number l = record {
  within : l.number ≤ length l.flags;
  leads : LeadTo l.flags l.dependents l.number l.next.items;
}

abbrev pub decreases-loop-number : goal.decreases-loop-number
decreases-loop-number l = l.number
