use Rattle.std.proofs.Common.{◌-◌, ◌^◌, Ok}
use Rattle.b2_sched.specs.Schedules.{IsSettled}
use Rattle.b2_reach.specs.Steps.{AreMarked, Goes}
use Rattle.b2_reach.proofs.reach.Reach.take_rest.Given as goal

-- the members below the next place were taken
abbrev pub invariant-loop-self : goal.invariant-loop-self
invariant-loop-self g l = record {
  goes : Goes {T = Unit {0}} l.notes l.plan (IsSettled l.sched) l.fn.self l.fn.sights (g.F.Files.outside l.fn.files) l.self l.sights (g.F.Files.outside l.files) (Ok tt);
  marked : AreMarked l.sights.marks l.self.members;
}

abbrev pub decreases-loop-self : goal.decreases-loop-self
decreases-loop-self g l = 2 ^ 64 - l.self.done
