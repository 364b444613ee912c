use Rattle.std.proofs.Common.{◌≡◌, ℕ, ◌<◌, ◌-◌, Some, Ok, length, slice_get}
use Rattle.b2_sched.specs.Schedules.{IsSettled}
use Rattle.b2_reach.specs.Steps.{AreMarked, ChangesMembers, IsDoneOrWaits, Goes}
use Rattle.b2_reach.proofs.reach.Reach.take_settled.Given as goal

-- the pending members so far are done, or wait on
abbrev pub invariant-loop-at : goal.invariant-loop-at
invariant-loop-at g l = record {
  same : ChangesMembers l.fn.self l.self;
  goes : Goes {T = Unit {0}} l.notes l.plan (IsSettled l.sched) l.fn.self l.fn.sights (g.F.Files.outside l.fn.files) l.self l.sights (g.F.Files.outside l.files) (Ok tt);
  done : (place n : ℕ) → place < l.at → slice_get l.fn.self.pending place ≡ Some n → IsDoneOrWaits l.plan.steps (IsSettled l.sched) l.sights.facts l.self n;
  marked : AreMarked l.sights.marks l.self.members;
}

abbrev pub decreases-loop-at : goal.decreases-loop-at
decreases-loop-at g l = length l.self.pending - l.at
