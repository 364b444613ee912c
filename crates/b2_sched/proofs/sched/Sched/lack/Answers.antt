use Rattle.std.proofs.Common.{◌<◌, length, sym, ap, subst, arith}
use Rattle.b2_sched.specs.Schedules.{shown, Schedule}
use Rattle.b2_sched.specs.SchedulerCalls.{with_lack}
use Rattle.b2_sched.proofs.ChangesKeepTheInvariant.{kept_lack}
use Rattle.b2_sched.proofs.sched.Sched.lack.Goals as goal

pub index_mut-requires : goal.index_mut-requires
index_mut-requires c = let within = subst (λ (s : Schedule). c.args.step < length s.states) (sym c.self.view_is) c.requires.within in omega (arith, within, c.self.invariant.0.lacking_size)

pub invariant_of-self : goal.invariant_of-self
invariant_of-self c = (
  (kept_lack (shown c.self.inside.jobs c.self.inside.states.items c.self.inside.dependents.items c.self.inside.lacking.items c.self.inside.looks) c.self.inside.starts c.self.inside.running c.args.step c.self.invariant.0),
  c.self.invariant.1,
)

pub returns : goal.returns
returns c = ap (λ (s : Schedule). with_lack s c.args.step) c.self.view_is
