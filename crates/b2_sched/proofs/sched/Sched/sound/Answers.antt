use Rattle.std.proofs.Common.{subst}
use Rattle.b2_sched.specs.Schedules.{shown}
use Rattle.b2_sched.specs.Sound.{IsSound}
use Rattle.b2_sched.proofs.KeptMeansSound.{sound_if_kept}
use Rattle.b2_sched.proofs.sched.Sched.sound.Goals as goal

pub returns : goal.returns
returns c = subst IsSound c.self.view_is
    (sound_if_kept (shown c.self.inside.jobs c.self.inside.states.items c.self.inside.dependents.items c.self.inside.lacking.items c.self.inside.looks) c.self.inside.starts c.self.inside.running c.self.invariant.0)
