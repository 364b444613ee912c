use Rattle.std.proofs.Common.{refl, sym, subst}
use Rattle.b2_declared.specs.DeclaringCalls.{refusal, IsRefusal}
use Rattle.b2_declared.proofs.fault.refusal.Goals as goal

pub returns-in-Ok : goal.returns-in-Ok
returns-in-Ok c = subst (IsRefusal (refusal c.args.visit.now c.args.call.now)) (sym c.in-Ok.ensures) refl
