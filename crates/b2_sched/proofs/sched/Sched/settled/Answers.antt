use Rattle.std.proofs.Common.{◌<◌, length, refl, sym, ◌∙◌, subst, arith}
use Rattle.std.proofs.lemmas.Bool.{false≢true}
use Rattle.std.proofs.lemmas.List.{get_or_default}
use Rattle.b2_sched.specs.declared.state.State.TheVariants.{Settled}
use Rattle.b2_sched.specs.Schedules.{Schedule, IsSettled}
use Rattle.b2_sched.proofs.sched.Sched.settled.Goals as goal

pub index-requires : goal.index-requires
index-requires c =
    let within = subst (λ (s : Schedule). c.args.step < length s.states) (sym c.self.view_is) c.requires.within in omega (arith, within)

pub returns-in-Settled : goal.returns-in-Settled
returns-in-Settled c =
    let within = subst (λ (s : Schedule). c.args.step < length s.states) (sym c.self.view_is) c.requires.within in
    ((λ h. subst (λ (s : Schedule). IsSettled s c.args.step) c.self.view_is (get_or_default c.self.inside.states.items c.args.step Settled c.index.result.now within ∙ sym c.index.ensures ∙ c.in-Settled.is)), (λ h. refl))

pub returns-in_default : goal.returns-in_default
returns-in_default c =
    let within = subst (λ (s : Schedule). c.args.step < length s.states) (sym c.self.view_is) c.requires.within in
    ((λ h. absurd (false≢true h)), (λ h. absurd (c.in_default.not-Settled (sym (get_or_default c.self.inside.states.items c.args.step Settled c.index.result.now within ∙ sym c.index.ensures) ∙ subst (λ (s : Schedule). IsSettled s c.args.step) (sym c.self.view_is) h))))
