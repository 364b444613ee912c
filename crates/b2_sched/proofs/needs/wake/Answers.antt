use Rattle.std.proofs.Common.{ℕ, cond, true, get_or, set, ap, ◌∙◌, arith}
use Rattle.std.proofs.lemmas.List.{get_or_default}
use Rattle.b2_sched.specs.declared.state.State.TheVariants.{Unjudged, Settled}
use Rattle.std.proofs.lemmas.List.Elements.{Contains-get_or}
use Rattle.b2_sched.specs.Keeping.{is_unjudged}
use Rattle.b2_sched.proofs.DependentsWakeOneByOne.{woken_more}
use Rattle.b2_sched.proofs.needs.wake.Goals as goal

pub bounds-states-number : goal.bounds-states-number
bounds-states-number c = c.requires.within (get_or c.args.dependents.now c.loop-dependent.dependent-index 0) (Contains-get_or c.args.dependents.now c.loop-dependent.dependent-index 0 c.loop-dependent-test.true)

pub wake_one-requires : goal.wake_one-requires
wake_one-requires c = omega (arith, c.loop-dependent.invariant.size, c.requires.size, c.requires.within (get_or c.args.dependents.now c.loop-dependent.dependent-index 0) (Contains-get_or c.args.dependents.now c.loop-dependent.dependent-index 0 c.loop-dependent-test.true))

pub loop-dependent-preserved : goal.loop-dependent-preserved
loop-dependent-preserved c =
    let d : ℕ = get_or c.args.dependents.now c.loop-dependent.dependent-index 0 in
    let within = c.requires.within d (Contains-get_or c.args.dependents.now c.loop-dependent.dependent-index 0 c.loop-dependent-test.true) in
    woken_more c.args.states.now c.args.dependents.now c.loop-dependent.dependent-index c.args.looks.now c.loop-dependent.looks c.wake_one.new.looks c.loop-dependent-test.true
    (omega (arith, c.loop-dependent.invariant.size, c.requires.size, within)) (c.wake_one.ensures ∙ ap (λ state. cond (is_unjudged state) (set c.loop-dependent.looks d true) c.loop-dependent.looks) (get_or_default c.args.states.now d Unjudged Settled within)) c.loop-dependent.invariant
