use Rattle.std.proofs.Common.{◌≡◌, ◌∙◌, List, true, false, Some, refl, sym, subst}
use Rattle.b2_plan.specs.declared.step.Step.{Step}
use Rattle.b2_plan.specs.Plans.{step_at}
use Rattle.b2_explain.specs.Found.{AddsCause.told as cause_told, AddsCause.passed as cause_passed}
use Rattle.b2_explain.proofs.StepsAreExplained.{the_step}
use Rattle.b2_explain.proofs.explain.add_cause.Goals as goal

pub returns-then-not-needed : goal.returns-then-not-needed
returns-then-not-needed c = cause_passed (λ needed. (let e : true ≡ false = sym (c.needed.ensures.1 needed) ∙ c.if-not-needed.true in cc)) refl

pub step_of-step-requires : goal.step_of-step-requires
step_of-step-requires c =
    let (all, surveyed) = c.requires.surveyed in
    let (step, at) = the_step c.args.plan.now all c.args.survey.now surveyed c.args.number c.requires.step in
    (step, subst (λ (xs : List Step). step_at xs c.args.number ≡ Some step) (sym c.as_slice.ensures) at)

pub cause_of-requires : goal.cause_of-requires
cause_of-requires c =
    let (all, surveyed) = c.requires.surveyed in
    let at = subst (λ (xs : List Step). step_at xs c.args.number ≡ Some c.step_of-step.result.now) c.as_slice.ensures c.step_of-step.ensures in
    (c.args.plan.now, all, record { surveyed = surveyed; about = c.requires.about; whole = c.requires.whole; at = at; needed = c.needed.ensures.0 c.if-not-needed.false })

pub returns : goal.returns
returns c =
    let at = subst (λ (xs : List Step). step_at xs c.args.number ≡ Some c.step_of-step.result.now) c.as_slice.ensures c.step_of-step.ensures in
    cause_told c.in_ok-cause.cause (c.needed.ensures.0 c.if-not-needed.false) (c.in_ok-cause.ensures c.args.plan.now at) c.in_ok-push.ensures.ok
