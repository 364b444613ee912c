use Rattle.std.proofs.Common.{◌∙◌, List, sym, ap}
use Rattle.std.specs.Option.{option_copied}
use Rattle.b2_plan.specs.declared.step.Step.{Step}
use Rattle.b2_plan.specs.Plans.{step_at}
use Rattle.b2_explain.proofs.StepsAreExplained.{is_step}
use Rattle.b2_explain.proofs.ClaimsAreChecked.{is_needed}
use Rattle.b2_explain.proofs.check.is_why.Goals as goal

pub needed-requires : goal.needed-requires
needed-requires c =
    let plan = c.args.plan.now in
    let number = c.args.why.now.step in
    let at = ap (λ (steps : List Step). step_at steps number) (sym c.as_slice.ensures) ∙ sym c.find_step.ensures ∙ ap option_copied c.in-Some.is in
    is_step plan c.args.all c.args.survey.now c.requires.surveyed number c.in-Some.step.now at

pub is_cause-requires : goal.is_cause-requires
is_cause-requires c =
    let plan = c.args.plan.now in
    let why = c.args.why.now in
    let at = ap (λ (steps : List Step). step_at steps why.step) (sym c.as_slice.ensures) ∙ sym c.find_step.ensures ∙ ap option_copied c.in-Some.is in
    (plan, is_needed plan c.args.all c.args.survey.now why c.in-Some.step.now c.requires.surveyed c.requires.about c.requires.whole at (c.needed.ensures.0 c.if-needed.true))
