use Rattle.std.proofs.Common.{Err, sym, ap, ◌∙◌, subst}
use Rattle.std.proofs.lemmas.Result.{err_from_is_err_and}
use Rattle.std.specs.Option.{option_copied}
use Rattle.jam_scope.specs.Lines.{actions_place}
use Rattle.jam_effects.specs.Spots.{spot_of}
use Rattle.jam_meaning.specs.StepJobs.{job_of}
use Rattle.jam_effects.specs.Rolling.{IsStepText}
use Rattle.jam_effects.proofs.ActionsExpandInTheirModule.{none_found, none_there, place_none, place_some, texted_here, untexted_here}
use Rattle.jam_effects.proofs.actions.actions_text.Goals as goal

pub returns-in_default-clause-answer : goal.returns-in_default-clause-answer
returns-in_default-clause-answer c =
    let w = c.args.world.now.now in
    none_found (job_of c.args.job.now) (spot_of c.args.at.now) w c.unknown_rule.result (actions_place c.args.job.now.name w)
    (place_none _ c.find_actions.result c.args.job.now.name c.as_str.result.now w c.find_actions.ensures c.as_str.ensures.value c.in_default.is) c.unknown_rule.ensures

pub returns-in_default-action_body-clause-answer : goal.returns-in_default-action_body-clause-answer
returns-in_default-action_body-clause-answer c =
    let w = c.args.world.now.now in
    none_there (job_of c.args.job.now) (spot_of c.args.at.now) w (c.in-Some.found.module.now, c.in-Some.found.name.now) c.unknown_rule-in_default-action_body.result (actions_place c.args.job.now.name w)
    (place_some _ c.find_actions.result c.in-Some.found c.args.job.now.name c.as_str.result.now w c.find_actions.ensures c.as_str.ensures.value c.in-Some.is)
    (sym c.action_body.ensures ∙ ap option_copied c.in_default-action_body.is) c.unknown_rule-in_default-action_body.ensures

pub returns-in_err-text-clause-answer : goal.returns-in_err-text-clause-answer
returns-in_err-text-clause-answer c =
    let w = c.args.world.now.now in
    let p = err_from_is_err_and c.from_residual-in_err-text.result c.from_residual-in_err-text.ensures.1 in
    subst (λ r. IsStepText (job_of c.args.job.now) (spot_of c.args.at.now) w r) (sym (p.1 ∙ ap Err p.2))
    (untexted_here (job_of c.args.job.now) (spot_of c.args.at.now) w c.enter.new.self.now (c.in-Some.found.module.now, c.in-Some.found.name.now) c.as_str-2.result.now c.in-Some-action_body.actions.now c.as_str-3.result.now
    c.as_slice-3.result.now c.as_slice-4.result.now c.in_err-text.field-0.0
    (place_some _ c.find_actions.result c.in-Some.found c.args.job.now.name c.as_str.result.now w c.find_actions.ensures c.as_str.ensures.value c.in-Some.is)
    (sym c.action_body.ensures ∙ ap option_copied c.in-Some-action_body.is)
    (c.as_slice-3.ensures ∙ c.in_ok-outs.ensures ∙ c.as_slice.ensures) (c.as_slice-4.ensures ∙ c.in_ok-ins.ensures ∙ c.as_slice-2.ensures)
    (c.as_str-2.ensures.value ∙ c.in_ok-module.ensures) (ap (λ ws. ws.now) c.in_ok-enter.ensures.ok) (c.as_str-3.ensures.value ∙ c.in_ok-body.ensures ∙ c.text.ensures) c.in_err-text.ensures)

pub returns-clause-answer : goal.returns-clause-answer
returns-clause-answer c =
    let w = c.args.world.now.now in
    texted_here (job_of c.args.job.now) w c.enter.new.self.now (c.in-Some.found.module.now, c.in-Some.found.name.now) c.as_str-2.result.now c.in-Some-action_body.actions.now c.as_str-3.result.now c.in_ok-text.text
    c.as_slice-3.result.now c.as_slice-4.result.now (option_copied c.step.result) c.in_ok-noted.field-0
    (place_some _ c.find_actions.result c.in-Some.found c.args.job.now.name c.as_str.result.now w c.find_actions.ensures c.as_str.ensures.value c.in-Some.is)
    (sym c.action_body.ensures ∙ ap option_copied c.in-Some-action_body.is)
    (c.as_slice-3.ensures ∙ c.in_ok-outs.ensures ∙ c.as_slice.ensures) (c.as_slice-4.ensures ∙ c.in_ok-ins.ensures ∙ c.as_slice-2.ensures)
    (c.as_str-2.ensures.value ∙ c.in_ok-module.ensures) (ap (λ ws. ws.now) c.in_ok-enter.ensures.ok) (c.as_str-3.ensures.value ∙ c.in_ok-body.ensures ∙ c.text.ensures) c.in_ok-text.ensures c.step.ensures c.in_ok-noted.ensures
