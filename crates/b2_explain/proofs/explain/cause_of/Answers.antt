use Rattle.std.proofs.Common.{◌≡◌, ◌∙◌, ℕ, List, Option, None, sym, ap, subst, arith}
use Rattle.std.specs.Option.{IfSome, option_copied}
use Rattle.std.proofs.lemmas.List.{get_or_default}
use Rattle.b2_log.specs.declared.line.Record.{Record}
use Rattle.b2_log.specs.Finding.{find_record}
use Rattle.b2_looks.proofs.FilesAreNumbered.{if_ok_then}
use Rattle.b2_explain.specs.SeenCauses.{IsAtEntry, IsCauseBy}
use Rattle.b2_explain.specs.Found.{IsFoundCause}
use Rattle.b2_explain.proofs.StepsAreExplained.{is_step, within_judged, at_entry, judged_found}
use Rattle.b2_explain.proofs.explain.cause_of.Goals as goal

pub index-requires : goal.index-requires
index-requires c =
    let (plan, all, of) = c.requires in
    let low = within_judged plan all c.args.survey.now of.surveyed c.args.number (is_step plan all c.args.survey.now of.surveyed c.args.number c.args.step.now of.at) in
    let size = c.args.survey.now.judged.ok in
    omega (arith, low, size)

pub open_cause-requires : goal.open_cause-requires
open_cause-requires c =
    let (plan, all, of) = c.requires in
    let y = c.args.survey.now in
    let within = within_judged plan all y of.surveyed c.args.number (is_step plan all y of.surveyed c.args.number c.args.step.now of.at) in
    (plan, all, record { step = c.args.step.now; of_step = of; unjudged = get_or_default y.judged.items c.args.number None c.index.result.now within ∙ sym c.index.ensures ∙ c.in-None.is })

pub returns-in-None : goal.returns-in-None
returns-in-None c plan at = c.open_cause.ensures plan

pub cause_of_point-requires : goal.cause_of_point-requires
cause_of_point-requires c =
    let (plan, all, of) = c.requires in
    let y = c.args.survey.now in
    let step = c.args.step.now in
    let number_step = is_step plan all y of.surveyed c.args.number step of.at in
    let judged = c.in-Some.judged in
    let at_judged = get_or_default y.judged.items c.args.number None c.index.result.now (within_judged plan all y of.surveyed c.args.number number_step) ∙ sym c.index.ensures ∙ c.in-Some.is in
    let found : find_record step.outs y.sights.journal ≡ option_copied c.record-last.result = ap (λ (os : List (List ℕ)). find_record os y.sights.journal) (sym c.as_slice.ensures) ∙ sym c.record-last.ensures.exact in
    record { entry = subst (λ (last : Option Record). IfSome judged.point (IsAtEntry y.sights.facts judged.numbers last)) found (at_entry plan all y of.surveyed c.args.number judged at_judged number_step step of.at of.about.sizes) }

pub returns-in-Some : goal.returns-in-Some
returns-in-Some c plan at =
    let (own, all, of) = c.requires in
    let y = c.args.survey.now in
    let step = c.args.step.now in
    let number_step = is_step own all y of.surveyed c.args.number step of.at in
    let judged = c.in-Some.judged in
    let at_judged = get_or_default y.judged.items c.args.number None c.index.result.now (within_judged own all y of.surveyed c.args.number number_step) ∙ sym c.index.ensures ∙ c.in-Some.is in
    let found : find_record step.outs y.sights.journal ≡ option_copied c.record-last.result = ap (λ (os : List (List ℕ)). find_record os y.sights.journal) (sym c.as_slice.ensures) ∙ sym c.record-last.ensures.exact in
    if_ok_then c.cause_of_point.result (IsCauseBy judged.numbers (option_copied c.record-last.result) y.sights.facts judged.point) (IsFoundCause plan y c.args.number)
    (λ cause told. judged_found own all y of.surveyed c.args.number judged at_judged number_step step of.at of.about.sizes cause (subst (λ (last : Option Record). IsCauseBy judged.numbers last y.sights.facts judged.point cause) (sym found) told) plan at) c.cause_of_point.ensures
