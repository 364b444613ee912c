use Rattle.std.proofs.Common.{◌≡◌, ◌∙◌, OnOk, IfErr, Ok, sym, ap, subst}
use Rattle.std.proofs.lemmas.Result.{err_from_is_err_and}
use Rattle.b2_property_texts.specs.Clashes.{has_two_values}
use Rattle.b2_declared.specs.Outcomes.{IsFaultOf}
use Rattle.b2_declared.specs.Carrying.{with_row, with_generator}
use Rattle.b2_declared.specs.Views.{seen}
use Rattle.b2_declared.proofs.CarriedOut.{required_fault, two_required_fault, generator_read}
use Rattle.b2_declared.proofs.tables.Tables.register_generator.Goals as goal

pub returns-in_err-required-clause-fault : goal.returns-in_err-required-clause-fault
returns-in_err-required-clause-fault c =
    let p = err_from_is_err_and c.from_residual.result c.from_residual.ensures.1 in
    rw (p.1, p.2)
    (required_fault c.args.visit.now c.args.call.now c.args.id.now c.args.sources.now c.args.targets.now c.args.requirements.now (seen c.args.self.now) _ c.in_err-required.ensures.fault)

pub returns-then-branch-clause-fault : goal.returns-then-branch-clause-fault
returns-then-branch-clause-fault c =
    two_required_fault c.args.visit.now c.args.call.now c.args.id.now c.args.sources.now c.args.targets.now c.args.requirements.now (seen c.args.self.now) c.in_ok-required.required c.in_ok-required.ensures.ok c.refusal.result
    (ap (has_two_values c.args.self.now.registry) (sym c.as_slice.ensures) ∙ sym c.in_ok-has_two_values.ensures ∙ c.if-branch.true) c.refusal.ensures

pub returns-clause-ok : goal.returns-clause-ok
returns-clause-ok c =
    let t = seen c.args.self.now in
    let whole : with_generator c.args.visit.now c.args.call.now c.args.id.now c.args.sources.now c.args.targets.now c.args.requirements.now t ≡ with_row c.args.visit.now c.args.call.now c.in_ok-generator.generator t =
    generator_read c.args.visit.now c.args.call.now c.args.id.now c.args.sources.now c.args.targets.now c.args.requirements.now t c.in_ok-required.required c.in_ok-required.ensures.ok
    (ap (has_two_values c.args.self.now.registry) (sym c.as_slice.ensures) ∙ sym c.in_ok-has_two_values.ensures ∙ c.if-branch.false)
    ∙ ap (λ g. with_row c.args.visit.now c.args.call.now g t) (sym c.in_ok-generator.ensures) in
    subst (λ r. OnOk c.register.result (r ≡ Ok (seen c.register.new.self))) (sym whole) c.register.ensures.ok

pub returns-clause-fault : goal.returns-clause-fault
returns-clause-fault c =
    let t = seen c.args.self.now in
    let whole : with_generator c.args.visit.now c.args.call.now c.args.id.now c.args.sources.now c.args.targets.now c.args.requirements.now t ≡ with_row c.args.visit.now c.args.call.now c.in_ok-generator.generator t =
    generator_read c.args.visit.now c.args.call.now c.args.id.now c.args.sources.now c.args.targets.now c.args.requirements.now t c.in_ok-required.required c.in_ok-required.ensures.ok
    (ap (has_two_values c.args.self.now.registry) (sym c.as_slice.ensures) ∙ sym c.in_ok-has_two_values.ensures ∙ c.if-branch.false)
    ∙ ap (λ g. with_row c.args.visit.now c.args.call.now g t) (sym c.in_ok-generator.ensures) in
    subst (λ r. IfErr c.register.result (IsFaultOf r)) (sym whole) c.register.ensures.fault
