use Rattle.std.proofs.Common.{◌≡◌, ◌∙◌, OnOk, IfErr, Ok, sym, ap, subst}
use Rattle.std.proofs.lemmas.Result.{err_from_is_err_and}
use Rattle.b2_declared.specs.Outcomes.{IsFaultOf}
use Rattle.b2_declared.specs.Carrying.{with_parts, with_compose}
use Rattle.b2_declared.specs.Views.{seen}
use Rattle.b2_declared.proofs.CarriedOut.{property_fault, parts_fault, compose_read}
use Rattle.b2_declared.proofs.tables.Tables.read_composed.Goals as goal

pub returns-in_err-pair-clause-fault : goal.returns-in_err-pair-clause-fault
returns-in_err-pair-clause-fault c =
    let p = err_from_is_err_and c.from_residual.result c.from_residual.ensures.1 in
    rw (p.1, p.2) (property_fault c.args.visit.now c.args.call.now c.args.property.now c.args.parts.now (seen c.args.self.now) _ c.in_err-pair.ensures.fault)

pub returns-in_err-parts-clause-fault : goal.returns-in_err-parts-clause-fault
returns-in_err-parts-clause-fault c =
    let p = err_from_is_err_and c.from_residual-in_err-parts.result c.from_residual-in_err-parts.ensures.1 in
    rw (p.1, p.2) (parts_fault c.args.visit.now c.args.call.now c.args.property.now c.args.parts.now (seen c.args.self.now) c.in_ok-pair.pair c.in_ok-pair.ensures.ok _ c.in_err-parts.ensures.fault)

pub returns-clause-ok : goal.returns-clause-ok
returns-clause-ok c =
    let t = seen c.args.self.now in
    let whole : with_compose c.args.visit.now c.args.call.now c.args.property.now c.args.parts.now t ≡ with_parts c.args.visit.now c.args.call.now c.in_ok-pair.pair c.as_slice.result.now t =
    compose_read c.args.visit.now c.args.call.now c.args.property.now c.args.parts.now t c.in_ok-pair.pair c.in_ok-pair.ensures.ok c.in_ok-parts.parts c.in_ok-parts.ensures.ok
    ∙ ap (λ ps. with_parts c.args.visit.now c.args.call.now c.in_ok-pair.pair ps t) (sym c.as_slice.ensures) in
    subst (λ r. OnOk c.compose.result (r ≡ Ok (seen c.compose.new.self))) (sym whole) c.compose.ensures.ok

pub returns-clause-fault : goal.returns-clause-fault
returns-clause-fault c =
    let t = seen c.args.self.now in
    let whole : with_compose c.args.visit.now c.args.call.now c.args.property.now c.args.parts.now t ≡ with_parts c.args.visit.now c.args.call.now c.in_ok-pair.pair c.as_slice.result.now t =
    compose_read c.args.visit.now c.args.call.now c.args.property.now c.args.parts.now t c.in_ok-pair.pair c.in_ok-pair.ensures.ok c.in_ok-parts.parts c.in_ok-parts.ensures.ok
    ∙ ap (λ ps. with_parts c.args.visit.now c.args.call.now c.in_ok-pair.pair ps t) (sym c.as_slice.ensures) in
    subst (λ r. IfErr c.compose.result (IsFaultOf r)) (sym whole) c.compose.ensures.fault
