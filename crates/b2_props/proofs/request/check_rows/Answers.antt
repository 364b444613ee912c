use Rattle.std.proofs.Common.{◌∙◌, ap, sym, subst}
use Rattle.std.proofs.Common.{Vec}
use Rattle.std.specs.Global.{Global}
use Rattle.std.proofs.lemmas.Result.{err_from_is_err_and}
use Rattle.b2_props.specs.declared.word_choice.WordChoice.{WordChoice}
use Rattle.b2_props.specs.Words.{IsBy}
use Rattle.b2_props.specs.Requests.{row_fault}
use Rattle.b2_props.proofs.FirstFaultIsTheCause.{map_fine, map_cause}
use Rattle.b2_props.proofs.request.check_rows.Goals as goal

pub returns-in_err-check_row-clause-cause : goal.returns-in_err-check_row-clause-cause
returns-in_err-check_row-clause-cause c =
    let fault = row_fault c.args.registry.now c.args.words.now in
    let e = c.in_err-check_row.field-0.0 in
    let p = err_from_is_err_and c.from_residual.result c.from_residual.ensures.1 in
    rw (p.1, p.2)
    (map_cause fault (λ (row : Vec WordChoice Global). row.items) c.args.rows.now c.loop-row.row-index c.row-item.result e c.loop-row-test.true c.row-item.is c.loop-row.invariant (subst (λ row. IsBy (fault row) e) c.as_slice.ensures.value c.in_err-check_row.ensures.cause))

pub loop-row-preserved : goal.loop-row-preserved
loop-row-preserved c =
    let fault = row_fault c.args.registry.now c.args.words.now in
    map_fine fault (λ (row : Vec WordChoice Global). row.items) c.args.rows.now c.loop-row.row-index c.row-item.result c.loop-row-test.true c.row-item.is c.loop-row.invariant (ap fault (sym c.as_slice.ensures.value) ∙ c.in_ok-check_row.ensures.ok)
