use Rattle.std.proofs.Common.{◌≡◌, ◌∙◌, ap, sym, subst, map}
use Rattle.std.proofs.Common.{Vec}
use Rattle.std.specs.Global.{Global}
use Rattle.std.proofs.lemmas.Result.{err_from_is_err_and}
use Rattle.b2_props.specs.declared.word_choice.WordChoice.{WordChoice}
use Rattle.b2_props.specs.Words.{IsBy}
use Rattle.b2_props.specs.Requests.{rows, row_set}
use Rattle.b2_props.proofs.RowsDecideTheRequest.{rows_are, rows_decide}
use Rattle.b2_props.proofs.request.read_request.Goals as goal

pub returns-in_err-check_rows-clause-cause : goal.returns-in_err-check_rows-clause-cause
returns-in_err-check_rows-clause-cause c =
    let table = c.args.registry.now in
    let words = c.args.words.now in
    let items = map (λ (row : Vec WordChoice Global). row.items) in
    let all : items c.in_ok-rows.rows.items ≡ rows table words = c.in_ok-rows.ensures ∙ rows_are table words c.in_ok-targets.ways c.as_slice.result.now c.in_ok-targets.ensures.ways c.as_slice.ensures.value in
    let decide = rows_decide table words (items c.as_slice-2.result.now) (ap items c.as_slice-2.ensures.value ∙ all) c.in_ok-targets.ensures.ok in
    let p = err_from_is_err_and c.from_residual-in_err-check_rows.result c.from_residual-in_err-check_rows.ensures.1 in
    rw (p.1, p.2) (subst (λ o. IsBy o c.in_err-check_rows.field-0.0) decide c.in_err-check_rows.ensures.cause)

pub returns-clause-sets : goal.returns-clause-sets
returns-clause-sets c =
    let table = c.args.registry.now in
    let words = c.args.words.now in
    let items = map (λ (row : Vec WordChoice Global). row.items) in
    let all : items c.in_ok-rows.rows.items ≡ rows table words = c.in_ok-rows.ensures ∙ rows_are table words c.in_ok-targets.ways c.as_slice.result.now c.in_ok-targets.ensures.ways c.as_slice.ensures.value in
    c.in_ok-sets.ensures.value ∙ ap (map (row_set table)) (ap items c.as_slice-3.ensures.value ∙ all)

pub returns-clause-sound : goal.returns-clause-sound
returns-clause-sound c =
    let table = c.args.registry.now in
    let words = c.args.words.now in
    let items = map (λ (row : Vec WordChoice Global). row.items) in
    let all : items c.in_ok-rows.rows.items ≡ rows table words = c.in_ok-rows.ensures ∙ rows_are table words c.in_ok-targets.ways c.as_slice.result.now c.in_ok-targets.ensures.ways c.as_slice.ensures.value in
    let decide = rows_decide table words (items c.as_slice-2.result.now) (ap items c.as_slice-2.ensures.value ∙ all) c.in_ok-targets.ensures.ok in
    sym decide ∙ c.in_ok-check_rows.ensures.ok
