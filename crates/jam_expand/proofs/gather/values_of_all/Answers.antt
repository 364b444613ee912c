use Rattle.std.proofs.Common.{sym, ◌∙◌, ap, Ok}
use Rattle.std.proofs.lemmas.Result.{err_from_is_err_and}
use Rattle.jam_expand.proofs.ListsGrowTextByText.{join_ok, join_fault, join_end}
use Rattle.jam_expand.proofs.gather.values_of_all.Goals as goal

pub returns-in_err-add_values : goal.returns-in_err-add_values
returns-in_err-add_values g c =
    let p = err_from_is_err_and c.from_residual.result c.from_residual.ensures.1 in
    rw (p.1, p.2)
    (join_fault (g.L.Look.answer c.args.look.now) c.loop-text.gathered c.args.texts.now c.loop-text.text-index c.text-item.result c.in_err-add_values.field-0.0 _
    c.loop-text-test.true c.text-item.is c.loop-text.invariant c.in_err-add_values.ensures)

pub loop-text-preserved : goal.loop-text-preserved
loop-text-preserved g c =
    join_ok (g.L.Look.answer c.args.look.now) c.loop-text.gathered c.add_values.new.gathered c.args.texts.now c.loop-text.text-index c.text-item.result c.loop-text-test.true c.text-item.is c.in_ok-add_values.ensures
    ∙ c.loop-text.invariant

pub returns : goal.returns
returns g c =
    sym c.loop-text.invariant ∙ join_end (g.L.Look.answer c.args.look.now) c.loop-text.gathered c.args.texts.now c.loop-text.text-index c.loop-text-test.false
    ∙ ap (λ list. Ok list) (sym c.into_list.ensures.value)
