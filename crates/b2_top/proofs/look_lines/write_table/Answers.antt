use Rattle.std.proofs.Common.{List, ℕ, Err, sym, subst}
use Rattle.std.proofs.lemmas.Result.{err_from_is_err_and}
use Rattle.b2_request_plan.specs.declared.planned.Built.{Built}
use Rattle.b2_refusals.specs.Lines.{table_line}
use Rattle.b2_top.specs.Looks.{table_lines}
use Rattle.b2_top.specs.Writing.{Writes}
use Rattle.b2_top.proofs.PiecesWrittenMakeTheWhole.{written_none, writes_err, list_more, list_stops, list_done, made_again}
use Rattle.b2_top.proofs.look_lines.write_table.Goals as goal

abbrev row_line : Built → List ℕ
row_line b = table_line b.target b.alternative b.set

pub loop-row-init : goal.loop-row-init
loop-row-init g c = written_none (g.S.Sink.output c.args.out.now)

pub returns-in_err-write_made : goal.returns-in_err-write_made
returns-in_err-write_made g c =
    let (y, e, q) = err_from_is_err_and c.from_residual.result c.from_residual.ensures.1 in
    let start = g.S.Sink.output c.args.out.now in
    let here = g.S.Sink.output c.loop-row.out in
    let after = g.S.Sink.output c.write_made.new.out in
    let row = c.row-item.result in
    let says = c.in_err-write_made.ensures (row_line row) (made_again c.table_line-made.result (λ t. table_line t row.alternative row.set) c.as_str.ensures.value c.table_line-made.ensures) in
    writes_err (table_lines c.args.table.now) start after c.from_residual.result y e
    (list_stops row_line c.args.table.now c.loop-row.row-index row start here after y c.loop-row-test.true c.row-item.is c.loop-row.invariant
    (subst (λ z. Writes {T = Unit {0}} (row_line row) here after (Err z)) (sym q) says))

pub loop-row-preserved : goal.loop-row-preserved
loop-row-preserved g c =
    let start = g.S.Sink.output c.args.out.now in
    let here = g.S.Sink.output c.loop-row.out in
    let after = g.S.Sink.output c.write_made.new.out in
    let row = c.row-item.result in
    list_more row_line c.args.table.now c.loop-row.row-index row start here after c.loop-row-test.true c.row-item.is c.loop-row.invariant
    (c.in_ok-write_made.ensures (row_line row) (made_again c.table_line-made.result (λ t. table_line t row.alternative row.set) c.as_str.ensures.value c.table_line-made.ensures))

pub returns : goal.returns
returns g c = list_done row_line c.args.table.now c.loop-row.row-index (g.S.Sink.output c.args.out.now) (g.S.Sink.output c.loop-row.out) c.loop-row-test.false c.loop-row.invariant
