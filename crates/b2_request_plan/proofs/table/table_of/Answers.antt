use Rattle.b2_request_plan.proofs.RepeatedRowsAreLeftOut.{written, rows_found}
use Rattle.b2_request_plan.proofs.table.table_of.Goals as goal

pub returns-clause-lines : goal.returns-clause-lines
returns-clause-lines c = written c.lines.result c.args.index.now c.in_ok-found.found.items c.as_slice.result.now _ c.as_slice.ensures.value c.in_ok-found.ensures c.lines.ensures.lines

pub returns-clause-rows : goal.returns-clause-rows
returns-clause-rows c = rows_found c.lines.result c.in_ok-found.found.items c.as_slice.result.now _ c.as_slice.ensures.value c.in_ok-found.ensures c.lines.ensures.rows
