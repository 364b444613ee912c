use Rattle.std.proofs.Common.{Option}
use Rattle.std.specs.Option.{option_copied}
use Rattle.b2_log.specs.declared.line.Record.{Record}
use Rattle.b2_verdicts.specs.Points.{IsOrdinary}
use Rattle.b2_explain.specs.Checks.{IsFileCause, IsClosedCause}
use Rattle.b2_explain.proofs.RowsAreTold.{as_other, first_fails, second_decides, closed_next}
use Rattle.b2_explain.proofs.checks.is_closed_cause.Goals as goal

pub returns-then-is_ordinary : goal.returns-then-is_ordinary
returns-then-is_ordinary c =
    let f = c.args.case.now.facts.now in
    let step = c.args.case.now.step.now in
    let numbers = c.args.case.now.numbers.now in
    let last : Option Record = option_copied c.args.case.now.last in
    let cause = c.args.cause.now in
    let all = c.args.all in
    as_other (IsOrdinary all step × IsFileCause f step numbers last cause) (IsClosedCause all f step numbers last cause) c.is_file_cause.result
    (closed_next f step numbers last all cause c.in_default.not-Lacks c.in_default.not-Waits c.in_default.not-All c.in_default.not-Always c.in_default.not-NotFile)
    (second_decides (IsOrdinary all step) (IsFileCause f step numbers last cause) c.is_ordinary.result c.is_file_cause.result c.if-is_ordinary.true c.is_ordinary.ensures c.is_file_cause.ensures)

pub returns-else-is_ordinary : goal.returns-else-is_ordinary
returns-else-is_ordinary c =
    let f = c.args.case.now.facts.now in
    let step = c.args.case.now.step.now in
    let numbers = c.args.case.now.numbers.now in
    let last : Option Record = option_copied c.args.case.now.last in
    let cause = c.args.cause.now in
    let all = c.args.all in
    as_other (IsOrdinary all step × IsFileCause f step numbers last cause) (IsClosedCause all f step numbers last cause) c.is_ordinary.result
    (closed_next f step numbers last all cause c.in_default.not-Lacks c.in_default.not-Waits c.in_default.not-All c.in_default.not-Always c.in_default.not-NotFile)
    (first_fails (IsOrdinary all step) (IsFileCause f step numbers last cause) c.is_ordinary.result c.if-is_ordinary.false c.is_ordinary.ensures)
