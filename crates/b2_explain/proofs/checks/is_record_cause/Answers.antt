use Rattle.std.proofs.Common.{◌≡◌}
use Rattle.b2_explain.specs.Checks.{IsStampCause, IsRecordCause}
use Rattle.b2_explain.proofs.RowsAreTold.{as_other, first_fails, second_decides, record_next}
use Rattle.b2_explain.proofs.checks.is_record_cause.Goals as goal

pub returns-then-has_text : goal.returns-then-has_text
returns-then-has_text c =
    let f = c.args.case.now.facts.now in
    let step = c.args.case.now.step.now in
    let numbers = c.args.case.now.numbers.now in
    let r = c.args.last.now in
    let cause = c.args.cause.now in
    as_other ((r.text ≡ step.text) × IsStampCause f numbers r cause) (IsRecordCause f step numbers r cause) c.is_stamp_cause.result (record_next f step numbers r cause c.in_default.not-OtherText)
    (second_decides (r.text ≡ step.text) (IsStampCause f numbers r cause) c.has_text.result c.is_stamp_cause.result c.if-has_text.true c.has_text.ensures c.is_stamp_cause.ensures)

pub returns-else-has_text : goal.returns-else-has_text
returns-else-has_text c =
    let f = c.args.case.now.facts.now in
    let step = c.args.case.now.step.now in
    let numbers = c.args.case.now.numbers.now in
    let r = c.args.last.now in
    let cause = c.args.cause.now in
    as_other ((r.text ≡ step.text) × IsStampCause f numbers r cause) (IsRecordCause f step numbers r cause) c.has_text.result (record_next f step numbers r cause c.in_default.not-OtherText)
    (first_fails (r.text ≡ step.text) (IsStampCause f numbers r cause) c.has_text.result c.if-has_text.false c.has_text.ensures)
