use Rattle.std.proofs.Common.{ℕ, List, Option, IsTrue, ◌↔◌, subst}
use Rattle.std.specs.Option.{option_copied}
use Rattle.b2_log.specs.declared.line.Record.{Record}
use Rattle.b2_verdicts.specs.Sights.{AllStand}
use Rattle.b2_explain.specs.Checks.{IsMemberCause, IsFileCause}
use Rattle.b2_explain.proofs.RowsAreTold.{as_other, first_fails, second_decides, file_next}
use Rattle.b2_explain.proofs.checks.is_file_cause.Goals as goal

pub returns-then-all_stand : goal.returns-then-all_stand
returns-then-all_stand c =
    let f = c.args.case.now.facts.now in
    let step = c.args.case.now.step.now in
    let numbers = c.args.case.now.numbers.now in
    let last : Option Record = option_copied c.args.case.now.last in
    let cause = c.args.cause.now in
    let stand = subst (λ (ns : List ℕ). IsTrue c.all_stand.result ↔ AllStand f ns) c.as_slice-outs.ensures c.all_stand.ensures in
    as_other (AllStand f numbers.outs × IsMemberCause f step numbers last cause) (IsFileCause f step numbers last cause) c.is_member_cause.result (file_next f step numbers last cause c.in_default.not-NoOutput)
    (second_decides (AllStand f numbers.outs) (IsMemberCause f step numbers last cause) c.all_stand.result c.is_member_cause.result c.if-all_stand.true stand c.is_member_cause.ensures)

pub returns-else-all_stand : goal.returns-else-all_stand
returns-else-all_stand c =
    let f = c.args.case.now.facts.now in
    let step = c.args.case.now.step.now in
    let numbers = c.args.case.now.numbers.now in
    let last : Option Record = option_copied c.args.case.now.last in
    let cause = c.args.cause.now in
    let stand = subst (λ (ns : List ℕ). IsTrue c.all_stand.result ↔ AllStand f ns) c.as_slice-outs.ensures c.all_stand.ensures in
    as_other (AllStand f numbers.outs × IsMemberCause f step numbers last cause) (IsFileCause f step numbers last cause) c.all_stand.result (file_next f step numbers last cause c.in_default.not-NoOutput)
    (first_fails (AllStand f numbers.outs) (IsMemberCause f step numbers last cause) c.all_stand.result c.if-all_stand.false stand)
