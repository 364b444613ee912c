use Rattle.std.proofs.Common.{◌+◌, length}
use Rattle.std.specs.List.{Contains}
use Rattle.b2_sched.specs.NumberSets.{Has}
use Rattle.b2_testing.proofs.LeadingIsReached.{in_marks, not_so, it_failed, it_passed, it_led, it_did_not_run}
use Rattle.b2_testing.proofs.pass_list.Judge.verdict.Goals as goal

pub returns-then-is_in : goal.returns-then-is_in
returns-then-is_in c = λ steps is.
    let judge = c.args.self.now in
    let failed = in_marks (length steps + 1) judge.lists.now.failed c.as_slice.result.now judge.failed c.args.number c.is_in.result c.as_slice.ensures c.is_in.ensures is.failed_are in
    it_failed steps judge.lists.now judge c.args.number is (failed.0 c.if-is_in.true)

pub returns-then-not-is_in : goal.returns-then-not-is_in
returns-then-not-is_in c = λ steps is.
    let judge = c.args.self.now in
    let failed = in_marks (length steps + 1) judge.lists.now.failed c.as_slice.result.now judge.failed c.args.number c.is_in.result c.as_slice.ensures c.is_in.ensures is.failed_are in
    let skipped = in_marks (length steps + 1) judge.lists.now.skipped c.as_slice-2.result.now judge.skipped c.args.number c.is_in-2.result c.as_slice-2.ensures c.is_in-2.ensures is.skipped_are in
    it_passed steps judge.lists.now judge c.args.number is (not_so c.is_in.result (Contains judge.lists.now.failed c.args.number) c.if-is_in.false failed) (not_so c.is_in-2.result (Contains judge.lists.now.skipped c.args.number) c.if-not-is_in.true skipped)

pub returns-then-leads : goal.returns-then-leads
returns-then-leads c = λ steps is.
    let judge = c.args.self.now in
    let skipped = in_marks (length steps + 1) judge.lists.now.skipped c.as_slice-2.result.now judge.skipped c.args.number c.is_in-2.result c.as_slice-2.ensures c.is_in-2.ensures is.skipped_are in
    it_led steps judge.lists.now judge c.args.number is (skipped.0 c.if-not-is_in.false) (c.leads.ensures.0 c.if-leads.true)

pub returns-else-leads : goal.returns-else-leads
returns-else-leads c = λ steps is.
    let judge = c.args.self.now in
    let failed = in_marks (length steps + 1) judge.lists.now.failed c.as_slice.result.now judge.failed c.args.number c.is_in.result c.as_slice.ensures c.is_in.ensures is.failed_are in
    let skipped = in_marks (length steps + 1) judge.lists.now.skipped c.as_slice-2.result.now judge.skipped c.args.number c.is_in-2.result c.as_slice-2.ensures c.is_in-2.ensures is.skipped_are in
    it_did_not_run steps judge.lists.now judge c.args.number is (skipped.0 c.if-not-is_in.false) (not_so c.is_in.result (Contains judge.lists.now.failed c.args.number) c.if-is_in.false failed) (not_so c.leads.result (Has judge.led.items c.args.number) c.if-leads.false c.leads.ensures)
