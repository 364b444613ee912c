use Rattle.std.proofs.Common.{◌∙◌, Ok, Err, ap}
use Rattle.std.proofs.lemmas.Result.{err_from_is_err_and}
use Rattle.b2_sched.specs.Schedules.{IsSettled}
use Rattle.b2_facts.specs.declared.stop.FilesStop.TheVariants as stops
use Rattle.b2_reach.proofs.GrowthComposes.{grows_then, grows_err_as, grows_none, grows_no_memory, grows_marks}
use Rattle.b2_reach.proofs.MembersComeIn.{wider}
use Rattle.b2_reach.proofs.ReachGrows.{gathers_none}
use Rattle.b2_reach.proofs.WorkGoesOn.{goes_of_step}
use Rattle.b2_reach.proofs.reach.Reach.go_on.Goals as goal

pub returns-then-not-is_due-clause-of_step : goal.returns-then-not-is_due-clause-of_step
returns-then-not-is_due-clause-of_step g c step is = is

pub returns-then-not-is_due-clause-as_far : goal.returns-then-not-is_due-clause-as_far
returns-then-not-is_due-clause-as_far g c = c.is_due.ensures c.if-not-is_due.true

pub returns-then-not-is_due-clause-grows : goal.returns-then-not-is_due-clause-grows
returns-then-not-is_due-clause-grows g c = grows_none c.args.plan.now.steps c.args.plan.now.roots (IsSettled c.args.sched.now) c.args.self.now.members c.args.sights.now (g.F.Files.outside c.args.files.now) tt

pub returns-in_err-mark_members-clause-of_step : goal.returns-in_err-mark_members-clause-of_step
returns-in_err-mark_members-clause-of_step g c step is = is

pub returns-in_err-mark_members-clause-grows : goal.returns-in_err-mark_members-clause-grows
returns-in_err-mark_members-clause-grows g c =
    let (y, e, q) = err_from_is_err_and c.from_residual.result c.from_residual.ensures.1 in
    let here = g.F.Files.outside c.args.files.now in
    let s = c.args.sights.now in
    grows_err_as {T = Unit {0}} stops.OutOfMemory c.from_residual.result (e ∙ ap Err q)
    (grows_marks {T = Unit {0}} c.args.plan.now.steps c.args.plan.now.roots (IsSettled c.args.sched.now) c.args.self.now.members s s here here (Err stops.OutOfMemory) c.mark_members.new.marks
    (grows_no_memory {T = Unit {0}} c.args.plan.now.steps c.args.plan.now.roots (IsSettled c.args.sched.now) c.args.self.now.members s here))

pub returns-clause-in_order : goal.returns-clause-in_order
returns-clause-in_order g c = c.take_all.ensures.goes.takes.in_order

pub returns-clause-of_step : goal.returns-clause-of_step
returns-clause-of_step g c step is =
    goes_of_step c.args.plan.now (IsSettled c.args.sched.now) c.args.self.now c.take_all.new.self (record c.args.sights.now { marks = c.mark_members.new.marks }) c.take_all.new.sights (g.F.Files.outside c.args.files.now) (g.F.Files.outside c.take_all.new.files) c.take_all.result c.take_all.ensures.goes step is

pub returns-clause-as_far : goal.returns-clause-as_far
returns-clause-as_far g c = c.take_all.ensures.as_far

pub returns-clause-grows : goal.returns-clause-grows
returns-clause-grows g c =
    let steps = c.args.plan.now.steps in
    let roots = c.args.plan.now.roots in
    let settled = IsSettled c.args.sched.now in
    let r = c.args.self.now in
    let q = c.take_all.new.self in
    let s = c.args.sights.now in
    let marked = record s { marks = c.mark_members.new.marks } in
    let before = g.F.Files.outside c.args.files.now in
    let after = g.F.Files.outside c.take_all.new.files in
    grows_then steps roots settled r.members q.members s marked c.take_all.new.sights before before after tt c.take_all.result (wider c.args.plan.now.steps settled c.take_all.new.sights.facts r q c.take_all.ensures.goes.takes.gathers)
    (grows_marks steps roots settled r.members s s before before (Ok tt) c.mark_members.new.marks (grows_none steps roots settled r.members s before tt)) c.take_all.ensures.goes.grows

pub returns-then-not-is_due-clause-gathers : goal.returns-then-not-is_due-clause-gathers
returns-then-not-is_due-clause-gathers g c = gathers_none c.args.plan.now.steps (IsSettled c.args.sched.now) c.args.sights.now.facts c.args.self.now

pub returns-in_err-mark_members-clause-gathers : goal.returns-in_err-mark_members-clause-gathers
returns-in_err-mark_members-clause-gathers g c = gathers_none c.args.plan.now.steps (IsSettled c.args.sched.now) c.args.sights.now.facts c.args.self.now

pub returns-clause-gathers : goal.returns-clause-gathers
returns-clause-gathers g c = c.take_all.ensures.goes.takes.gathers
