use Rattle.std.proofs.Common.{◌≡◌, ◌∙◌, false, List, Some, refl, sym, ap, subst, Ok, Err}
use Rattle.std.proofs.lemmas.Result.{err_from_is_err_and}
use Rattle.b2_host.specs.OutputLaws.{OutKeeps, out_keeps_same}
use Rattle.b2_plan.specs.declared.step.Step.{Step}
use Rattle.b2_plan.specs.Plans.{step_at}
use Rattle.b2_runs.specs.Reports.{failed_line}
use Rattle.b2_update.specs.declared.stop.UpdateStop.TheVariants as stops
use Rattle.b2_update.specs.Moments.{moment}
use Rattle.b2_update.specs.Stops.{StopCausedBy, sink_stop_of}
use Rattle.b2_update.proofs.EndIsSettled.{leaves_clear, out_keeps_says, fail_stops, caused_by_files, caused_by_sink, halts_settling, cleared_heard}
use Rattle.b2_update.proofs.SettleTellsEnd.{clear_stop_told, failed_told, line_stop_told, settles_with}
use Rattle.b2_update.proofs.hearing.fail.Goals as goal

pub returns-in_err-clear_failed-clause-heard : goal.returns-in_err-clear_failed-clause-heard
returns-in_err-clear_failed-clause-heard g c entry well h ends =
    let x = g.H.Files.outside c.args.host.now in
    let y = g.H.Files.outside c.clear_failed.new.files in
    let o = g.S.Sink.output c.args.out.now in
    let (stop, e, q) = err_from_is_err_and c.from_residual.result c.from_residual.ensures.1 in
    let clears = c.in_err-clear_failed.ensures.clears in
    let leaves = leaves_clear {T = Unit {0}} x y (Err c.in_err-clear_failed.field-0.0) clears in
    fail_stops c.args.plan.now c.args.number well entry (moment y o) (record c.args.run.now { sights = c.clear_failed.new.sights }) c.from_residual.result (stops.Files c.in_err-clear_failed.field-0.0) (e ∙ ap Err q)
    (halts_settling c.args.plan.now c.args.number well entry x y o o c.args.run.now h leaves (out_keeps_same o o refl) (stops.Files c.in_err-clear_failed.field-0.0) (caused_by_files entry x y o h.kept.host h.counts leaves c.in_err-clear_failed.field-0.0 clears.faults))

pub returns-in_err-clear_failed-clause-told : goal.returns-in_err-clear_failed-clause-told
returns-in_err-clear_failed-clause-told g c =
    let x = g.H.Files.outside c.args.host.now in
    let y = g.H.Files.outside c.clear_failed.new.files in
    let o = g.S.Sink.output c.args.out.now in
    let (stop, e, q) = err_from_is_err_and c.from_residual.result c.from_residual.ensures.1 in
    settles_with c.args.plan.now g.H.Children.made c.args.number false (moment x o) c.args.run.now (moment y o) (record c.args.run.now { sights = c.clear_failed.new.sights }) c.from_residual.result (Err (stops.Files c.in_err-clear_failed.field-0.0)) (e ∙ ap Err q)
    (clear_stop_told c.args.plan.now g.H.Children.made c.args.number x y o c.args.run.now c.clear_failed.new.sights c.in_err-clear_failed.ensures.clears.children c.in_err-clear_failed.ensures.fewer c.in_err-clear_failed.field-0.0 c.in_err-clear_failed.ensures.told)

pub returns-in-Ok-clause-heard : goal.returns-in-Ok-clause-heard
returns-in-Ok-clause-heard g c entry well h ends =
    let x = g.H.Files.outside c.args.host.now in
    let y = g.H.Files.outside c.clear_failed.new.files in
    let o = g.S.Sink.output c.args.out.now in
    let p = g.S.Sink.output c.tell_failure.new.out in
    let cleared = c.in_ok-clear_failed.ensures in
    cleared_heard c.args.plan.now c.args.number well entry x y o p c.args.run.now c.clear_failed.new.sights (failed_line c.step_of.result.now) h cleared.clears cleared.facts cleared.way c.in-Ok.ensures ends

pub returns-in-Ok-clause-told : goal.returns-in-Ok-clause-told
returns-in-Ok-clause-told g c =
    let x = g.H.Files.outside c.args.host.now in
    let y = g.H.Files.outside c.clear_failed.new.files in
    let o = g.S.Sink.output c.args.out.now in
    let p = g.S.Sink.output c.tell_failure.new.out in
    let cleared = c.in_ok-clear_failed.ensures in
    let at : step_at c.args.plan.now.steps c.args.number ≡ Some c.step_of.result.now = ap (λ (s : List Step). step_at s c.args.number) (sym c.as_slice.ensures) ∙ c.step_of.ensures in
    failed_told c.args.plan.now g.H.Children.made c.args.number x y o c.args.run.now c.clear_failed.new.sights cleared.clears.children cleared.fewer c.step_of.result.now at p cleared.told c.in-Ok.ensures

pub returns-in-Err-clause-heard : goal.returns-in-Err-clause-heard
returns-in-Err-clause-heard g c entry well h ends =
    let x = g.H.Files.outside c.args.host.now in
    let y = g.H.Files.outside c.clear_failed.new.files in
    let o = g.S.Sink.output c.args.out.now in
    let p = g.S.Sink.output c.tell_failure.new.out in
    let cleared = c.in_ok-clear_failed.ensures in
    let text = failed_line c.step_of.result.now in
    let out : OutKeeps o p = out_keeps_says {T = Unit {0}} text o p (Err c.in-Err.fault) c.in-Err.ensures in
    halts_settling c.args.plan.now c.args.number well entry x y o p c.args.run.now h (leaves_clear {T = Unit {0}} x y (Ok tt) cleared.clears) out c.sink_stop.result
    (subst (StopCausedBy entry (moment y p)) (sym c.sink_stop.ensures)
    (caused_by_sink entry y o p text h.kept.out (record { host = cleared.clears.faults ∙ h.counts.host; waits = cleared.clears.failed_waits ∙ h.counts.waits; sink = h.counts.sink }) c.in-Err.fault c.in-Err.ensures))

pub returns-in-Err-clause-told : goal.returns-in-Err-clause-told
returns-in-Err-clause-told g c =
    let x = g.H.Files.outside c.args.host.now in
    let y = g.H.Files.outside c.clear_failed.new.files in
    let o = g.S.Sink.output c.args.out.now in
    let p = g.S.Sink.output c.tell_failure.new.out in
    let cleared = c.in_ok-clear_failed.ensures in
    let at : step_at c.args.plan.now.steps c.args.number ≡ Some c.step_of.result.now = ap (λ (s : List Step). step_at s c.args.number) (sym c.as_slice.ensures) ∙ c.step_of.ensures in
    settles_with c.args.plan.now g.H.Children.made c.args.number false (moment x o) c.args.run.now (moment y p) (record c.args.run.now { sights = c.clear_failed.new.sights }) (Err c.sink_stop.result) (Err (sink_stop_of c.in-Err.fault)) (ap Err c.sink_stop.ensures)
    (line_stop_told c.args.plan.now g.H.Children.made c.args.number x y o c.args.run.now c.clear_failed.new.sights cleared.clears.children cleared.fewer c.step_of.result.now at p cleared.told c.in-Err.fault c.in-Err.ensures)
