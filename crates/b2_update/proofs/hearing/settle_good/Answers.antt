use Rattle.std.proofs.Common.{◌∙◌, true, refl, ap, subst, Ok, Err}
use Rattle.std.proofs.lemmas.Result.{err_from_is_err_and}
use Rattle.b2_host.specs.OutputLaws.{out_keeps_same}
use Rattle.b2_host.specs.OutsideLaws.{BeginsPast, keeps_then, both_visible}
use Rattle.b2_host.specs.LogChanges.{keeps_log_changes}
use Rattle.b2_turns.specs.Ends.{MadeTold}
use Rattle.b2_update.specs.declared.stop.UpdateStop.TheVariants as stops
use Rattle.b2_update.specs.Moments.{moment}
use Rattle.b2_update.proofs.EndIsSettled.{leaves_log, settle_stops, failed_so, kept_by_failing, caused_by_files, noted_heard, halts_settling, ends_short, none_visible}
use Rattle.b2_update.proofs.SettleTellsEnd.{noted_told, note_stop_told, settles_with, unseen_told}
use Rattle.b2_update.proofs.hearing.settle_good.Goals as goal

pub returns-in_err-note_made-clause-heard : goal.returns-in_err-note_made-clause-heard
returns-in_err-note_made-clause-heard g c entry h =
    let x = g.H.Files.outside c.args.host.now in
    let y = g.H.Files.outside c.note_made.new.files in
    let o = g.S.Sink.output c.args.out.now in
    let stop = c.in_err-note_made.field-0.0 in
    let (made, e, q) = err_from_is_err_and c.from_residual.result c.from_residual.ensures.1 in
    let leaves = leaves_log x y c.in_err-note_made.ensures.only_log in
    settle_stops c.args.plan.now c.args.number true entry (moment y o) (record c.args.run.now { sights = c.note_made.new.sights }) c.from_residual.result (stops.Files stop) (e ∙ ap Err q)
    (halts_settling c.args.plan.now c.args.number true entry x y o o c.args.run.now h leaves (out_keeps_same o o refl) (stops.Files stop) (caused_by_files entry x y o h.kept.host h.counts leaves stop c.in_err-note_made.ensures.faults))

pub returns-in_err-note_made-clause-told : goal.returns-in_err-note_made-clause-told
returns-in_err-note_made-clause-told g c =
    let x = g.H.Files.outside c.args.host.now in
    let y = g.H.Files.outside c.note_made.new.files in
    let o = g.S.Sink.output c.args.out.now in
    let stop = c.in_err-note_made.field-0.0 in
    let (made, e, q) = err_from_is_err_and c.from_residual.result c.from_residual.ensures.1 in
    settles_with c.args.plan.now g.H.Children.made c.args.number true (moment x o) c.args.run.now (moment y o) (record c.args.run.now { sights = c.note_made.new.sights }) c.from_residual.result (Err (stops.Files stop)) (e ∙ ap Err q)
    (note_stop_told c.args.plan.now g.H.Children.made c.args.number x y o c.args.run.now c.note_made.new.sights (g.met.H.Files.consistent c.note_made.new.files) c.in_err-note_made.ensures.only_log stop c.in_err-note_made.ensures.told)

pub returns-then-branch-clause-heard : goal.returns-then-branch-clause-heard
returns-then-branch-clause-heard g c entry h =
    let x = g.H.Files.outside c.args.host.now in
    let y = g.H.Files.outside c.note_made.new.files in
    let o = g.S.Sink.output c.args.out.now in
    let noted = c.in_ok-note_made.ensures in (
      refl,
      noted_heard c.args.plan.now c.args.number entry x y o c.args.run.now c.note_made.new.sights c.requires.apart h noted.only_log noted.about noted.looks noted.way noted.faults,
    )

pub returns-then-branch-clause-told : goal.returns-then-branch-clause-told
returns-then-branch-clause-told g c =
    let x = g.H.Files.outside c.args.host.now in
    let y = g.H.Files.outside c.note_made.new.files in
    let o = g.S.Sink.output c.args.out.now in
    let noted = c.in_ok-note_made.ensures in
    noted_told c.args.plan.now g.H.Children.made c.args.number x y o c.args.run.now c.note_made.new.sights (g.met.H.Files.consistent c.note_made.new.files) noted.only_log
    (subst (λ b. MadeTold c.args.plan.now c.args.run.now.looks c.args.number x c.args.run.now.sights y c.note_made.new.sights (Ok b)) c.if-branch.true noted.told)

pub fail-requires-clause-heard : goal.fail-requires-clause-heard
fail-requires-clause-heard g c =
    let x = g.H.Files.outside c.args.host.now in
    let y = g.H.Files.outside c.note_made.new.files in
    let o = g.S.Sink.output c.args.out.now in
    let noted = c.in_ok-note_made.ensures in
    let (entry, h) = c.requires.heard in (
      entry,
      true,
      noted_heard c.args.plan.now c.args.number entry x y o c.args.run.now c.note_made.new.sights c.requires.apart h noted.only_log noted.about noted.looks noted.way noted.faults,
    )

pub returns-clause-heard : goal.returns-clause-heard
returns-clause-heard g c entry h =
    let x = g.H.Files.outside c.args.host.now in
    let y = g.H.Files.outside c.note_made.new.files in
    let o = g.S.Sink.output c.args.out.now in
    let noted = c.in_ok-note_made.ensures in
    let still = noted_heard c.args.plan.now c.args.number entry x y o c.args.run.now c.note_made.new.sights c.requires.apart h noted.only_log noted.about noted.looks noted.way noted.faults in
    let ends = ends_short c.args.plan.now c.args.number entry x h.kept.host (h.stand refl) (noted.missed c.if-branch.false) (noted.short c.if-branch.false) in
    failed_so c.args.plan.now c.args.number true entry (moment (g.H.Files.outside c.fail.new.host) (g.S.Sink.output c.fail.new.out)) c.fail.new.run c.fail.result ends c.fail.ensures.bad (c.fail.ensures.heard entry true still ends)

pub returns-clause-told : goal.returns-clause-told
returns-clause-told g c =
    let x = g.H.Files.outside c.args.host.now in
    let y = g.H.Files.outside c.note_made.new.files in
    let z = g.H.Files.outside c.fail.new.host in
    let o = g.S.Sink.output c.args.out.now in
    let p = g.S.Sink.output c.fail.new.out in
    let noted = c.in_ok-note_made.ensures in
    let (entry, h) = c.requires.heard in
    let still = noted_heard c.args.plan.now c.args.number entry x y o c.args.run.now c.note_made.new.sights c.requires.apart h noted.only_log noted.about noted.looks noted.way noted.faults in
    let ends = ends_short c.args.plan.now c.args.number entry x h.kept.host (h.stand refl) (noted.missed c.if-branch.false) (noted.short c.if-branch.false) in
    let kept = kept_by_failing c.args.plan.now c.args.number true entry (moment z p) c.fail.new.run c.fail.result (c.fail.ensures.heard entry true still ends) in
    let none = (ends refl).0 in
    unseen_told c.args.plan.now g.H.Children.made c.args.number true (moment x o) c.args.run.now (moment z p) c.fail.new.run c.fail.result
    (none_visible entry.host.disk x.disk (both_visible BeginsPast entry.host.disk x.disk h.kept.host.files) none) (none_visible entry.host.disk z.disk (both_visible BeginsPast entry.host.disk z.disk kept.files) none)

pub returns-in_err-note_made-clause-keeps : goal.returns-in_err-note_made-clause-keeps
returns-in_err-note_made-clause-keeps g c = keeps_log_changes (g.H.Files.outside c.args.host.now) (g.H.Files.outside c.note_made.new.files) c.in_err-note_made.ensures.only_log

pub returns-then-branch-clause-keeps : goal.returns-then-branch-clause-keeps
returns-then-branch-clause-keeps g c = keeps_log_changes (g.H.Files.outside c.args.host.now) (g.H.Files.outside c.note_made.new.files) c.in_ok-note_made.ensures.only_log

pub returns-clause-keeps : goal.returns-clause-keeps
returns-clause-keeps g c =
    let x = g.H.Files.outside c.args.host.now in
    let y = g.H.Files.outside c.note_made.new.files in
    keeps_then x y (g.H.Files.outside c.fail.new.host) (keeps_log_changes x y c.in_ok-note_made.ensures.only_log) c.fail.ensures.keeps
