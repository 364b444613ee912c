use Rattle.std.proofs.Common.{Err, inl, refl, sym, ap, subst, ◌∙◌, Result}
use Rattle.std.specs.Prelude.{MatchResult}
use Rattle.std.proofs.lemmas.Result.{err_from_is_err_and}
use Rattle.b2_host.specs.declared.fault.IoFault.{IoFault}
use Rattle.b2_host.specs.declared.fault.IoFault.TheVariants as io
use Rattle.b2_host.specs.LogChanges.{log_changes_same}
use Rattle.std.specs.Prelude.{List}
use Rattle.b2_log.specs.declared.line.LogLine.{LogLine}
use Rattle.b2_looks.specs.Looks.{AreLooks}
use Rattle.b2_verdicts.specs.declared.judging_mode.JudgingMode.{JudgingMode}
use Rattle.b2_update.specs.declared.run.Run.{Run}
use Rattle.b2_update.specs.Moments.{moment}
use Rattle.b2_update.specs.Stops.{host_stop_of, StopCausedBy}
use Rattle.b2_update.specs.Going.{IsGoing, Halts}
use Rattle.b2_update.specs.Updates.{BeginTells}
use Rattle.b2_update.proofs.UpdateBegins.{going_begins, halts_begins, caused_by_io}
use Rattle.b2_update.proofs.UpdateIsBegun.{begin_stopped, begin_goes, opens_none}
use Rattle.b2_update.proofs.update.begin.Goals as goal

pub returns-in_err-looks-clause-going : goal.returns-in_err-looks-clause-going
returns-in_err-looks-clause-going g c output =
    let (y, e, q) = err_from_is_err_and c.from_residual.result c.from_residual.ensures.1 in
    let here = moment (g.F.Files.outside c.args.files.now) output in
    subst (λ (r : Result Run IoFault). MatchResult r (λ run. IsGoing c.args.plan.now here here run) (λ fault. Halts c.args.plan.now c.args.options.jobs 0 here here (host_stop_of fault))) (sym e)
    (halts_begins c.args.plan.now c.args.options.jobs here here (host_stop_of y) c.requires.idle (log_changes_same here.host here.host refl) refl
    (subst (λ (f : IoFault). StopCausedBy here here (host_stop_of f)) (sym q) (record { host = refl; waits = refl; sink = refl })))

pub returns-in_err-looks-clause-told : goal.returns-in_err-looks-clause-told
returns-in_err-looks-clause-told g c output made =
    let (y, e, q) = err_from_is_err_and c.from_residual.result c.from_residual.ensures.1 in
    let here = moment (g.F.Files.outside c.args.files.now) output in
    let consistent = g.met.F.Files.consistent c.args.files.now in
    subst (BeginTells c.args.plan.now c.args.options made here here) (sym (e ∙ ap Err q))
    (begin_stopped c.args.plan.now c.args.options made here here io.OutOfMemory c.requires.apart c.requires.idle refl refl consistent consistent
    (log_changes_same here.host here.host refl).files (opens_none here.host.disk) (inl refl))

pub returns-in_err-journal-clause-going : goal.returns-in_err-journal-clause-going
returns-in_err-journal-clause-going g c output =
    let (y, e, q) = err_from_is_err_and c.from_residual-in_err-journal.result c.from_residual-in_err-journal.ensures.1 in
    let entry = moment (g.F.Files.outside c.args.files.now) output in
    let here = moment (g.F.Files.outside c.open.new.files) output in
    subst (λ (r : Result Run IoFault). MatchResult r (λ run. IsGoing c.args.plan.now entry here run) (λ fault. Halts c.args.plan.now c.args.options.jobs 0 entry here (host_stop_of fault))) (sym (e ∙ ap Err q))
    (halts_begins c.args.plan.now c.args.options.jobs entry here (host_stop_of c.in_err-journal.field-0.0) c.requires.idle c.in_err-journal.ensures.only_log refl
    (caused_by_io (List LogLine) entry here c.in_err-journal.field-0.0 c.in_err-journal.ensures.counts c.in_err-journal.ensures.may_fail c.in_err-journal.ensures.only_log.failed_waits refl))

pub returns-in_err-journal-clause-told : goal.returns-in_err-journal-clause-told
returns-in_err-journal-clause-told g c output made =
    let (y, e, q) = err_from_is_err_and c.from_residual-in_err-journal.result c.from_residual-in_err-journal.ensures.1 in
    let entry = moment (g.F.Files.outside c.args.files.now) output in
    let here = moment (g.F.Files.outside c.open.new.files) output in
    let only = c.in_err-journal.ensures.only_log in
    subst (BeginTells c.args.plan.now c.args.options made entry here) (sym (e ∙ ap Err q))
    (begin_stopped c.args.plan.now c.args.options made entry here c.in_err-journal.field-0.0 c.requires.apart c.requires.idle only.children refl
    (g.met.F.Files.consistent c.args.files.now) (g.met.F.Files.consistent c.open.new.files) only.files c.in_err-journal.ensures.opens c.in_err-journal.ensures.reads)

pub returns-clause-going : goal.returns-clause-going
returns-clause-going g c output =
    let made : Run = record { looks = c.in_ok-looks.looks; sights = record { facts = c.new-2.result; journal = c.in_ok-journal.journal; marks = c.new-3.result; by_digest = c.args.options.by_digest }; quit = c.args.options.quit; updated = 0; waits = 0 } in
    going_begins c.args.plan.now (moment (g.F.Files.outside c.args.files.now) output) (moment (g.F.Files.outside c.open.new.files) output) made c.requires.idle c.in_ok-journal.ensures.only_log refl c.in_ok-journal.ensures.counts
    (c.new-2.ensures.about c.args.plan.now.steps c.args.plan.now.roots) (subst (λ f. AreLooks c.args.plan.now 0 f c.in_ok-looks.looks) (sym c.new-2.ensures.value) c.in_ok-looks.ensures.looks) c.in_ok-looks.ensures.follows
    (ap (λ (w : JudgingMode). w.by_digest) (sym c.in_ok-looks.ensures.way)) refl refl

pub returns-clause-told : goal.returns-clause-told
returns-clause-told g c output made =
    let run : Run = record { looks = c.in_ok-looks.looks; sights = record { facts = c.new-2.result; journal = c.in_ok-journal.journal; marks = c.new-3.result; by_digest = c.args.options.by_digest }; quit = c.args.options.quit; updated = 0; waits = 0 } in
    begin_goes c.args.plan.now c.args.options made (moment (g.F.Files.outside c.args.files.now) output) (moment (g.F.Files.outside c.open.new.files) output) run c.requires.apart c.requires.idle
    c.in_ok-journal.ensures.only_log.children refl (g.met.F.Files.consistent c.args.files.now) (g.met.F.Files.consistent c.open.new.files) c.in_ok-journal.ensures.only_log.files c.in_ok-journal.ensures.opens
    c.in_ok-journal.ensures.reads c.in_ok-journal.ensures.good c.new-2.ensures.value (c.new-2.ensures.about c.args.plan.now.steps c.args.plan.now.roots) (λ folder now. c.new-2.ensures.told _ now)
    (subst (λ f. AreLooks c.args.plan.now 0 f c.in_ok-looks.looks) (sym c.new-2.ensures.value) c.in_ok-looks.ensures.looks) c.in_ok-looks.ensures.follows c.in_ok-looks.ensures.unjudged refl refl
