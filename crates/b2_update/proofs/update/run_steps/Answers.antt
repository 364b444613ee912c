use Rattle.std.proofs.Common.{Err, Result, sym, ap, subst, ◌∙◌}
use Rattle.std.proofs.lemmas.Result.{err_from_is_err_and}
use Rattle.b2_host.specs.OutsideLaws.{keeps_then}
use Rattle.b2_update.specs.declared.stop.UpdateStop.{UpdateStop}
use Rattle.b2_update.specs.declared.update_answer.UpdateAnswer.{UpdateAnswer}
use Rattle.b2_update.specs.Moments.{moment}
use Rattle.b2_update.specs.Endings.{EndTells}
use Rattle.b2_update.proofs.EndRuns.{tells_then_end}
use Rattle.b2_update.proofs.update.run_steps.Goals as goal

pub returns-in_err-work-clause-told : goal.returns-in_err-work-clause-told
returns-in_err-work-clause-told g c =
    let p = err_from_is_err_and c.from_residual.result c.from_residual.ensures.1 in
    let x = moment (g.H.Files.outside c.args.host.now) (g.S.Sink.output c.args.out.now) in
    let y = moment (g.H.Files.outside c.work.new.host) (g.S.Sink.output c.work.new.out) in
    subst (λ (r : Result UpdateAnswer UpdateStop). EndTells c.args.plan.now g.H.Children.made x c.args.run.now y c.work.new.run r) (sym (p.1 ∙ ap Err p.2)) c.in_err-work.ensures.told

pub returns-clause-told : goal.returns-clause-told
returns-clause-told g c =
    let x = moment (g.H.Files.outside c.args.host.now) (g.S.Sink.output c.args.out.now) in
    let y = moment (g.H.Files.outside c.work.new.host) (g.S.Sink.output c.work.new.out) in
    let z = moment (g.H.Files.outside c.end_run.new.host) (g.S.Sink.output c.end_run.new.out) in
    tells_then_end c.args.plan.now g.H.Children.made x y z c.args.run.now c.work.new.run c.end_run.new.run (tt {0}) c.end_run.result c.in_ok-work.ensures.way c.end_run.ensures.kept.files c.in_ok-work.ensures.told c.end_run.ensures.told

pub returns-clause-kept : goal.returns-clause-kept
returns-clause-kept g c = keeps_then (g.H.Files.outside c.args.host.now) (g.H.Files.outside c.work.new.host) (g.H.Files.outside c.end_run.new.host) c.in_ok-work.ensures.kept c.end_run.ensures.kept
