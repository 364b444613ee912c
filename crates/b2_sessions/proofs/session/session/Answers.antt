use Rattle.std.proofs.Common.{Err, ap, ◌∙◌}
use Rattle.std.proofs.lemmas.Result.{err_from_is_err_and}
use Rattle.b2_sessions.specs.Scenes.{scene_of}
use Rattle.b2_sessions.proofs.EventsFollowOneAnother.{stopped_so}
use Rattle.b2_sessions.proofs.session.session.Goals as goal

pub returns-in_err-run_all-clause-ran : goal.returns-in_err-run_all-clause-ran
returns-in_err-run_all-clause-ran g c =
    let first = scene_of c.args.host.now (g.S.Sink.output c.args.out.now) in
    let last = scene_of c.run_all.new.host (g.S.Sink.output c.run_all.new.out) in
    let (y, e, q) = err_from_is_err_and c.from_residual.result c.from_residual.ensures.1 in
    stopped_so c.args.events.now first last c.from_residual.result c.in_err-run_all.field-0.0 (e ∙ ap Err q) c.in_err-run_all.ensures.ran

pub returns-clause-ran : goal.returns-clause-ran
returns-clause-ran g c = c.in_ok-run_all.ensures.ran
