use Rattle.std.proofs.Common.{refl}
use Rattle.b2_files.specs.StoreDisks.{told}
use Rattle.b2_sessions.specs.Scenes.{scene_of}
use Rattle.b2_sessions.proofs.ResultsAreTold.{none_listed, ran_told, session_told, each_told, log_told, stop_told, clean_told}
use Rattle.b2_sessions.proofs.SessionsPass.{passed, true_log, risks_told}
use Rattle.b2_sessions.proofs.session.run_session.Goals as goal

pub returns-clause-ran : goal.returns-clause-ran
returns-clause-ran g c = ran_told c.args.events.now c.args.host.now (g.S.Sink.output c.args.out.now) (scene_of c.session.new.host (g.S.Sink.output c.session.new.out)) c.session.result c.session.ensures.ran

pub returns-clause-session : goal.returns-clause-session
returns-clause-session g c = session_told c.args.events.now c.args.host.now (g.S.Sink.output c.args.out.now) (scene_of c.session.new.host (g.S.Sink.output c.session.new.out)) c.session.result c.session.ensures.ran

pub returns-clause-one_each : goal.returns-clause-one_each
returns-clause-one_each g c = each_told c.args.events.now c.args.host.now (g.S.Sink.output c.args.out.now) (scene_of c.session.new.host (g.S.Sink.output c.session.new.out)) c.session.result c.session.ensures.ran

pub returns-clause-no_log_edit : goal.returns-clause-no_log_edit
returns-clause-no_log_edit g c = log_told c.args.events.now c.args.host.now (g.S.Sink.output c.args.out.now) (scene_of c.session.new.host (g.S.Sink.output c.session.new.out)) c.session.result c.session.ensures.ran

pub returns-clause-stopped : goal.returns-clause-stopped
returns-clause-stopped g c = stop_told c.args.events.now c.args.host.now (g.S.Sink.output c.args.out.now) (scene_of c.session.new.host (g.S.Sink.output c.session.new.out)) c.session.result c.session.ensures.ran

pub returns-clause-idle : goal.returns-clause-idle
returns-clause-idle g c = c.session.ensures.ready.idle

pub returns-clause-calm : goal.returns-clause-calm
returns-clause-calm g c = none_listed c.session.new.host c.session.ensures.ready

pub returns-clause-risks : goal.returns-clause-risks
returns-clause-risks g c =
    risks_told c.args.events.now (scene_of c.args.host.now (g.S.Sink.output c.args.out.now)) (scene_of c.session.new.host (g.S.Sink.output c.session.new.out)) c.session.result c.session.ensures.ran

pub returns-clause-passed : goal.returns-clause-passed
returns-clause-passed g c = passed c.args.events.now c.args.host.now (g.S.Sink.output c.args.out.now) (scene_of c.session.new.host (g.S.Sink.output c.session.new.out)) c.session.result c.session.ensures.ran

pub returns-clause-true_log : goal.returns-clause-true_log
returns-clause-true_log g c = true_log c.args.events.now c.args.host.now (g.S.Sink.output c.args.out.now) (scene_of c.session.new.host (g.S.Sink.output c.session.new.out)) c.session.result c.session.ensures.ran

pub returns-clause-clean : goal.returns-clause-clean
returns-clause-clean g c =
    let last = c.session.new.host in
    clean_told c.args.events.now c.args.host.now (g.S.Sink.output c.args.out.now) (scene_of last (g.S.Sink.output c.session.new.out)) (told last.store) c.session.result refl c.session.ensures.ran
