use Rattle.std.proofs.Common.{Err, ap, sym, ◌∙◌}
use Rattle.std.proofs.lemmas.Result.{err_from_is_err_and}
use Rattle.b2_memory.specs.Memories.{Memory}
use Rattle.b2_sessions.specs.Scenes.{scene_of}
use Rattle.b2_sessions.proofs.EventsFollowOneAnother.{ran_none, ran_more, ran_all, cut_at, log_edit_at}
use Rattle.b2_sessions.proofs.session.run_all.Goals as goal

pub loop-index-init : goal.loop-index-init
loop-index-init g c = record {
  ran = ran_none c.args.events.now (scene_of c.args.host.now (g.S.Sink.output c.args.out.now)) c.renew_risks.new.self c.args.answers.now.items c.requires.no_answers c.renew_risks.ensures;
  ready = record {
    idle = ap (λ (m : Memory). m.outside.children.running) c.renew_risks.ensures ∙ c.requires.idle;
    calm = ap (λ (m : Memory). m.outside.risks.wait_may_fail) c.renew_risks.ensures ∙ c.requires.calm;
  };
}

pub run_event-requires : goal.run_event-requires
run_event-requires g c = c.loop-index.invariant.ready

pub loop-index-preserved : goal.loop-index-preserved
loop-index-preserved g c =
    let first = scene_of c.args.host.now (g.S.Sink.output c.args.out.now) in
    let middle = scene_of c.loop-index.host (g.S.Sink.output c.loop-index.out) in
    record {
      ran = ran_more c.args.events.now c.loop-index.index c.index-events-index.result first middle c.run_event.new.host (g.S.Sink.output c.run_event.new.out) c.loop-index.answers.items c.run_event.new.answers.items c.loop-index-test.true
          (sym c.index-events-index.is) (sym c.writes_log.ensures ∙ c.if-writes_log.false) c.loop-index.invariant.ran c.in_ok-run_event.ensures.happened;
      ready = c.run_event.ensures.ready;
    }

pub returns-then-writes_log-clause-ran : goal.returns-then-writes_log-clause-ran
returns-then-writes_log-clause-ran g c =
    let first = scene_of c.args.host.now (g.S.Sink.output c.args.out.now) in
    let middle = scene_of c.loop-index.host (g.S.Sink.output c.loop-index.out) in
    log_edit_at c.args.events.now c.loop-index.index c.index-events-index.result first middle c.loop-index.answers.items c.loop-index-test.true (sym c.index-events-index.is) (sym c.writes_log.ensures ∙ c.if-writes_log.true) c.loop-index.invariant.ran

pub returns-in_err-run_event-clause-ran : goal.returns-in_err-run_event-clause-ran
returns-in_err-run_event-clause-ran g c =
    let first = scene_of c.args.host.now (g.S.Sink.output c.args.out.now) in
    let middle = scene_of c.loop-index.host (g.S.Sink.output c.loop-index.out) in
    let last = scene_of c.run_event.new.host (g.S.Sink.output c.run_event.new.out) in
    let (y, e, q) = err_from_is_err_and c.from_residual.result c.from_residual.ensures.1 in
    cut_at c.args.events.now c.loop-index.index first middle last c.loop-index.answers.items c.run_event.new.answers.items c.from_residual.result (e ∙ ap Err q) c.loop-index-test.true c.loop-index.invariant.ran
    c.in_err-run_event.ensures.happened.0 c.in_err-run_event.ensures.happened.1

pub returns-clause-ran : goal.returns-clause-ran
returns-clause-ran g c =
    let first = scene_of c.args.host.now (g.S.Sink.output c.args.out.now) in
    let last = scene_of c.loop-index.host (g.S.Sink.output c.loop-index.out) in
    ran_all c.args.events.now c.loop-index.index first last c.loop-index.answers.items c.loop-index-test.false c.loop-index.invariant.ran
