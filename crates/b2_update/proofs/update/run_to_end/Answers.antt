use Rattle.std.proofs.Common.{refl, arith}
use Rattle.b2_host.specs.OutsideLaws.{keeps_then}
use Rattle.b2_update.specs.Moments.{moment}
use Rattle.b2_update.proofs.AnswerIsGiven.{come_is_answered, stop_is_answered, rest_is}
use Rattle.b2_update.proofs.RestIsLeft.{rest_of}
use Rattle.b2_update.proofs.RunIsTold.{run_came, run_stopped}
use Rattle.b2_update.proofs.update.run_to_end.Goals as goal

pub drain-all_waited-requires : goal.drain-all_waited-requires
drain-all_waited-requires g c =
    let here = moment (g.H.Files.outside c.run_steps.new.host) (g.S.Sink.output c.run_steps.new.out) in
    rest_of c.run_steps.new.run.waits c.requires.going.0 here (c.in-Err.ensures.going c.requires.going.0 c.requires.going.1).waits

pub returns-in-Ok-clause-answered : goal.returns-in-Ok-clause-answered
returns-in-Ok-clause-answered g c entry going =
    come_is_answered c.args.plan.now c.args.run.now.looks.board.sched.jobs entry (moment (g.H.Files.outside c.run_steps.new.host) (g.S.Sink.output c.run_steps.new.out)) c.in-Ok.answer (c.in-Ok.ensures.going entry going)

pub returns-in-Err-clause-answered : goal.returns-in-Err-clause-answered
returns-in-Err-clause-answered g c entry going =
    let mid = moment (g.H.Files.outside c.run_steps.new.host) (g.S.Sink.output c.run_steps.new.out) in
    let after = g.H.Files.outside c.drain-all_waited.new.host in
    let halts = c.in-Err.ensures.going entry going in
    let d = c.drain-all_waited.ensures in
    let (rest, left, how) = rest_is c.run_steps.new.run.waits entry mid halts.waits in
    stop_is_answered c.args.plan.now c.args.run.now.looks.board.sched.jobs c.run_steps.new.run.waits entry mid after c.in-Err.stop halts rest (d.drains rest left) c.run_steps.new.run.sights.facts c.drain-all_waited.result c.stopped.result c.stopped.ensures
    d.quiet (λ e. d.all e rest left) d.failed (λ zero_rest. d.none_left (let e = left in omega (arith, e, zero_rest))) how

pub returns-in-Ok-clause-told : goal.returns-in-Ok-clause-told
returns-in-Ok-clause-told g c =
    let before = moment (g.H.Files.outside c.args.host.now) (g.S.Sink.output c.args.out.now) in
    let after = moment (g.H.Files.outside c.run_steps.new.host) (g.S.Sink.output c.run_steps.new.out) in
    run_came c.args.plan.now g.H.Children.made before after c.args.run.now c.run_steps.new.run c.in-Ok.answer (g.met.H.Files.reads_alike c.run_steps.new.host) c.in-Ok.ensures.told

pub returns-in-Err-clause-kept : goal.returns-in-Err-clause-kept
returns-in-Err-clause-kept g c =
    let here = moment (g.H.Files.outside c.run_steps.new.host) (g.S.Sink.output c.run_steps.new.out) in
    let (rest, run) = rest_of c.run_steps.new.run.waits c.requires.going.0 here (c.in-Err.ensures.going c.requires.going.0 c.requires.going.1).waits in
    keeps_then (g.H.Files.outside c.args.host.now) here.host (g.H.Files.outside c.drain-all_waited.new.host) c.in-Err.ensures.kept (c.drain-all_waited.ensures.drains rest run).keeps

pub returns-in-Err-clause-told : goal.returns-in-Err-clause-told
returns-in-Err-clause-told g c =
    let before = moment (g.H.Files.outside c.args.host.now) (g.S.Sink.output c.args.out.now) in
    let here = moment (g.H.Files.outside c.run_steps.new.host) (g.S.Sink.output c.run_steps.new.out) in
    let after = moment (g.H.Files.outside c.drain-all_waited.new.host) (g.S.Sink.output c.run_steps.new.out) in
    let (rest, run) = rest_of c.run_steps.new.run.waits c.requires.going.0 here (c.in-Err.ensures.going c.requires.going.0 c.requires.going.1).waits in
    let drains = c.drain-all_waited.ensures.drains rest run in
    run_stopped c.args.plan.now g.H.Children.made before here after c.args.run.now c.run_steps.new.run c.in-Err.stop c.drain-all_waited.result c.stopped.result (g.met.H.Files.reads_alike c.drain-all_waited.new.host)
    refl drains.reads drains.given drains.keeps.files c.drain-all_waited.ensures.told c.stopped.ensures c.in-Err.ensures.told
