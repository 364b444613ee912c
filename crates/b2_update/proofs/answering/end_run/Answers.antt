use Rattle.std.proofs.Common.{◌≡◌, Err, Result, refl, sym, ap, subst, ◌∙◌}
use Rattle.std.specs.Prelude.{MatchResult}
use Rattle.b2_host.specs.OutsideLaws.{keeps_same}
use Rattle.std.proofs.lemmas.Result.{err_from_is_err_and}
use Rattle.b2_update.specs.declared.stop.UpdateStop.{UpdateStop}
use Rattle.b2_update.specs.declared.update_answer.UpdateAnswer.{UpdateAnswer}
use Rattle.b2_update.specs.Moments.{moment}
use Rattle.b2_update.specs.Going.{Halts}
use Rattle.b2_update.specs.Endings.{HasCome, EndTells}
use Rattle.b2_update.proofs.EndRuns.{learned, ending_halts, ending_tells_none, ending_comes, ending_tells, keeps_stop_looks}
use Rattle.b2_update.proofs.NothingRuns.{none_runs, none_stale, idle}
use Rattle.b2_update.proofs.answering.end_run.Goals as goal

pub ending_of-requires-clause-none_runs : goal.ending_of-requires-clause-none_runs
ending_of-requires-clause-none_runs g c = none_runs c.args.plan.now c.requires.going.0 (moment (g.H.Files.outside c.args.host.now) (g.S.Sink.output c.args.out.now)) c.args.run.now c.requires.going.1 c.requires.idle

pub ending_of-requires-clause-none_starts : goal.ending_of-requires-clause-none_starts
ending_of-requires-clause-none_starts g c = none_stale c.args.plan.now c.requires.going.0 (moment (g.H.Files.outside c.args.host.now) (g.S.Sink.output c.args.out.now)) c.args.run.now c.requires.going.1 c.requires.idle c.requires.jobs c.requires.none_starts

pub returns-in_err-ending-clause-going : goal.returns-in_err-ending-clause-going
returns-in_err-ending-clause-going g c entry going =
    let p = err_from_is_err_and c.from_residual.result c.from_residual.ensures.1 in
    let is : c.from_residual.result ≡ Err _ = p.1 ∙ ap Err p.2 in
    let run = c.args.run.now in
    let here = moment (g.H.Files.outside c.args.host.now) (g.S.Sink.output c.args.out.now) in
    let there = moment (g.H.Files.outside c.ending_of.new.files) (g.S.Sink.output c.args.out.now) in
    subst (λ (r : Result UpdateAnswer UpdateStop). MatchResult r (HasCome c.args.plan.now run.looks.board.sched.jobs entry there) (Halts c.args.plan.now run.looks.board.sched.jobs run.waits entry there)) (sym is)
    (ending_halts (Unit {0}) c.args.plan.now entry here there run c.in_err-ending.field-0.0 going refl c.in_err-ending.ensures.host)

pub returns-in_err-ending-clause-told : goal.returns-in_err-ending-clause-told
returns-in_err-ending-clause-told g c =
    let p = err_from_is_err_and c.from_residual.result c.from_residual.ensures.1 in
    let here = moment (g.H.Files.outside c.args.host.now) (g.S.Sink.output c.args.out.now) in
    let there = moment (g.H.Files.outside c.ending_of.new.files) (g.S.Sink.output c.args.out.now) in
    subst (EndTells c.args.plan.now g.H.Children.made here c.args.run.now there (learned c.args.run.now c.ending_of.new.sights)) (sym (p.1 ∙ ap Err p.2))
    (ending_tells_none c.args.plan.now g.H.Children.made here there c.args.run.now c.ending_of.new.sights c.in_err-ending.field-0.0 refl (Unit {0}) c.in_err-ending.ensures.host)

pub returns-clause-going : goal.returns-clause-going
returns-clause-going g c entry going =
    let here = moment (g.H.Files.outside c.args.host.now) (g.S.Sink.output c.args.out.now) in
    let there = moment (g.H.Files.outside c.ending_of.new.files) (g.S.Sink.output c.answer_ending.new.out) in
    ending_comes c.args.plan.now entry here there c.args.run.now c.in_ok-ending.ending c.answer_ending.result going (idle c.args.plan.now entry here c.args.run.now going c.requires.idle) c.in_ok-ending.ensures.host c.in_ok-ending.ensures.ending c.answer_ending.ensures

pub returns-clause-told : goal.returns-clause-told
returns-clause-told g c =
    let here = moment (g.H.Files.outside c.args.host.now) (g.S.Sink.output c.args.out.now) in
    let there = moment (g.H.Files.outside c.ending_of.new.files) (g.S.Sink.output c.answer_ending.new.out) in
    let going = c.requires.going.1 in
    ending_tells c.args.plan.now g.H.Children.made here there c.args.run.now c.ending_of.new.sights c.in_ok-ending.ending c.answer_ending.result c.sound.ensures going.planned.looks c.requires.rests c.requires.none_starts
    (idle c.args.plan.now c.requires.going.0 here c.args.run.now going c.requires.idle) c.in_ok-ending.ensures.host c.in_ok-ending.ensures.told c.answer_ending.ensures

pub returns-in_err-ending-clause-kept : goal.returns-in_err-ending-clause-kept
returns-in_err-ending-clause-kept g c = keeps_stop_looks (Unit {0}) (g.H.Files.outside c.args.host.now) (g.H.Files.outside c.ending_of.new.files) c.in_err-ending.field-0.0 c.in_err-ending.ensures.host

pub returns-clause-kept : goal.returns-clause-kept
returns-clause-kept g c = keeps_same (g.H.Files.outside c.args.host.now) (g.H.Files.outside c.ending_of.new.files) c.in_ok-ending.ensures.host
