use Rattle.std.proofs.Common.{◌≡◌, Ok, Err, Result, sym, ap, subst, ◌∙◌}
use Rattle.std.specs.Prelude.{MatchResult}
use Rattle.std.proofs.lemmas.Result.{err_from_is_err_and}
use Rattle.b2_host.specs.OutsideLaws.{keeps_then}
use Rattle.b2_update.specs.declared.stop.UpdateStop.{UpdateStop}
use Rattle.b2_update.specs.Moments.{moment}
use Rattle.b2_update.specs.Going.{IsGoing, Halts}
use Rattle.b2_update.specs.InRun.{Tells}
use Rattle.b2_update.proofs.TellsCompose.{way_then, tells_then}
use Rattle.b2_update.proofs.working.work.Goals as goal

pub turn-requires-clause-going : goal.turn-requires-clause-going
turn-requires-clause-going g c = (c.requires.going.0, c.loop-run.invariant.going c.requires.going.0 c.requires.going.1)

pub loop-run-preserved : goal.loop-run-preserved
loop-run-preserved g c =
    let x = moment (g.H.Files.outside c.args.host.now) (g.S.Sink.output c.args.out.now) in
    let y = moment (g.H.Files.outside c.loop-run.host) (g.S.Sink.output c.loop-run.out) in
    let z = moment (g.H.Files.outside c.turn.new.host) (g.S.Sink.output c.turn.new.out) in
    let old = c.loop-run.invariant in
    let e = c.in_ok-turn.ensures in
    record {
      way = way_then c.args.run.now c.loop-run.run c.turn.new.run old.way e.way;
      kept = keeps_then x.host y.host z.host old.kept e.kept;
      going = λ entry going. e.going entry (old.going entry going);
      rests = e.rests;
      none = e.none;
      told = tells_then c.args.plan.now g.H.Children.made x y z c.args.run.now c.loop-run.run c.turn.new.run (tt {0}) (Ok (tt {0})) old.way e.kept.files old.told e.told;
    }

pub returns-in_err-turn-clause-kept : goal.returns-in_err-turn-clause-kept
returns-in_err-turn-clause-kept g c =
    keeps_then (g.H.Files.outside c.args.host.now) (g.H.Files.outside c.loop-run.host) (g.H.Files.outside c.turn.new.host) c.loop-run.invariant.kept c.in_err-turn.ensures.kept

pub returns-in_err-turn-clause-going : goal.returns-in_err-turn-clause-going
returns-in_err-turn-clause-going g c entry going =
    let p = err_from_is_err_and c.from_residual-in_err-turn.result c.from_residual-in_err-turn.ensures.1 in
    let is : c.from_residual-in_err-turn.result ≡ Err c.in_err-turn.field-0.0 = p.1 ∙ ap Err p.2 in
    let there = moment (g.H.Files.outside c.turn.new.host) (g.S.Sink.output c.turn.new.out) in
    let old = c.loop-run.invariant in
    subst (λ (r : Result (Unit {0}) UpdateStop). MatchResult r (λ x. IsGoing c.args.plan.now entry there c.turn.new.run) (Halts c.args.plan.now c.args.run.now.looks.board.sched.jobs c.turn.new.run.waits entry there)) (sym is)
    (subst (λ n. Halts c.args.plan.now n c.turn.new.run.waits entry there c.in_err-turn.field-0.0) old.way.jobs (c.in_err-turn.ensures.going entry (old.going entry going)))

pub returns-in_err-turn-clause-told : goal.returns-in_err-turn-clause-told
returns-in_err-turn-clause-told g c =
    let p = err_from_is_err_and c.from_residual-in_err-turn.result c.from_residual-in_err-turn.ensures.1 in
    let is : c.from_residual-in_err-turn.result ≡ Err c.in_err-turn.field-0.0 = p.1 ∙ ap Err p.2 in
    let x = moment (g.H.Files.outside c.args.host.now) (g.S.Sink.output c.args.out.now) in
    let y = moment (g.H.Files.outside c.loop-run.host) (g.S.Sink.output c.loop-run.out) in
    let z = moment (g.H.Files.outside c.turn.new.host) (g.S.Sink.output c.turn.new.out) in
    let old = c.loop-run.invariant in
    subst (λ (r : Result (Unit {0}) UpdateStop). Tells c.args.plan.now g.H.Children.made x c.args.run.now z c.turn.new.run r) (sym is)
    (tells_then {V = Unit {0}} c.args.plan.now g.H.Children.made x y z c.args.run.now c.loop-run.run c.turn.new.run (tt {0}) (Err c.in_err-turn.field-0.0) old.way c.in_err-turn.ensures.kept.files old.told c.in_err-turn.ensures.told)
