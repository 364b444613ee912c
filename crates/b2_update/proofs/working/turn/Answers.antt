use Rattle.std.proofs.Common.{◌≡◌, Err, Result, sym, ap, subst, ◌∙◌}
use Rattle.std.specs.Prelude.{MatchResult}
use Rattle.std.proofs.lemmas.Result.{err_from_is_err_and}
use Rattle.b2_host.specs.OutsideLaws.{keeps_then}
use Rattle.b2_update.specs.declared.stop.UpdateStop.{UpdateStop}
use Rattle.b2_update.specs.Moments.{moment}
use Rattle.b2_update.specs.Going.{IsGoing, Halts}
use Rattle.b2_update.specs.InRun.{Tells}
use Rattle.b2_update.proofs.LooksGoOn.{on_ok_then, on_ok_less}
use Rattle.b2_update.proofs.TellsCompose.{way_then, tells_then}
use Rattle.b2_update.proofs.working.turn.Goals as goal

pub returns-in_err-hear-clause-going : goal.returns-in_err-hear-clause-going
returns-in_err-hear-clause-going g c entry going =
    let p = err_from_is_err_and c.from_residual.result c.from_residual.ensures.1 in
    let is : c.from_residual.result ≡ Err c.in_err-hear.field-0.0 = p.1 ∙ ap Err p.2 in
    let plan = c.args.plan.now in
    let there = moment (g.H.Files.outside c.hear.new.host) (g.S.Sink.output c.hear.new.out) in
    let halts = c.in_err-hear.ensures.going entry going in
    subst (λ (r : Result (Unit {0}) UpdateStop). MatchResult r (λ x. IsGoing plan entry there c.hear.new.run) (Halts plan c.args.run.now.looks.board.sched.jobs c.hear.new.run.waits entry there)) (sym is)
    (subst (λ n. Halts plan n c.hear.new.run.waits entry there c.in_err-hear.field-0.0) c.in_err-hear.ensures.way.jobs halts)

pub returns-in_err-hear-clause-told : goal.returns-in_err-hear-clause-told
returns-in_err-hear-clause-told g c =
    let p = err_from_is_err_and c.from_residual.result c.from_residual.ensures.1 in
    let is : c.from_residual.result ≡ Err c.in_err-hear.field-0.0 = p.1 ∙ ap Err p.2 in
    let x = moment (g.H.Files.outside c.args.host.now) (g.S.Sink.output c.args.out.now) in
    let y = moment (g.H.Files.outside c.hear.new.host) (g.S.Sink.output c.hear.new.out) in
    subst (λ (r : Result (Unit {0}) UpdateStop). Tells c.args.plan.now g.H.Children.made x c.args.run.now y c.hear.new.run r) (sym is) c.in_err-hear.ensures.told

pub go_on-requires-clause-going : goal.go_on-requires-clause-going
go_on-requires-clause-going g c = (c.requires.going.0, c.in_ok-hear.ensures.going c.requires.going.0 c.requires.going.1)

pub returns-clause-way : goal.returns-clause-way
returns-clause-way g c = on_ok_then c.go_on.result _ _ (way_then c.args.run.now c.hear.new.run c.go_on.new.run c.in_ok-hear.ensures.way) c.go_on.ensures.way

pub returns-clause-kept : goal.returns-clause-kept
returns-clause-kept g c = keeps_then (g.H.Files.outside c.args.host.now) (g.H.Files.outside c.hear.new.host) (g.H.Files.outside c.go_on.new.host) c.in_ok-hear.ensures.kept c.go_on.ensures.kept

pub returns-clause-going : goal.returns-clause-going
returns-clause-going g c entry going =
    let z = moment (g.H.Files.outside c.go_on.new.host) (g.S.Sink.output c.go_on.new.out) in
    subst (λ n. MatchResult c.go_on.result (λ x. IsGoing c.args.plan.now entry z c.go_on.new.run) (Halts c.args.plan.now n c.go_on.new.run.waits entry z)) c.in_ok-hear.ensures.way.jobs
    (c.go_on.ensures.going entry (c.in_ok-hear.ensures.going entry going))

pub returns-clause-fewer : goal.returns-clause-fewer
returns-clause-fewer g c = on_ok_less c.go_on.result _ _ _ c.in_ok-hear.ensures.fewer c.go_on.ensures.unended

pub returns-clause-told : goal.returns-clause-told
returns-clause-told g c =
    let x = moment (g.H.Files.outside c.args.host.now) (g.S.Sink.output c.args.out.now) in
    let y = moment (g.H.Files.outside c.hear.new.host) (g.S.Sink.output c.hear.new.out) in
    let z = moment (g.H.Files.outside c.go_on.new.host) (g.S.Sink.output c.go_on.new.out) in
    tells_then c.args.plan.now g.H.Children.made x y z c.args.run.now c.hear.new.run c.go_on.new.run (tt {0}) c.go_on.result c.in_ok-hear.ensures.way c.go_on.ensures.kept.files c.in_ok-hear.ensures.told c.go_on.ensures.told
