use Rattle.std.proofs.Common.{Err, refl, sym, ap, subst, ◌∙◌, Result}
use Rattle.std.specs.Prelude.{MatchResult}
use Rattle.std.proofs.lemmas.Result.{err_from_is_err_and}
use Rattle.b2_host.specs.OutsideLaws.{keeps_then}
use Rattle.b2_host.specs.LogChanges.{keeps_log_changes}
use Rattle.b2_update.specs.declared.stop.UpdateStop.{UpdateStop}
use Rattle.b2_update.specs.Moments.{moment}
use Rattle.b2_update.specs.Going.{IsGoing, Halts}
use Rattle.b2_update.specs.InRun.{Tells}
use Rattle.b2_update.proofs.LooksGoOn.{looked, going_looked, looks_halt, way_looked, fewer_looked, on_ok_of, on_ok_at_most}
use Rattle.b2_update.proofs.LooksTell.{looks_tell_ok, looks_tell_err}
use Rattle.b2_update.proofs.TellsCompose.{way_then, tells_then}
use Rattle.b2_update.proofs.working.go_on.Goals as goal

pub returns-in_err-look_all-clause-going : goal.returns-in_err-look_all-clause-going
returns-in_err-look_all-clause-going g c entry going =
    let (y, e, q) = err_from_is_err_and c.from_residual.result c.from_residual.ensures.1 in
    let plan = c.args.plan.now in
    let run = c.args.run.now in
    let here = moment (g.H.Files.outside c.args.host.now) (g.S.Sink.output c.args.out.now) in
    let there = moment (g.H.Files.outside c.look_all.new.files) (g.S.Sink.output c.args.out.now) in
    let stop = c.in_err-look_all.field-0.0 in
    subst (λ (r : Result (Unit {0}) UpdateStop). MatchResult r (λ x. IsGoing plan entry there (looked run c.look_all.new.self c.look_all.new.sights)) (Halts plan run.looks.board.sched.jobs run.waits entry there)) (sym (e ∙ ap Err q))
    (looks_halt plan entry here there run (Unit {0}) stop going refl c.in_err-look_all.ensures.only_log c.in_err-look_all.ensures.faults)

pub returns-in_err-look_all-clause-told : goal.returns-in_err-look_all-clause-told
returns-in_err-look_all-clause-told g c =
    let (y, e, q) = err_from_is_err_and c.from_residual.result c.from_residual.ensures.1 in
    let plan = c.args.plan.now in
    let run = c.args.run.now in
    let here = moment (g.H.Files.outside c.args.host.now) (g.S.Sink.output c.args.out.now) in
    let there = moment (g.H.Files.outside c.look_all.new.files) (g.S.Sink.output c.args.out.now) in
    subst (λ (r : Result (Unit {0}) UpdateStop). Tells plan g.H.Children.made here run there (looked run c.look_all.new.self c.look_all.new.sights) r) (sym (e ∙ ap Err q))
    (looks_tell_err plan g.H.Children.made here there run c.look_all.new.self c.look_all.new.sights (record { only_log = c.in_err-look_all.ensures.only_log; out = refl }) c.in_err-look_all.field-0.0 c.in_err-look_all.ensures.told)

pub start_all-requires-clause-going : goal.start_all-requires-clause-going
start_all-requires-clause-going g c =
    let is = c.in_ok-look_all.ensures in
    let here = moment (g.H.Files.outside c.args.host.now) (g.S.Sink.output c.args.out.now) in
    let there = moment (g.H.Files.outside c.look_all.new.files) (g.S.Sink.output c.args.out.now) in
    (c.requires.going.0, going_looked c.args.plan.now c.requires.going.0 here there c.args.run.now c.look_all.new.self c.look_all.new.sights c.requires.going.1 refl is.only_log is.faults is.about is.looks is.on is.follows is.way.0 is.way.1)

pub returns-clause-way : goal.returns-clause-way
returns-clause-way g c =
    let is = c.in_ok-look_all.ensures in
    let mid = looked c.args.run.now c.look_all.new.self c.look_all.new.sights in
    on_ok_of c.start_all.result (way_then c.args.run.now mid c.start_all.new.run (way_looked c.args.run.now c.look_all.new.self c.look_all.new.sights is.on is.way.0) c.start_all.ensures.way)

pub returns-clause-going : goal.returns-clause-going
returns-clause-going g c entry going =
    let is = c.in_ok-look_all.ensures in
    let plan = c.args.plan.now in
    let here = moment (g.H.Files.outside c.args.host.now) (g.S.Sink.output c.args.out.now) in
    let there = moment (g.H.Files.outside c.look_all.new.files) (g.S.Sink.output c.args.out.now) in
    let last = moment (g.H.Files.outside c.start_all.new.host) (g.S.Sink.output c.start_all.new.out) in
    let mid = looked c.args.run.now c.look_all.new.self c.look_all.new.sights in
    let jobs = c.start_all.ensures.way.jobs ∙ is.on.jobs in
    subst (λ n. MatchResult c.start_all.result (λ x. IsGoing plan entry last c.start_all.new.run) (Halts plan n c.start_all.new.run.waits entry last)) jobs
    (c.start_all.ensures.going entry (going_looked plan entry here there c.args.run.now c.look_all.new.self c.look_all.new.sights going refl is.only_log is.faults is.about is.looks is.on is.follows is.way.0 is.way.1))

pub returns-clause-unended : goal.returns-clause-unended
returns-clause-unended g c =
    on_ok_at_most c.start_all.result _ _ _ (fewer_looked c.args.run.now.looks c.look_all.new.self c.in_ok-look_all.ensures.on) c.start_all.ensures.unended

pub returns-clause-told : goal.returns-clause-told
returns-clause-told g c =
    let is = c.in_ok-look_all.ensures in
    let plan = c.args.plan.now in
    let here = moment (g.H.Files.outside c.args.host.now) (g.S.Sink.output c.args.out.now) in
    let there = moment (g.H.Files.outside c.look_all.new.files) (g.S.Sink.output c.args.out.now) in
    let last = moment (g.H.Files.outside c.start_all.new.host) (g.S.Sink.output c.start_all.new.out) in
    let run = c.args.run.now in
    let mid = looked run c.look_all.new.self c.look_all.new.sights in
    tells_then plan g.H.Children.made here there last run mid c.start_all.new.run (tt {0}) c.start_all.result (way_looked run c.look_all.new.self c.look_all.new.sights is.on is.way.0) c.start_all.ensures.kept.files
    (looks_tell_ok plan g.H.Children.made here there run c.look_all.new.self c.look_all.new.sights (record { only_log = is.only_log; out = refl }) (tt {0}) is.follows is.told) c.start_all.ensures.told

pub returns-in_err-look_all-clause-kept : goal.returns-in_err-look_all-clause-kept
returns-in_err-look_all-clause-kept g c = keeps_log_changes (g.H.Files.outside c.args.host.now) (g.H.Files.outside c.look_all.new.files) c.in_err-look_all.ensures.only_log

pub returns-clause-kept : goal.returns-clause-kept
returns-clause-kept g c = keeps_then (g.H.Files.outside c.args.host.now) (g.H.Files.outside c.look_all.new.files) (g.H.Files.outside c.start_all.new.host)
    (keeps_log_changes (g.H.Files.outside c.args.host.now) (g.H.Files.outside c.look_all.new.files) c.in_ok-look_all.ensures.only_log) c.start_all.ensures.kept
