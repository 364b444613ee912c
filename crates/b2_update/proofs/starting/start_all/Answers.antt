use Rattle.std.proofs.Common.{◌≡◌, Ok, Err, refl, ap, ◌∙◌}
use Rattle.std.proofs.lemmas.Result.{err_from_is_err_and}
use Rattle.b2_host.specs.OutsideLaws.{keeps_same, keeps_then}
use Rattle.b2_update.specs.Moments.{moment}
use Rattle.b2_update.proofs.TellsCompose.{same_way, way_then, tells_here, tells_then}
use Rattle.b2_update.proofs.starting.start_all.Goals as goal

pub loop-init : goal.loop-init
loop-init g c = record {
  way = same_way c.args.run.now;
  going = λ entry is. is;
  rests = c.requires.rests;
  kept = keeps_same (g.H.Files.outside c.args.host.now) (g.H.Files.outside c.args.host.now) refl;
  unended = refl;
  told = tells_here c.args.plan.now g.H.Children.made (moment (g.H.Files.outside c.args.host.now) (g.S.Sink.output c.args.out.now)) c.args.run.now (tt {0});
}

pub start_next-requires-clause-apart : goal.start_next-requires-clause-apart
start_next-requires-clause-apart g c = c.requires.apart

pub start_next-requires-clause-going : goal.start_next-requires-clause-going
start_next-requires-clause-going g c = (c.requires.going.0, c.loop.invariant.going c.requires.going.0 c.requires.going.1)

pub start_next-requires-clause-rests : goal.start_next-requires-clause-rests
start_next-requires-clause-rests g c = c.loop.invariant.rests

pub returns-in_err-start_next : goal.returns-in_err-start_next
returns-in_err-start_next g c =
    let x = moment (g.H.Files.outside c.args.host.now) (g.S.Sink.output c.args.out.now) in
    let y = moment (g.H.Files.outside c.loop.host) (g.S.Sink.output c.loop.out) in
    let z = moment (g.H.Files.outside c.start_next.new.host) (g.S.Sink.output c.start_next.new.out) in
    let old = c.loop.invariant in
    let e = c.in_err-start_next.ensures in
    let p = err_from_is_err_and c.from_residual.result c.from_residual.ensures.1 in
    let is : c.from_residual.result ≡ Err c.in_err-start_next.field-0.0 = p.1 ∙ ap Err p.2 in
    rw is (record {
      way = way_then c.args.run.now c.loop.run c.start_next.new.run old.way e.way;
      going = λ entry going. e.going entry (old.going entry going);
      rests = tt;
      none = tt;
      kept = keeps_then x.host y.host z.host old.kept e.kept;
      unended = tt;
      told = tells_then {V = Unit {0}} c.args.plan.now g.H.Children.made x y z c.args.run.now c.loop.run c.start_next.new.run (tt {0}) (Err c.in_err-start_next.field-0.0) old.way e.kept.files old.told e.told;
    })

pub loop-smaller : goal.loop-smaller
loop-smaller g c = c.in_ok-start_next.ensures.fewer c.if-branch.true

pub loop-preserved : goal.loop-preserved
loop-preserved g c =
    let x = moment (g.H.Files.outside c.args.host.now) (g.S.Sink.output c.args.out.now) in
    let y = moment (g.H.Files.outside c.loop.host) (g.S.Sink.output c.loop.out) in
    let z = moment (g.H.Files.outside c.start_next.new.host) (g.S.Sink.output c.start_next.new.out) in
    let old = c.loop.invariant in
    let e = c.in_ok-start_next.ensures in
    record {
      way = way_then c.args.run.now c.loop.run c.start_next.new.run old.way e.way;
      going = λ entry going. e.going entry (old.going entry going);
      rests = e.rests;
      kept = keeps_then x.host y.host z.host old.kept e.kept;
      unended = e.unended ∙ old.unended;
      told = tells_then c.args.plan.now g.H.Children.made x y z c.args.run.now c.loop.run c.start_next.new.run (tt {0}) (Ok (tt {0})) old.way e.kept.files old.told e.told;
    }

pub returns : goal.returns
returns g c =
    let x = moment (g.H.Files.outside c.args.host.now) (g.S.Sink.output c.args.out.now) in
    let y = moment (g.H.Files.outside c.loop.host) (g.S.Sink.output c.loop.out) in
    let z = moment (g.H.Files.outside c.start_next.new.host) (g.S.Sink.output c.start_next.new.out) in
    let old = c.loop.invariant in
    let e = c.in_ok-start_next.ensures in
    record {
      way = way_then c.args.run.now c.loop.run c.start_next.new.run old.way e.way;
      going = λ entry going. e.going entry (old.going entry going);
      rests = e.rests;
      none = e.none c.if-branch.false;
      kept = keeps_then x.host y.host z.host old.kept e.kept;
      unended = e.unended ∙ old.unended;
      told = tells_then c.args.plan.now g.H.Children.made x y z c.args.run.now c.loop.run c.start_next.new.run (tt {0}) (Ok (tt {0})) old.way e.kept.files old.told e.told;
    }
