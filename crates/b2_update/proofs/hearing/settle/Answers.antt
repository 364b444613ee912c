use Rattle.std.proofs.Common.{◌∙◌, false, sym}
use Rattle.std.proofs.lemmas.Bool.{true≢false}
use Rattle.b2_update.specs.Moments.{moment}
use Rattle.b2_update.specs.Going.{EndsAs}
use Rattle.b2_update.proofs.EndIsSettled.{failed_so}
use Rattle.b2_update.proofs.hearing.settle.Goals as goal

pub returns-else-well-clause-heard : goal.returns-else-well-clause-heard
returns-else-well-clause-heard g c entry h =
    let ends : EndsAs c.args.plan.now c.args.number c.args.well entry false = λ good. absurd (true≢false (sym good ∙ c.if-well.false)) in
    failed_so c.args.plan.now c.args.number c.args.well entry (moment (g.H.Files.outside c.fail.new.host) (g.S.Sink.output c.fail.new.out)) c.fail.new.run c.fail.result ends c.fail.ensures.bad (c.fail.ensures.heard entry c.args.well h ends)
