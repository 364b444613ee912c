use Rattle.b2_top.specs.declared.answer.Answer.TheVariants as answers
use Rattle.b2_top.specs.Explains.{explained_report}
use Rattle.b2_top.proofs.PiecesWrittenMakeTheWhole.{says_done, says_not}
use Rattle.b2_top.proofs.explain.tell_causes.Goals as goal

pub returns-in-Ok : goal.returns-in-Ok
returns-in-Ok g c =
    says_done answers.Ok (explained_report c.args.echoes.now c.args.steps.now c.args.whys.now) (g.S.Sink.output c.args.out.now) (g.S.Sink.output c.write_explained.new.out) c.write_explained.result _
    c.in-Ok.is c.write_explained.ensures

pub returns-in-Err : goal.returns-in-Err
returns-in-Err g c =
    says_not answers.Ok (explained_report c.args.echoes.now c.args.steps.now c.args.whys.now) (g.S.Sink.output c.args.out.now) (g.S.Sink.output c.write_explained.new.out) c.write_explained.result c.in-Err.fault
    c.unwritten.result c.in-Err.is c.unwritten.ensures c.write_explained.ensures
