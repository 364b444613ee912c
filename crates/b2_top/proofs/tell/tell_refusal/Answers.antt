use Rattle.b2_top.specs.declared.answer.Answer.TheVariants as answers
use Rattle.b2_top.specs.Reports.{refusal_report}
use Rattle.b2_top.proofs.PiecesWrittenMakeTheWhole.{says_done, says_not}
use Rattle.b2_top.proofs.tell.tell_refusal.Goals as goal

pub returns-in-Ok : goal.returns-in-Ok
returns-in-Ok g c =
    says_done (answers.Refused c.args.fault) (refusal_report c.args.echoes.now c.args.steps.now c.args.fault) (g.S.Sink.output c.args.out.now) (g.S.Sink.output c.write_refusal.new.out) c.write_refusal.result _
    c.in-Ok.is c.write_refusal.ensures

pub returns-in-Err : goal.returns-in-Err
returns-in-Err g c =
    says_not (answers.Refused c.args.fault) (refusal_report c.args.echoes.now c.args.steps.now c.args.fault) (g.S.Sink.output c.args.out.now) (g.S.Sink.output c.write_refusal.new.out) c.write_refusal.result
    c.in-Err.error c.unwritten.result c.in-Err.is c.unwritten.ensures c.write_refusal.ensures
