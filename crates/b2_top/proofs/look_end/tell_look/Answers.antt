use Rattle.b2_top.specs.declared.answer.Answer.TheVariants as answers
use Rattle.b2_request_plan.specs.Plans.{seen}
use Rattle.b2_top.specs.Looks.{look_report}
use Rattle.b2_top.proofs.PiecesWrittenMakeTheWhole.{says_done, says_not}
use Rattle.b2_top.proofs.look_end.tell_look.Goals as goal

pub returns-in-Ok : goal.returns-in-Ok
returns-in-Ok g c =
    says_done answers.Ok (look_report c.args.echoes.now c.args.view (seen c.args.planned.now)) (g.S.Sink.output c.args.out.now) (g.S.Sink.output c.write_look.new.out) c.write_look.result _
    c.in-Ok.is c.write_look.ensures

pub returns-in-Err : goal.returns-in-Err
returns-in-Err g c =
    says_not answers.Ok (look_report c.args.echoes.now c.args.view (seen c.args.planned.now)) (g.S.Sink.output c.args.out.now) (g.S.Sink.output c.write_look.new.out) c.write_look.result c.in-Err.fault
    c.unwritten.result c.in-Err.is c.unwritten.ensures c.write_look.ensures
