use Rattle.std.proofs.Common.{List, ℕ, subst}
use Rattle.b2_top.specs.declared.answer.Answer.TheVariants as answers
use Rattle.b2_top.specs.Writing.{Says}
use Rattle.b2_top.proofs.PiecesWrittenMakeTheWhole.{says_done, says_not}
use Rattle.b2_top.proofs.tell.tell_usage.Goals as goal

pub returns-in-Ok : goal.returns-in-Ok
returns-in-Ok g c =
    let x = g.S.Sink.output c.args.out.now in
    let y = g.S.Sink.output c.write_text.new.out in
    subst (λ (t : List ℕ). Says answers.Usage t x y answers.Usage) c.usage_line.ensures (says_done answers.Usage c.usage_line.result.now x y c.write_text.result _ c.in-Ok.is c.write_text.ensures)

pub returns-in-Err : goal.returns-in-Err
returns-in-Err g c =
    let x = g.S.Sink.output c.args.out.now in
    let y = g.S.Sink.output c.write_text.new.out in
    subst (λ (t : List ℕ). Says answers.Usage t x y c.unwritten.result) c.usage_line.ensures
    (says_not answers.Usage c.usage_line.result.now x y c.write_text.result c.in-Err.fault c.unwritten.result c.in-Err.is c.unwritten.ensures c.write_text.ensures)
