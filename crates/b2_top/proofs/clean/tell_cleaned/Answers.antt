use Rattle.std.proofs.Common.{ℕ, Result, sym, subst}
use Rattle.b2_explain.specs.Lines.{removed_count_line}
use Rattle.b2_explain.specs.declared.fault.CleanFault.{CleanFault}
use Rattle.b2_top.specs.declared.answer.Answer.TheVariants as answers
use Rattle.b2_top.specs.Cleans.{TellsCleaned}
use Rattle.b2_top.proofs.PiecesWrittenMakeTheWhole.{says_not}
use Rattle.b2_top.proofs.clean.tell_cleaned.Goals as goal

-- the line of the count was not written
pub returns-in-Err : goal.returns-in-Err
returns-in-Err g c =
    let text = removed_count_line c.in-Ok.count in
    let x = g.S.Sink.output c.args.out.now in
    let y = g.S.Sink.output c.write_made.new.out in
    subst (λ (r : Result ℕ CleanFault). TellsCleaned r x y c.unwritten.result) (sym c.in-Ok.is)
    (says_not answers.Ok text x y c.write_made.result c.in-Err.fault c.unwritten.result c.in-Err.is c.unwritten.ensures (c.write_made.ensures text c.removed_count_line.ensures))
