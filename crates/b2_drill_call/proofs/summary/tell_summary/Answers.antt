use Rattle.std.specs.List.{count_by}
use Rattle.b2_runs.specs.Events.{is_start}
use Rattle.b2_top.specs.declared.answer.Answer.TheVariants as answers
use Rattle.b2_drill_call.proofs.SummariesTellDrills.{says_done, says_not}
use Rattle.b2_drill_call.specs.Drilled.{summary_line}
use Rattle.b2_drill_call.proofs.summary.tell_summary.Goals as goal

pub returns-in-Ok : goal.returns-in-Ok
returns-in-Ok g c =
    let line = summary_line c.args.n (count_by is_start c.args.events.now) in
    says_done answers.Ok line (g.S.Sink.output c.args.out.now) (g.S.Sink.output c.write_made.new.out) c.write_made.result _ c.in-Ok.is (c.write_made.ensures line c.summary_line.ensures)

pub returns-in-Err : goal.returns-in-Err
returns-in-Err g c =
    let line = summary_line c.args.n (count_by is_start c.args.events.now) in
    says_not answers.Ok line (g.S.Sink.output c.args.out.now) (g.S.Sink.output c.write_made.new.out) c.write_made.result c.in-Err.fault c.unwritten.result c.in-Err.is c.unwritten.ensures
    (c.write_made.ensures line c.summary_line.ensures)
