use Rattle.std.proofs.Common.{List, refl, subst}
use Rattle.std.specs.List.{count_by}
use Rattle.b2_host.specs.OutputLaws.{out_keeps_same}
use Rattle.b2_host.specs.declared.children.ChildEvent.{ChildEvent}
use Rattle.b2_memory.specs.Hosts.{told_outside}
use Rattle.b2_runs.specs.Events.{is_start}
use Rattle.b2_top.specs.Writing.{Says}
use Rattle.b2_top.specs.declared.answer.Answer.TheVariants as answers
use Rattle.b2_drill_call.specs.Drilled.{summary_line}
use Rattle.b2_drill_call.proofs.SummariesTellDrills.{summed, says_keeps}
use Rattle.b2_drill_call.proofs.drill.drill.Goals as goal

pub returns-in-Ok-clause-ends : goal.returns-in-Ok-clause-ends
returns-in-Ok-clause-ends g c =
    let x = g.S.Sink.output c.args.out.now in
    let y = g.S.Sink.output c.tell_summary.new.out in
    summed c.args.n (told_outside c.args.host.now) (told_outside c.run_well.new.host) x y c.tell_summary.result c.in-Ok.ensures.drilled
    (subst (λ (e : List ChildEvent). Says answers.Ok (summary_line c.args.n (count_by is_start e)) x y c.tell_summary.result) c.events.ensures c.tell_summary.ensures)

pub returns-in-Ok-clause-out_keeps : goal.returns-in-Ok-clause-out_keeps
returns-in-Ok-clause-out_keeps g c = says_keeps answers.Ok _ (g.S.Sink.output c.args.out.now) (g.S.Sink.output c.tell_summary.new.out) c.tell_summary.result c.tell_summary.ensures

pub returns-in-Err-clause-out_keeps : goal.returns-in-Err-clause-out_keeps
returns-in-Err-clause-out_keeps g c = out_keeps_same (g.S.Sink.output c.args.out.now) (g.S.Sink.output c.args.out.now) refl
