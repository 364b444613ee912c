use Rattle.std.proofs.Common.{ap, ◌∙◌}
use Rattle.std.specs.List.{list_all}
use Rattle.b2_memory.specs.Hosts.{told_outside}
use Rattle.b2_drill_call.specs.Drilled.{is_well}
use Rattle.b2_drill_call.proofs.DrillsAreSessions.{drilled_well}
use Rattle.b2_drill_call.proofs.session.run_well.Goals as goal

pub returns-then-are_well-clause-drilled : goal.returns-then-are_well-clause-drilled
returns-then-are_well-clause-drilled c =
    drilled_well c.args.n (told_outside c.args.host.now) (told_outside c.run_events.new.host) c.in_ok-answers.answers.items c.are_well.result c.in_ok-answers.ensures.answered
    (c.are_well.ensures ∙ ap (list_all is_well) c.as_slice.ensures.value) c.if-are_well.true
