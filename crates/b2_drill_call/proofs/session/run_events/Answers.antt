use Rattle.std.proofs.Common.{refl, ◌∙◌}
use Rattle.b2_memory.specs.Hosts.{told_outside, memory_of}
use Rattle.b2_memory.specs.Sinks.{sink_output}
use Rattle.b2_drill_call.proofs.DrillsAreSessions.{has_answered, answered_well, stopped_well, is_drill}
use Rattle.b2_drill_call.proofs.DrillsGoWell.{goes_nowhere}
use Rattle.b2_drill_call.proofs.session.run_events.Goals as goal

pub returns-in_err-events-clause-gone : goal.returns-in_err-events-clause-gone
returns-in_err-events-clause-gone c = λ few. goes_nowhere c.args.n (told_outside c.args.host.now) (told_outside c.args.host.now) refl

pub returns-in-Ok-clause-answered : goal.returns-in-Ok-clause-answered
returns-in-Ok-clause-answered c =
    has_answered c.args.n c.as_slice.result.now (told_outside c.args.host.now) (told_outside c.run_session.new.host) c.in-Ok.answers.items (sink_output c.new-out.result) (sink_output c.run_session.new.out)
    (c.as_slice.ensures ∙ c.in_ok-events.ensures) c.new-out.ensures.output c.in-Ok.ensures.session c.in-Ok.ensures.one_each

pub returns-in-Ok-clause-gone : goal.returns-in-Ok-clause-gone
returns-in-Ok-clause-gone c =
    λ few.
    answered_well c.drills_go_well.ensures c.args.n (told_outside c.args.host.now) (told_outside c.run_session.new.host) c.in-Ok.answers.items
    (has_answered c.args.n c.as_slice.result.now (told_outside c.args.host.now) (told_outside c.run_session.new.host) c.in-Ok.answers.items (sink_output c.new-out.result) (sink_output c.run_session.new.out)
    (c.as_slice.ensures ∙ c.in_ok-events.ensures) c.new-out.ensures.output c.in-Ok.ensures.session c.in-Ok.ensures.one_each)
    (is_drill c.args.n (memory_of c.args.host.now) (memory_of c.run_session.new.host) c.requires.some few c.requires.new c.run_session.ensures.risks)

pub returns-clause-gone : goal.returns-clause-gone
returns-clause-gone c =
    λ few.
    stopped_well c.drills_go_well.ensures c.args.n c.as_slice.result.now c.args.host.now c.run_session.new.host (sink_output c.new-out.result) (sink_output c.run_session.new.out) c.in-Err._fault
    (c.as_slice.ensures ∙ c.in_ok-events.ensures) c.new-out.ensures.output c.in-Err.ensures.stopped
    (is_drill c.args.n (memory_of c.args.host.now) (memory_of c.run_session.new.host) c.requires.some few c.requires.new c.run_session.ensures.risks)
