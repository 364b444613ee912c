use Rattle.std.proofs.Common.{ℕ, List, Ok, ap, sym, ◌∙◌}
use Rattle.std.proofs.lemmas.Result.{err_from_is_err_and}
use Rattle.b2_drill.specs.declared.event.Event.{Event}
use Rattle.b2_drill.specs.declared.event.Event.TheVariants as events
use Rattle.b2_memory.specs.Hosts.{memory_of}
use Rattle.b2_sessions.specs.Scenes.{scene_of}
use Rattle.b2_sessions.proofs.EventsFollowOneAnother.{none_happened, edit_happened, as_happened, more_from}
use Rattle.b2_sessions.proofs.happen.run_event.Goals as goal

pub returns-in_err-reserve-clause-happened : goal.returns-in_err-reserve-clause-happened
returns-in_err-reserve-clause-happened g c =
    let (y, e, q) = err_from_is_err_and c.from_residual.result c.from_residual.ensures.1 in
    none_happened c.args.event.now (scene_of c.args.host.now (g.S.Sink.output c.args.out.now)) c.args.answers.now.items c.reserve.new.self.items c.from_residual.result y e c.reserve.ensures.items

pub returns-in-Edit-clause-happened : goal.returns-in-Edit-clause-happened
returns-in-Edit-clause-happened g c =
    let out = g.S.Sink.output c.args.out.now in
    as_happened c.args.event.now (events.Edit c.in-Edit.path c.in-Edit.bytes) (scene_of c.args.host.now out) (scene_of c.edit.new.host out) c.args.answers.now.items c.reserve.new.self.items c.edit.result c.in-Edit.is
    (edit_happened c.in-Edit.path c.in-Edit.bytes (memory_of c.args.host.now) (memory_of c.edit.new.host) out c.args.answers.now.items c.reserve.new.self.items c.edit.result c.edit.ensures.ok c.edit.ensures.err c.reserve.ensures.items)

pub returns-in-Update-clause-happened : goal.returns-in-Update-clause-happened
returns-in-Update-clause-happened g c =
    let before = scene_of c.args.host.now (g.S.Sink.output c.args.out.now) in
    let after = scene_of c.update.new.host (g.S.Sink.output c.update.new.out) in
    let event : Event = events.Update c.as_slice.result.now in
    as_happened {T = Unit {0}} c.args.event.now event before after c.args.answers.now.items c.update.new.answers.items (Ok tt) (c.in-Update.is ∙ ap (λ (words : List (List ℕ)). events.Update words) (sym c.as_slice.ensures))
    (more_from event before after c.args.answers.now.items c.reserve.new.self.items c.update.new.answers.items c.reserve.ensures.items c.update.ensures.more)

pub returns-in-Stop-clause-happened : goal.returns-in-Stop-clause-happened
returns-in-Stop-clause-happened g c =
    let before = scene_of c.args.host.now (g.S.Sink.output c.args.out.now) in
    let after = scene_of c.stop.new.host (g.S.Sink.output c.stop.new.out) in
    let event : Event = events.Stop c.as_slice-in-Stop.result.now c.in-Stop.calls c.in-Stop.tear in
    as_happened {T = Unit {0}} c.args.event.now event before after c.args.answers.now.items c.stop.new.answers.items (Ok tt)
    (c.in-Stop.is ∙ ap (λ (words : List (List ℕ)). events.Stop words c.in-Stop.calls c.in-Stop.tear) (sym c.as_slice-in-Stop.ensures))
    (more_from event before after c.args.answers.now.items c.reserve.new.self.items c.stop.new.answers.items c.reserve.ensures.items c.stop.ensures.more)
