use Rattle.std.proofs.Common.{◌≡◌, Some, Err, ap, subst}
use Rattle.jam_scope.specs.Lines.{actions_place}
use Rattle.jam_meaning.specs.NativeCalls.{ActsAsMeant}
use Rattle.jam_effects.proofs.RecordingDoesAsDefined.{some_key, record_fails}
use Rattle.jam_effects.proofs.natives.record_call.Goals as goal

pub returns-in-Err : goal.returns-in-Err
returns-in-Err g c =
    let at = some_key _ _ _ _ c.find_actions.ensures c.is_none.ensures c.if-is_none.false in
    λ turns outside.
    record_fails c.args.name.now c.args.given.now c.args.at.now at.0 c.args.world.now c.acted.new.world turns (g.N.Natives.kept c.args.natives.now) (g.N.Natives.kept c.acted.new.self) _ _ outside c.in-Err.error c.native_fault.result
    (subst (λ n. actions_place n c.args.world.now.now ≡ Some at.0) c.as_str.ensures.value at.1)
    (subst
    (λ n. ActsAsMeant (g.N.Natives.meaning c.args.natives.now) n c.args.given.now c.args.at.now.line c.args.world.now (g.N.Natives.kept c.args.natives.now) (Err c.in-Err.error) c.acted.new.world (g.N.Natives.kept c.acted.new.self))
    c.as_str-2.ensures.value c.in-Err.ensures.told)
    c.in-Err.ensures.meaning c.in-Err.ensures.frames (λ e. c.in-Err.ensures.no_host (ap Err e)) c.in-Err.ensures.no_refusal c.native_fault.ensures
