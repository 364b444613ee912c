use Rattle.std.proofs.Common.{Err, subst}
use Rattle.jam_meaning.specs.NativeCalls.{CallsAsMeant}
use Rattle.jam_effects.proofs.NativeAnswersDoAsDefined.{native_ok, native_fails}
use Rattle.jam_effects.proofs.natives.native_step.Goals as goal

pub returns-in-Ok : goal.returns-in-Ok
returns-in-Ok g c =
    λ turns. native_ok c.args.name.now c.args.given.now c.args.at.now _ _ turns _ _ _ _ _ _ c.in-Ok.step
    (rw c.as_str.ensures.value at c.in-Ok.ensures.told) c.in-Ok.ensures.meaning c.in-Ok.ensures.frames c.in-Ok.ensures.outside

pub returns-in-Err : goal.returns-in-Err
returns-in-Err g c =
    λ turns. native_fails c.args.name.now c.args.given.now c.args.at.now _ _ turns _ _ _ _ _ _ c.in-Err.error c.native_fault.result
    (subst
    (λ n. CallsAsMeant (g.N.Natives.meaning c.args.natives.now) (g.F.Files.outside c.args.files.now).disk n c.args.given.now c.args.at.now.line c.args.world.now (g.N.Natives.kept c.args.natives.now) (Err c.in-Err.error) c.call.new.world (g.N.Natives.kept c.call.new.self))
    c.as_str.ensures.value c.in-Err.ensures.told) c.in-Err.ensures.kept c.in-Err.ensures.meaning c.in-Err.ensures.frames c.in-Err.ensures.outside c.native_fault.ensures
