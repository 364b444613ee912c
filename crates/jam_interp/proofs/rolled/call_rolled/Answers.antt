use Rattle.std.proofs.Common.{Ok, Err, refl, sym, ap, ◌∙◌, subst}
use Rattle.std.proofs.lemmas.Result.{err_from_is_err_and}
use Rattle.jam_meaning.specs.Faults.{Spot}
use Rattle.jam_effects.specs.Machines.{machine}
use Rattle.jam_effects.specs.Does.{Tells}
use Rattle.jam_effects.specs.Views.{value}
use Rattle.jam_interp.specs.FunctionParts.{call_rolled_at}
use Rattle.jam_interp.specs.FunctionParts.{call_value}
use Rattle.jam_interp.proofs.StepTextsAreMadeAside.{newest_again}
use Rattle.jam_interp.proofs.MarkedWorldsComeBack.{call_rolls, same_fault}
use Rattle.jam_interp.proofs.rolled.call_rolled.Goals as goal

pub roll_back-requires : goal.roll_back-requires
roll_back-requires g c = newest_again c.args.world.now c.mark.new.self c.call-ended.new.world c.in_ok-mark.mark c.in_ok-mark.ensures.ok c.call-ended.ensures.stays.marks c.in_ok-mark.ensures.mark

pub returns-in_err-value-clause-told : goal.returns-in_err-value-clause-told
returns-in_err-value-clause-told g c =
    let before = machine c.args.world.now c.args.turns.now (g.N.Natives.kept c.args.natives.now) (g.N.Natives.meaning c.args.natives.now) (g.F.Files.outside c.args.files.now) in
    let ended = machine c.call-ended.new.world c.call-ended.new.turns (g.N.Natives.kept c.call-ended.new.natives) (g.N.Natives.meaning c.call-ended.new.natives) (g.F.Files.outside c.call-ended.new.files) in
    let p = err_from_is_err_and c.from_residual-in_err-value.result c.from_residual-in_err-value.ensures.1 in
    subst (λ result. Tells call_value (call_rolled_at c.args.rule.now c.args.args.now) before (record ended { worlds = c.roll_back.new.self }) result) (sym (p.1 ∙ ap Err p.2))
    (same_fault value call_value (call_rolled_at c.args.rule.now c.args.args.now) before (record ended { worlds = c.roll_back.new.self }) c.in_err-value.field-0.0
    (subst (λ name. Tells value (call_rolled_at name c.args.args.now) before (record ended { worlds = c.roll_back.new.self }) (Err c.in_err-value.field-0.0)) c.in_ok-name.ensures
    (call_rolls c.in_ok-name.name c.args.args.now (record { path = c.in_ok-nowhere.nowhere; line = 0 }) 256 before c.mark.new.self ended c.roll_back.new.self (Err c.in_err-value.field-0.0)
    (ap (λ text. let spot : Spot = record { path = text; line = 0 } in spot) c.in_ok-nowhere.ensures) refl c.in_ok-mark.ensures.ok c.in_err-value.ensures c.roll_back.ensures)))

pub returns-clause-told : goal.returns-clause-told
returns-clause-told g c =
    let before = machine c.args.world.now c.args.turns.now (g.N.Natives.kept c.args.natives.now) (g.N.Natives.meaning c.args.natives.now) (g.F.Files.outside c.args.files.now) in
    let ended = machine c.call-ended.new.world c.call-ended.new.turns (g.N.Natives.kept c.call-ended.new.natives) (g.N.Natives.meaning c.call-ended.new.natives) (g.F.Files.outside c.call-ended.new.files) in
    subst (λ name. Tells value (call_rolled_at name c.args.args.now) before (record ended { worlds = c.roll_back.new.self }) (Ok c.in_ok-value.value)) c.in_ok-name.ensures
    (call_rolls c.in_ok-name.name c.args.args.now (record { path = c.in_ok-nowhere.nowhere; line = 0 }) 256 before c.mark.new.self ended c.roll_back.new.self (Ok c.in_ok-value.value)
    (ap (λ text. let spot : Spot = record { path = text; line = 0 } in spot) c.in_ok-nowhere.ensures) refl c.in_ok-mark.ensures.ok c.in_ok-value.ensures c.roll_back.ensures)
