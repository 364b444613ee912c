use Rattle.std.proofs.Common.{Some, refl, ◌∙◌, subst}
use Rattle.jam_effects.specs.Machines.{machine}
use Rattle.jam_interp.specs.FunctionParts.{call_value, call_rolled_at}
use Rattle.jam_natives.specs.Rows.{jam_meaning}
use Rattle.jam_natives.specs.Seeing.{kept_of}
use Rattle.b2_own_text.specs.EvaluationParts.{Evaluates}
use Rattle.b2_own_text.proofs.EvaluationsGiveWhatIsTold.{evaluates, turns_are}
use Rattle.b2_own_text.proofs.evaluating.call_named.Goals as goal

pub returns-clause-does : goal.returns-clause-does
returns-clause-does g c =
    subst (λ name. Evaluates call_value (call_rolled_at name c.args.lists.now) c.args.world.now (g.F.Files.outside c.args.files.now) (g.F.Files.outside c.call_rolled.new.files) c.call_rolled.result) c.as_str.ensures.value
    (evaluates call_value (call_rolled_at c.as_str.result.now c.args.lists.now)
    (machine c.args.world.now c.new-turns.result (kept_of c.new-natives.result) (Some jam_meaning) (g.F.Files.outside c.args.files.now))
    (machine c.call_rolled.new.world c.call_rolled.new.turns (kept_of c.call_rolled.new.natives) (Some jam_meaning) (g.F.Files.outside c.call_rolled.new.files)) c.call_rolled.result
    (record { left = c.new-turns.ensures.left ∙ turns_are; budget = c.new-turns.ensures.budget ∙ turns_are; kept = c.new-natives.ensures; meaning = refl })
    c.call_rolled.ensures.told c.call_rolled.ensures.disk c.call_rolled.ensures.children c.call_rolled.ensures.keeps c.call_rolled.ensures.counts c.call_rolled.ensures.whole)
