use Rattle.std.proofs.Common.{Some, refl, ◌∙◌}
use Rattle.jam_meaning.specs.StepJobs.{job_of, step_answer}
use Rattle.jam_effects.specs.Machines.{machine}
use Rattle.jam_interp.specs.FunctionParts.{step_text_at}
use Rattle.jam_natives.specs.Rows.{jam_meaning}
use Rattle.jam_natives.specs.Seeing.{kept_of}
use Rattle.b2_own_text.proofs.EvaluationsGiveWhatIsTold.{evaluates, turns_are}
use Rattle.b2_own_text.proofs.evaluating.text_there.Goals as goal

pub returns-clause-does : goal.returns-clause-does
returns-clause-does g c =
    evaluates step_answer (step_text_at (job_of c.args.job.now))
    (machine c.args.world.now c.new-turns.result (kept_of c.new-natives.result) (Some jam_meaning) (g.F.Files.outside c.args.files.now))
    (machine c.step_text.new.world c.step_text.new.turns (kept_of c.step_text.new.natives) (Some jam_meaning) (g.F.Files.outside c.step_text.new.files)) c.step_text.result
    (record { left = c.new-turns.ensures.left ∙ turns_are; budget = c.new-turns.ensures.budget ∙ turns_are; kept = c.new-natives.ensures; meaning = refl })
    c.step_text.ensures.told c.step_text.ensures.disk c.step_text.ensures.children c.step_text.ensures.keeps c.step_text.ensures.counts c.step_text.ensures.whole
