use Rattle.std.proofs.Common.{ap, ◌∙◌}
use Rattle.std.proofs.lemmas.Result.{err_from_is_err_and}
use Rattle.jam_meaning.specs.StepJobs.{job_of, step_answer}
use Rattle.b2_own_text.specs.EvaluationParts.{text_placed_at, text_in_at}
use Rattle.b2_own_text.proofs.EvaluationsGiveWhatIsTold.{no_memory_left, undone, newest, back}
use Rattle.b2_own_text.proofs.evaluating.text_in.Goals as goal

pub returns-in_err-mark-clause-does : goal.returns-in_err-mark-clause-does
returns-in_err-mark-clause-does g c =
    let p = err_from_is_err_and c.from_residual.result c.from_residual.ensures.1 in
    no_memory_left step_answer (text_in_at c.args.project.now (job_of c.args.job.now)) c.args.world.now (g.F.Files.outside c.args.files.now) c.from_residual.result p.0 p.1 p.2

pub text_placed-ended-requires : goal.text_placed-ended-requires
text_placed-ended-requires g c = ap (λ ws. ws.now.step) c.in_ok-mark.ensures.ok ∙ c.requires

pub roll_back-requires : goal.roll_back-requires
roll_back-requires g c =
    newest c.args.world.now c.mark.new.self c.text_placed-ended.new.world c.in_ok-mark.mark c.in_ok-mark.ensures.ok c.text_placed-ended.ensures.marked c.in_ok-mark.ensures.mark

pub returns-clause-does : goal.returns-clause-does
returns-clause-does g c =
    undone step_answer (text_placed_at c.args.project.now (job_of c.args.job.now)) c.args.world.now c.mark.new.self (g.F.Files.outside c.args.files.now)
    (g.F.Files.outside c.text_placed-ended.new.files) c.text_placed-ended.result c.in_ok-mark.ensures.ok c.text_placed-ended.ensures.does

pub returns-clause-world : goal.returns-clause-world
returns-clause-world g c =
    back c.args.world.now c.mark.new.self c.text_placed-ended.new.world c.roll_back.new.self c.in_ok-mark.ensures.ok c.text_placed-ended.ensures.marked c.roll_back.ensures
