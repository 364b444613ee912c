use Rattle.std.proofs.Common.{◌∙◌, ap}
use Rattle.std.proofs.lemmas.Result.{err_from_is_err_and}
use Rattle.jam_meaning.specs.StepJobs.{job_of, step_answer}
use Rattle.b2_own_text.specs.EvaluationParts.{text_placed_at}
use Rattle.b2_own_text.proofs.EvaluationsGiveWhatIsTold.{no_memory_left, closed_there, text_there}
use Rattle.b2_own_text.proofs.evaluating.text_placed.Goals as goal

pub returns-in_err-go_to-clause-does : goal.returns-in_err-go_to-clause-does
returns-in_err-go_to-clause-does g c =
    let p = err_from_is_err_and c.from_residual.result c.from_residual.ensures.1 in
    no_memory_left step_answer (text_placed_at c.args.project.now (job_of c.args.job.now)) c.args.world.now (g.F.Files.outside c.args.files.now) c.from_residual.result p.0 p.1 p.2

pub text_there-requires : goal.text_there-requires
text_there-requires g c = closed_there c.args.project.now c.args.world.now c.go_to.new.world c.in_ok-go_to.ensures.ok c.requires

pub returns-clause-does : goal.returns-clause-does
returns-clause-does g c =
    text_there c.args.project.now (job_of c.args.job.now) c.args.world.now c.go_to.new.world (g.F.Files.outside c.args.files.now) (g.F.Files.outside c.text_there.new.files) c.text_there.result
    c.in_ok-go_to.ensures.ok c.text_there.ensures.does

pub returns-clause-marked : goal.returns-clause-marked
returns-clause-marked g c = ap (λ ws. ws.marked) c.text_there.ensures.world ∙ c.go_to.ensures.marked
