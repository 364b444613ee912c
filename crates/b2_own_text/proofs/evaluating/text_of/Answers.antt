use Rattle.std.proofs.Common.{sym, subst}
use Rattle.std.specs.Option.{option_copied}
use Rattle.jam_meaning.specs.StepJobs.{job_of, step_answer}
use Rattle.b2_own_text.specs.EvaluationParts.{Evaluates, text_of_at}
use Rattle.b2_own_text.proofs.evaluating.text_of.Goals as goal

pub returns-in-Some-clause-does : goal.returns-in-Some-clause-does
returns-in-Some-clause-does g c =
    subst (λ p. Evaluates step_answer (text_of_at (option_copied p) (job_of c.args.job.now)) c.args.world.now (g.F.Files.outside c.args.files.now) (g.F.Files.outside c.text_in.new.files) c.text_in.result)
    (sym c.in-Some.is) c.text_in.ensures.does

pub returns-in-None-clause-does : goal.returns-in-None-clause-does
returns-in-None-clause-does g c =
    subst (λ p. Evaluates step_answer (text_of_at (option_copied p) (job_of c.args.job.now)) c.args.world.now (g.F.Files.outside c.args.files.now) (g.F.Files.outside c.text_there.new.files) c.text_there.result)
    (sym c.in-None.is) c.text_there.ensures.does
