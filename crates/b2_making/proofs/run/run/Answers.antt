use Rattle.std.proofs.lemmas.Result.{err_from_is_err_and}
use Rattle.std.proofs.Common.{sym, ap, subst}
use Rattle.jam_meaning.specs.Rolled.{Job}
use Rattle.jam_meaning.specs.StepJobs.{job_of}
use Rattle.b2_making.specs.Answers.{AreHoused}
use Rattle.b2_making.proofs.ExitsKeepThePromise.{exit, exit_first}
use Rattle.b2_making.proofs.StepsAreMadeAsPromised.{housed, job_read, runs_unplaced, runs_refused, runs_made}
use Rattle.b2_making.proofs.run.run.Goals as goal

pub ask-requires : goal.ask-requires
ask-requires g c =
    subst (AreHoused c.args.setting.now.roots.now) (sym (ap (λ (j : Job). j.outs) (job_read c.args.site.now c.args.name.now c.as_slice-outs.result.now c.in_ok-made.made c.args.ins (job_of c.in_ok-job.job) c.in_ok-job.ensures c.as_slice-outs.ensures))) (housed c.args.setting.now c.args.site.now c.args.outputs.now c.in_ok-made.made c.requires.some c.in_ok-made.ensures)

pub returns-in_err-made : goal.returns-in_err-made
returns-in_err-made g c =
    let (y, e, q) = err_from_is_err_and c.from_residual.result c.from_residual.ensures.1 in
    exit e q (runs_unplaced g.V.Evaluate.answers g.V.Evaluate.kept g.V.Evaluate.faults g.V.Evaluate.is_host_fault g.V.Evaluate.is_out_of_memory g.V.Evaluate.CanFault c.args.setting.now c.args.site.now c.args.name.now c.args.ins c.args.outputs.now c.in_err-made.field-0.0 c.args.evaluator.now c.args.builder.now c.in_err-made.ensures)

pub returns-in_err-job : goal.returns-in_err-job
returns-in_err-job g c =
    let (y, e, q) = err_from_is_err_and c.from_residual-in_err-job.result c.from_residual-in_err-job.ensures.1 in
    exit_first e q

pub returns-in_err-ask : goal.returns-in_err-ask
returns-in_err-ask g c =
    let (y, e, q) = err_from_is_err_and c.from_residual-in_err-ask.result c.from_residual-in_err-ask.ensures.1 in
    exit e q
    (runs_refused g.V.Evaluate.answers g.V.Evaluate.kept g.V.Evaluate.faults g.V.Evaluate.is_host_fault
    g.V.Evaluate.is_out_of_memory g.V.Evaluate.CanFault c.args.setting.now c.args.site.now c.args.name.now
    c.args.ins c.args.outputs.now c.in_ok-made.made (job_of c.in_ok-job.job) c.in_err-ask.field-0.0
    c.args.evaluator.now c.ask.new.evaluator c.args.builder.now c.ask.new.builder (job_read c.args.site.now
    c.args.name.now c.as_slice-outs.result.now c.in_ok-made.made c.args.ins (job_of c.in_ok-job.job)
    c.in_ok-job.ensures c.as_slice-outs.ensures) c.in_ok-made.ensures c.in_err-ask.ensures)

pub returns : goal.returns
returns g c =
    runs_made g.V.Evaluate.answers g.V.Evaluate.kept g.V.Evaluate.faults g.V.Evaluate.is_host_fault
    g.V.Evaluate.is_out_of_memory g.V.Evaluate.CanFault c.args.setting.now c.args.site.now c.args.name.now
    c.args.ins c.args.outputs.now c.in_ok-made.made (job_of c.in_ok-job.job) c.args.evaluator.now
    c.ask.new.evaluator c.args.builder.now c.ask.new.builder (job_read c.args.site.now c.args.name.now
    c.as_slice-outs.result.now c.in_ok-made.made c.args.ins (job_of c.in_ok-job.job) c.in_ok-job.ensures
    c.as_slice-outs.ensures) c.in_ok-made.ensures c.in_ok-ask.ensures
