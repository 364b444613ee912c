use Rattle.std.proofs.lemmas.Result.{err_from_is_err_and}
use Rattle.jam_meaning.specs.StepJobs.{job_of}
use Rattle.b2_making.proofs.ExitsKeepThePromise.{exit}
use Rattle.b2_making.proofs.StepsAreMadeAsPromised.{asks_refused, asks_memory, asks_joined}
use Rattle.b2_making.proofs.run.ask.Goals as goal

pub returns-in_err-text : goal.returns-in_err-text
returns-in_err-text g c =
    let (y, e, q) = err_from_is_err_and c.from_residual.result c.from_residual.ensures.1 in
    exit e q (asks_refused g.V.Evaluate.answers g.V.Evaluate.kept g.V.Evaluate.faults g.V.Evaluate.is_host_fault g.V.Evaluate.is_out_of_memory g.V.Evaluate.CanFault c.args.setting.now c.args.site.now (job_of c.args.job) c.in_err-text.field-0.0 c.args.evaluator.now c.text_of.new.evaluator c.args.builder.now c.in_err-text.ensures)

pub returns-in_err-step : goal.returns-in_err-step
returns-in_err-step g c =
    let (y, e, q) = err_from_is_err_and c.from_residual-in_err-step.result c.from_residual-in_err-step.ensures.1 in
    exit e q (asks_memory g.V.Evaluate.answers g.V.Evaluate.kept g.V.Evaluate.faults g.V.Evaluate.is_host_fault g.V.Evaluate.is_out_of_memory g.V.Evaluate.CanFault c.args.setting.now c.args.site.now (job_of c.args.job) c.in_ok-text.text c.args.evaluator.now c.text_of.new.evaluator c.args.builder.now c.in_ok-text.ensures)

pub returns : goal.returns
returns g c =
    asks_joined g.V.Evaluate.answers g.V.Evaluate.kept g.V.Evaluate.faults g.V.Evaluate.is_host_fault g.V.Evaluate.is_out_of_memory g.V.Evaluate.CanFault c.args.setting.now c.args.site.now (job_of c.args.job) c.in_ok-text.text c.in_ok-step.step c.args.evaluator.now c.text_of.new.evaluator c.args.builder.now c.join.new.builder c.join.result c.in_ok-step.ensures c.requires c.in_ok-text.ensures c.join.ensures
