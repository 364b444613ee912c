use Rattle.std.proofs.Common.{ap, ◌∙◌}
use Rattle.std.proofs.lemmas.Result.{err_from_is_err_and}
use Rattle.jam_effects.specs.Machines.{machine}
use Rattle.jam_interp.specs.FunctionParts.{in_step_at}
use Rattle.jam_meaning.specs.StepJobs.{job_of, step_answer}
use Rattle.jam_interp.proofs.StepTextsAreMadeAside.{aside_ends, aside_fails, aside_texts, step_opened}
use Rattle.jam_interp.proofs.step.in_step.Goals as goal

pub returns-in_err-open_step : goal.returns-in_err-open_step
returns-in_err-open_step g c =
    let p = err_from_is_err_and c.from_residual.result c.from_residual.ensures.1 in
    rw p.1
    (aside_ends step_answer (in_step_at (job_of c.args.job.now))
    (machine c.args.world.now c.args.turns.now (g.N.Natives.kept c.args.natives.now) (g.N.Natives.meaning c.args.natives.now) (g.F.Files.outside c.args.files.now)) c.open_step.new.self p.0 (ap (λ ws. ws.marked) c.in_err-open_step.ensures.err) p.2)

pub returns-in_err-enter : goal.returns-in_err-enter
returns-in_err-enter g c =
    let p = err_from_is_err_and c.from_residual-in_err-enter.result c.from_residual-in_err-enter.ensures.1 in
    rw p.1
    (aside_ends step_answer (in_step_at (job_of c.args.job.now))
    (machine c.args.world.now c.args.turns.now (g.N.Natives.kept c.args.natives.now) (g.N.Natives.meaning c.args.natives.now) (g.F.Files.outside c.args.files.now)) c.enter.new.self p.0
    (ap (λ ws. ws.marked) (c.in_err-enter.ensures.err ∙ c.in_ok-open_step.ensures.ok)) p.2)

pub returns-in_err-_value : goal.returns-in_err-_value
returns-in_err-_value g c =
    let p = err_from_is_err_and c.from_residual-in_err-_value.result c.from_residual-in_err-_value.ensures.1 in
    rw (p.1, p.2)
    (aside_fails (job_of c.args.job.now) c.args.at.now (machine c.args.world.now c.args.turns.now (g.N.Natives.kept c.args.natives.now) (g.N.Natives.meaning c.args.natives.now) (g.F.Files.outside c.args.files.now)) c.enter.new.self _ c.in_err-_value.field-0.0
    c.requires.spot
    (step_opened (job_of c.args.job.now) c.args.world.now c.open_step.new.self c.enter.new.self c.as_slice.result.now c.as_slice-2.result.now c.as_str.result.now c.as_slice.ensures c.as_slice-2.ensures c.as_str.ensures.value c.in_ok-open_step.ensures.ok c.in_ok-enter.ensures.ok)
    c.in_err-_value.ensures)

pub returns : goal.returns
returns g c =
    aside_texts (job_of c.args.job.now) c.args.at.now (machine c.args.world.now c.args.turns.now (g.N.Natives.kept c.args.natives.now) (g.N.Natives.meaning c.args.natives.now) (g.F.Files.outside c.args.files.now)) c.enter.new.self _ c.actions_text.new.world
    c.in_ok-_value._value c.actions_text.result c.requires.spot
    (step_opened (job_of c.args.job.now) c.args.world.now c.open_step.new.self c.enter.new.self c.as_slice.result.now c.as_slice-2.result.now c.as_str.result.now c.as_slice.ensures c.as_slice-2.ensures c.as_str.ensures.value c.in_ok-open_step.ensures.ok c.in_ok-enter.ensures.ok)
    c.in_ok-_value.ensures c.actions_text.ensures.marked c.actions_text.ensures.answer
