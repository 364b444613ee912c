use Rattle.std.proofs.Common.{ap, ◌∙◌}
use Rattle.std.proofs.lemmas.Result.{err_from_is_err_and}
use Rattle.jam_meaning.specs.Faults.{Spot}
use Rattle.b2_own_text.specs.EvaluationParts.{in_project_at, texts}
use Rattle.b2_own_text.proofs.EvaluationsGiveWhatIsTold.{no_memory_left, call_entered}
use Rattle.b2_own_text.proofs.evaluating.call_in.Goals as goal

pub returns-in_err-enter-clause-does : goal.returns-in_err-enter-clause-does
returns-in_err-enter-clause-does g c =
    let p = err_from_is_err_and c.from_residual.result c.from_residual.ensures.1 in
    no_memory_left texts (in_project_at c.args.project.now c.args.rule.now c.args.line c.args.properties.now) c.args.world.now (g.F.Files.outside c.args.files.now) c.from_residual.result p.0 p.1 p.2

pub returns-clause-does : goal.returns-clause-does
returns-clause-does g c =
    call_entered c.args.project.now c.args.rule.now c.args.line c.args.properties.now (record { path = c.as_text.result.now; line = c.args.line }) c.args.world.now c.enter.new.world
    (g.F.Files.outside c.args.files.now) (g.F.Files.outside c.call_found.new.files) c.call_found.result c.in_ok-enter.ensures.ok (ap (λ path. let spot : Spot = record { path = path; line = c.args.line } in spot) c.as_text.ensures.value)
    c.call_found.ensures.does

pub returns-clause-marked : goal.returns-clause-marked
returns-clause-marked g c = ap (λ ws. ws.marked) c.call_found.ensures.world ∙ c.enter.ensures.marked
