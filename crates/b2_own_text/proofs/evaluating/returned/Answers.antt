use Rattle.std.proofs.lemmas.Result.{err_from_is_err_and}
use Rattle.b2_own_text.specs.EvaluationParts.{in_project_at, returned_at, texts}
use Rattle.b2_own_text.proofs.EvaluationsGiveWhatIsTold.{no_memory_left, undone, newest, back}
use Rattle.b2_own_text.proofs.evaluating.returned.Goals as goal

pub returns-in_err-mark-clause-does : goal.returns-in_err-mark-clause-does
returns-in_err-mark-clause-does g c =
    let p = err_from_is_err_and c.from_residual.result c.from_residual.ensures.1 in
    no_memory_left texts (returned_at c.args.project.now c.args.rule.now c.args.line c.args.properties.now) c.args.world.now (g.F.Files.outside c.args.files.now) c.from_residual.result p.0 p.1 p.2

pub roll_back-requires : goal.roll_back-requires
roll_back-requires g c = newest c.args.world.now c.mark.new.self c.call_in-ended.new.world c.in_ok-mark.mark c.in_ok-mark.ensures.ok c.call_in-ended.ensures.marked c.in_ok-mark.ensures.mark

pub returns-clause-does : goal.returns-clause-does
returns-clause-does g c =
    undone texts (in_project_at c.args.project.now c.args.rule.now c.args.line c.args.properties.now) c.args.world.now c.mark.new.self (g.F.Files.outside c.args.files.now)
    (g.F.Files.outside c.call_in-ended.new.files) c.call_in-ended.result c.in_ok-mark.ensures.ok c.call_in-ended.ensures.does

pub returns-clause-world : goal.returns-clause-world
returns-clause-world g c = back c.args.world.now c.mark.new.self c.call_in-ended.new.world c.roll_back.new.self c.in_ok-mark.ensures.ok c.call_in-ended.ensures.marked c.roll_back.ensures
