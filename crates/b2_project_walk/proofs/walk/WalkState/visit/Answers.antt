use Rattle.std.proofs.Common.{Err, sym, ap, ◌∙◌, subst}
use Rattle.std.proofs.lemmas.Result.{err_from_is_err_and}
use Rattle.b2_project_walk.specs.WalkParts.{stand, visits_dir, Does}
use Rattle.b2_project_walk.proofs.VisitDoesWhatIsDefined.{looked_at, IsFoundAt, look_refused, file_there}
use Rattle.b2_project_walk.proofs.walk.WalkState.visit.Goals as goal

pub returns-in_err-find_file : goal.returns-in_err-find_file
returns-in_err-find_file g c =
    let a = stand c.args.self.now c.args.turns.now (g.F.Files.outside c.args.files.now) in
    let outside = g.F.Files.outside c.find_file.new.files in
    let p = err_from_is_err_and c.from_residual.result c.from_residual.ensures.1 in
    subst (λ result. Does (visits_dir c.args.dir.now) a (looked_at a outside) result) (sym (p.1 ∙ ap Err p.2))
    (look_refused c.args.dir.now a outside c.in_err-find_file.field-0.0 c.in_err-find_file.ensures.effect)

pub returns-in-Some : goal.returns-in-Some
returns-in-Some g c =
    let a = stand c.args.self.now c.args.turns.now (g.F.Files.outside c.args.files.now) in
    let d = stand c.visit_file.new.self c.visit_file.new.turns (g.F.Files.outside c.visit_file.new.files) in
    let effect = c.in_ok-find_file.ensures.effect in
    file_there c.args.dir.now a (g.F.Files.outside c.find_file.new.files) d c.in-Some.file c.visit_file.result (sym c.has.ensures ∙ c.if-has.false) effect.looked effect.counts
    (subst (λ found. IsFoundAt c.args.dir.now a found) c.in-Some.is c.in_ok-find_file.ensures.told) c.visit_file.ensures
