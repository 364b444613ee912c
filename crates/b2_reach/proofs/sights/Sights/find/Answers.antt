use Rattle.std.proofs.Common.{◌∙◌, [], ◌∷◌, Err, ap}
use Rattle.std.proofs.lemmas.Result.{err_from_is_err_and}
use Rattle.b2_reach.specs.Files.{IsMakerOf}
use Rattle.b2_reach.proofs.GrowthComposes.{grows_err_as}
use Rattle.b2_reach.proofs.ScansAreNoted.{look_same, look_io}
use Rattle.b2_facts.specs.Stops.{stop_of_io}
use Rattle.b2_reach.proofs.sights.Sights.find.Goals as goal

pub returns-in_err-find_includes-clause-grows : goal.returns-in_err-find_includes-clause-grows
returns-in_err-find_includes-clause-grows g c notes =
    let (y, e, q) = err_from_is_err_and c.from_residual.result c.from_residual.ensures.1 in
    let s = c.args.self.now in
    let fault = c.in_err-find_includes.field-0.0 in
    grows_err_as (stop_of_io fault) c.from_residual.result (e ∙ ap Err q)
    (look_io c.args.plan.now.steps c.args.plan.now.roots (IsMakerOf s.facts c.args.number) s c.find_includes.new.self c.find_includes.ensures.learns (g.F.Files.outside c.args.files.now) c.find_includes.ensures.told {T = Unit {0}} (c.args.number ∷ []) (g.F.Files.outside c.find_includes.new.files) fault c.in_err-find_includes.ensures.effect)

pub returns-clause-grows : goal.returns-clause-grows
returns-clause-grows g c notes =
    let s = c.args.self.now in
    look_same c.args.plan.now.steps c.args.plan.now.roots (IsMakerOf s.facts c.args.number) s c.find_includes.new.self c.find_includes.ensures.learns (g.F.Files.outside c.args.files.now) c.find_includes.ensures.told (c.args.number ∷ []) (g.F.Files.outside c.find_includes.new.files) tt c.in_ok-find_includes.ensures.effect
