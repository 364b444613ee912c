use Rattle.std.proofs.Common.{◌∙◌, List, ℕ, Err, IfErr, sym, subst}
use Rattle.std.proofs.lemmas.Result.{err_from_is_err_and}
use Rattle.jam_graph.specs.Loading.{IsWhole}
use Rattle.jam_engine.specs.Planning.{IsPlannedOf}
use Rattle.jam_engine.specs.Plans.{requested}
use Rattle.jam_engine.proofs.PlansMade.{unknown_stops}
use Rattle.jam_engine.proofs.PlanRefusalsAreWhole.{index_whole, looked_whole}
use Rattle.jam_engine.proofs.plan.jam_plan.Goals as goal

pub returns-in_err-index-clause-planned : goal.returns-in_err-index-clause-planned
returns-in_err-index-clause-planned g c stands sees =
    let graph = c.args.graph.now in
    let words = c.args.targets.now in
    let names = c.as_slice-names.result.now in
    let fault = c.in_err-index.field-0.0 in
    let (y, e, q) = err_from_is_err_and c.from_residual-in_err-index.result c.from_residual-in_err-index.ensures.1 in
    subst (λ r. IsPlannedOf graph stands (requested words) r) (sym e)
    (subst (λ z. IsPlannedOf graph stands (requested words) (Err z)) (sym q)
    (subst (λ (l : List (List ℕ)). IsPlannedOf graph stands l (Err fault)) (c.as_slice-names.ensures ∙ c.in_ok-owned.ensures) (unknown_stops graph stands names fault c.in_err-index.ensures.known)))

pub returns-clause-planned : goal.returns-clause-planned
returns-clause-planned g c stands sees =
    subst (λ (l : List (List ℕ)). IsPlannedOf c.args.graph.now stands l c.plan_of.result) (c.as_slice-names.ensures ∙ c.in_ok-owned.ensures) (c.plan_of.ensures.plan stands (c.in_ok-scene.ensures.found.1 stands sees))

pub returns-in_err-index-clause-whole : goal.returns-in_err-index-clause-whole
returns-in_err-index-clause-whole g c =
    let (y, e, q) = err_from_is_err_and c.from_residual-in_err-index.result c.from_residual-in_err-index.ensures.1 in
    subst (λ r. IfErr r IsWhole) (sym e) (subst IsWhole (sym q) (index_whole c.args.graph.now c.as_slice-names.result.now c.in_err-index.field-0.0 c.in_err-index.ensures.known))

pub returns-in_err-scene-clause-whole : goal.returns-in_err-scene-clause-whole
returns-in_err-scene-clause-whole g c =
    let (y, e, q) = err_from_is_err_and c.from_residual-in_err-scene.result c.from_residual-in_err-scene.ensures.1 in
    subst (λ r. IfErr r IsWhole) (sym e) (subst IsWhole (sym q) (looked_whole _ _ c.in_err-scene.field-0.0 _ c.in_err-scene.ensures.found))
