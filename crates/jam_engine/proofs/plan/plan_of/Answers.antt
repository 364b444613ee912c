use Rattle.std.proofs.Common.{◌∙◌, List, ℕ, Bool, Err, sym, subst}
use Rattle.std.proofs.lemmas.Result.{err_from_is_err_and}
use Rattle.b2_plan.specs.declared.step.Step.{Step}
use Rattle.b2_plan.specs.Plans.{Apart}
use Rattle.jam_graph.specs.declared.graph.Graph.{Graph}
use Rattle.jam_engine.specs.Planning.{IsPlannedOf}
use Rattle.jam_engine.specs.Spreading.{SpreadsTo}
use Rattle.jam_engine.specs.Stepping.{ArePlaced}
use Rattle.jam_engine.specs.Tables.{IsScene}
use Rattle.jam_engine.proofs.ActsFinished.{acts_are}
use Rattle.jam_engine.proofs.PlansMade.{plan_stops, plan_made, sets_within, bin_is_root, steps_in_roots}
use Rattle.jam_engine.proofs.plan.plan_of.Goals as goal

pub steps_of-requires-clause-within : goal.steps_of-requires-clause-within
steps_of-requires-clause-within c = sets_within c.as_slice-acts.result.now c.in_ok-sets.sets.items c.in_ok-sets.ensures

pub returns-in_err-builder-clause-plan : goal.returns-in_err-builder-clause-plan
returns-in_err-builder-clause-plan c stands h =
    let g = c.args.graph.now in
    let targets = c.args.targets.now in
    let list = c.as_slice-acts.result.now in
    let list_is = c.as_slice-acts.ensures ∙ c.in_ok-owned.ensures.exact ∙ acts_are g stands c.args.scene.now h c.in_ok-owned.ensures.known in
    let (y, e, q) = err_from_is_err_and c.from_residual-in_err-builder.result c.from_residual-in_err-builder.ensures.1 in
    subst (λ r. IsPlannedOf g stands targets r) (sym e)
    (subst (λ z. IsPlannedOf g stands targets (Err z)) (sym q)
    (plan_stops g stands targets c.requires.known list c.in_ok-sets.sets.items list_is c.in_ok-sets.ensures c.in_err-builder.field-0.0 (c.in_err-builder.ensures.steps stands h)))

pub returns-clause-plan : goal.returns-clause-plan
returns-clause-plan c stands h =
    let g = c.args.graph.now in
    let scene = c.args.scene.now in
    let targets = c.args.targets.now in
    let list = c.as_slice-acts.result.now in
    let wanted = c.in_ok-wanted.wanted in
    let list_is = c.as_slice-acts.ensures ∙ c.in_ok-owned.ensures.exact ∙ acts_are g stands scene h c.in_ok-owned.ensures.known in
    let spreads = subst (λ (k : Graph). (st : List ℕ → Bool) → IsScene k st scene → SpreadsTo k st targets wanted) c.in_ok-builder.ensures.same c.in_ok-wanted.ensures stands h in
    plan_made g stands targets c.requires.known list c.in_ok-sets.sets.items list_is c.in_ok-sets.ensures c.in_ok-builder.builder wanted c.in_ok-roots.roots c.in_ok-new.field-0 (c.in_ok-builder.ensures.steps stands h) spreads
    (c.in_ok-roots.ensures ∙ c.as_slice.ensures ∙ h.roots) (c.in_ok-new.ensures.steps ∙ c.into_steps.ensures.steps) c.in_ok-new.ensures.wanted c.in_ok-new.ensures.roots

pub returns-clause-apart : goal.returns-clause-apart
returns-clause-apart c =
    let scene = c.args.scene.now in
    let under = c.in_ok-roots.roots in
    let steps = c.into_steps.result in
    let under_is = c.in_ok-roots.ensures ∙ c.as_slice.ensures in
    let placed = subst (λ (r : List (List ℕ)). ArePlaced r steps) (sym under_is) (subst (λ (l : List Step). ArePlaced scene.roots l) (sym c.into_steps.ensures.steps) c.in_ok-builder.ensures.placed) in
    let apart = c.into_steps.ensures.apart under (steps_in_roots under steps placed (bin_is_root c.args.graph.now under (under_is ∙ c.requires.roots))) in
    subst (λ (l : List Step). Apart l c.in_ok-new.field-0.roots) (sym c.in_ok-new.ensures.steps) (subst (λ (r : List (List ℕ)). Apart steps r) (sym c.in_ok-new.ensures.roots) apart)
