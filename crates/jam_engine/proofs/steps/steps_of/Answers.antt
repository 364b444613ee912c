use Rattle.std.proofs.Common.{◌∙◌, ◌+◌, [], List, ℕ, Ok, Err, map, take, drop, refl, sym, ap, subst}
use Rattle.std.proofs.lemmas.List.{take_all}
use Rattle.std.proofs.lemmas.Result.{err_from_is_err_and}
use Rattle.b2_plan.specs.declared.step.Step.{Step}
use Rattle.jam_graph.specs.declared.graph.Act.{Act}
use Rattle.jam_graph.specs.declared.graph.Graph.{Graph}
use Rattle.jam_engine.specs.Acts.{acts_at}
use Rattle.jam_engine.specs.Plans.{Joins}
use Rattle.jam_engine.specs.Stepping.{ArePlaced, JoinsBy, AreStepsFor, AreSteps}
use Rattle.jam_engine.proofs.ActsAtPlaces.{same_read, map_taken, map_whole}
use Rattle.jam_engine.proofs.StepsJoin.{none_joined, step_more, set_stops}
use Rattle.jam_engine.proofs.steps.steps_of.Goals as goal

pub loop-set-init : goal.loop-set-init
loop-set-init c = record {
  placed = subst (ArePlaced c.args.scene.now.roots) (sym c.new-builder.ensures) tt;
  same = refl;
  steps = λ stands h. subst (λ (l : List Step). Joins c.args.graph.now stands [] [] (Ok l)) (sym c.new-builder.ensures) (none_joined c.args.graph.now c.args.scene.now stands h);
}

pub returns-in_err-add_step-clause-steps : goal.returns-in_err-add_step-clause-steps
returns-in_err-add_step-clause-steps c stands h =
    let g = c.args.graph.now in
    let scene = c.args.scene.now in
    let acts = c.args.acts.now in
    let items = c.deref-set-items.result.now in
    let i = c.loop-set.set-index in
    let place = c.as_slice.result.now in
    let steps = c.loop-set.builder in
    let after = c.add_step.new.builder in
    let fault = c.in_err-add_step.field-0.0 in
    let (y, e, q) = err_from_is_err_and c.from_residual.result c.from_residual.ensures.1 in
    let read = same_read items i place c.set-item.result c.loop-set-test.true (c.as_slice.ensures ∙ c.set-item.is) in
    let whole = map_whole (acts_at acts) items i place c.loop-set-test.true read ∙ ap (map (acts_at acts)) c.deref-set-items.ensures.value in
    let before = subst (λ (k : Graph). AreSteps k scene (map (acts_at acts) (take i items)) (Ok steps)) c.loop-set.invariant.same c.loop-set.invariant.steps stands h in
    let joined = subst (λ (k : Graph). JoinsBy k scene steps (acts_at acts place) after (Err fault)) c.loop-set.invariant.same c.in_err-add_step.ensures.joins stands h in
    subst (λ r. AreStepsFor g stands (map (acts_at acts) c.args.sets.now.items) r) (sym e)
    (subst (λ z. AreStepsFor g stands (map (acts_at acts) c.args.sets.now.items) (Err z)) (sym q)
    (subst (λ (l : List (List Act)). AreStepsFor g stands l (Err fault)) whole
    (set_stops g stands (map (acts_at acts) (take i items)) (map (acts_at acts) (drop (i + 1) items)) (acts_at acts place) steps before after fault joined)))

pub loop-set-preserved : goal.loop-set-preserved
loop-set-preserved c =
    let scene = c.args.scene.now in
    let acts = c.args.acts.now in
    let items = c.deref-set-items.result.now in
    let i = c.loop-set.set-index in
    let place = c.as_slice.result.now in
    let after = c.add_step.new.builder in
    let read = same_read items i place c.set-item.result c.loop-set-test.true (c.as_slice.ensures ∙ c.set-item.is) in
    record {
      placed = c.in_ok-add_step.ensures.placed c.loop-set.invariant.placed;
      same = c.in_ok-add_step.ensures.same ∙ c.loop-set.invariant.same;
      steps = subst (λ (k : Graph). AreSteps k scene (map (acts_at acts) (take (i + 1) items)) (Ok after)) (sym c.in_ok-add_step.ensures.same)
          (subst (λ (l : List (List Act)). AreSteps c.loop-set.graph scene l (Ok after)) (map_taken (acts_at acts) items i place c.loop-set-test.true read)
          (step_more c.loop-set.graph scene (map (acts_at acts) (take i items)) (acts_at acts place) c.loop-set.builder after c.loop-set.invariant.steps c.in_ok-add_step.ensures.joins));
    }

pub returns-clause-steps : goal.returns-clause-steps
returns-clause-steps c stands h =
    let scene = c.args.scene.now in
    let acts = c.args.acts.now in
    let items = c.deref-set-items.result.now in
    let i = c.loop-set.set-index in
    subst (λ (k : Graph). AreSteps k scene (map (acts_at acts) c.args.sets.now.items) (Ok c.loop-set.builder)) c.loop-set.invariant.same
    (subst (λ (l : List (List ℕ)). AreSteps c.loop-set.graph scene (map (acts_at acts) l) (Ok c.loop-set.builder)) (take_all i items c.loop-set-test.false ∙ c.deref-set-items.ensures.value) c.loop-set.invariant.steps) stands h
