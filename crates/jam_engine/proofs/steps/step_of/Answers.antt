use Rattle.std.proofs.Common.{IfErr, ◌∙◌, List, ℕ, not, Option, Some, Err, sym, ap, ap₂, subst}
use Rattle.std.specs.List.{find}
use Rattle.std.specs.Option.{option_copied}
use Rattle.std.proofs.lemmas.Result.{err_from_is_err_and}
use Rattle.jam_graph.specs.declared.graph.Graph.{Graph}
use Rattle.jam_graph.specs.Loading.{IsWhole}
use Rattle.jam_engine.specs.Acts.{acts_at}
use Rattle.jam_engine.specs.Steps.{whole_text}
use Rattle.jam_engine.specs.Stepping.{IsMadeStep, IsStepFor}
use Rattle.jam_engine.specs.Targets.{is_below_roots}
use Rattle.jam_engine.proofs.StepsJoin.{none_mixed, mixed_stops, texts_stop, outside_stops, step_made}
use Rattle.jam_engine.proofs.PlanRefusalsAreWhole.{mixed_whole}
use Rattle.jam_engine.proofs.steps.step_of.Goals as goal

pub returns-in_err-check_mixed-clause-step : goal.returns-in_err-check_mixed-clause-step
returns-in_err-check_mixed-clause-step c stands h =
    let g = c.args.graph.now in
    let scene = c.args.scene.now in
    let set = acts_at c.args.acts.now c.args.set.now in
    let targets = c.as_slice-targets.result.now in
    let (y, e, q) = err_from_is_err_and c.from_residual-in_err-check_mixed.result c.from_residual-in_err-check_mixed.ensures.1 in
    subst (λ r. IsStepFor g stands set r) (sym e)
    (subst (λ z. IsStepFor g stands set (Err z)) (sym q) (mixed_stops g scene stands set targets (c.as_slice-targets.ensures ∙ c.in_ok-owned.ensures) h c.in_err-check_mixed.field-0.0 c.in_err-check_mixed.ensures))

pub returns-in_err-texts-clause-step : goal.returns-in_err-texts-clause-step
returns-in_err-texts-clause-step c stands h =
    let g = c.args.graph.now in
    let scene = c.args.scene.now in
    let set = acts_at c.args.acts.now c.args.set.now in
    let targets = c.as_slice-targets.result.now in
    let targets_are = c.as_slice-targets.ensures ∙ c.in_ok-owned.ensures in
    let pure = none_mixed g scene stands set targets targets_are h c.in_ok-check_mixed.ensures in
    let (y, e, q) = err_from_is_err_and c.from_residual-in_err-texts.result c.from_residual-in_err-texts.ensures.1 in
    subst (λ r. IsStepFor g stands set r) (sym e)
    (subst (λ z. IsStepFor g stands set (Err z)) (sym q) (texts_stop g scene stands set targets targets_are h pure c.in_err-texts.field-0.0 (c.in_err-texts.ensures.texts stands h)))

pub returns-in-Some-clause-step : goal.returns-in-Some-clause-step
returns-in-Some-clause-step c stands h =
    let g = c.args.graph.now in
    let scene = c.args.scene.now in
    let set = acts_at c.args.acts.now c.args.set.now in
    let targets = c.as_slice-targets.result.now in
    let targets_are = c.as_slice-targets.ensures ∙ c.in_ok-owned.ensures in
    let pure = none_mixed g scene stands set targets targets_are h c.in_ok-check_mixed.ensures in
    let step = c.in_ok-step.step in
    let made = subst (λ (k : Graph). IsMadeStep k scene set targets c.in_ok-text.text step) c.in_ok-texts.ensures.same c.in_ok-step.ensures in
    let found = sym c.first_outside.ensures.exact ∙ ap option_copied c.in-Some.is ∙ ap (λ (x : List ℕ). let o : Option (List ℕ) = Some x in o) (sym c.in_ok-copy.ensures) in
    outside_stops g scene stands set targets targets_are h pure c.in_ok-texts.texts c.in_ok-text.text step (c.in_ok-texts.ensures.texts stands h) (c.in_ok-text.ensures ∙ ap whole_text c.as_slice.ensures) made c.in_ok-copy.field-0
    (ap₂ (λ (r l : List (List ℕ)). find (λ out. not (is_below_roots r out)) l) (sym c.as_slice-2.ensures) (sym c.as_slice-3.ensures) ∙ found)

pub returns-clause-step : goal.returns-clause-step
returns-clause-step c stands h =
    let g = c.args.graph.now in
    let scene = c.args.scene.now in
    let set = acts_at c.args.acts.now c.args.set.now in
    let targets = c.as_slice-targets.result.now in
    let targets_are = c.as_slice-targets.ensures ∙ c.in_ok-owned.ensures in
    let pure = none_mixed g scene stands set targets targets_are h c.in_ok-check_mixed.ensures in
    let step = c.in_ok-step.step in
    let made = subst (λ (k : Graph). IsMadeStep k scene set targets c.in_ok-text.text step) c.in_ok-texts.ensures.same c.in_ok-step.ensures in
    let found = sym c.first_outside.ensures.exact ∙ ap option_copied c.in_default.is in
    step_made g scene stands set targets targets_are h pure c.in_ok-texts.texts c.in_ok-text.text step (c.in_ok-texts.ensures.texts stands h) (c.in_ok-text.ensures ∙ ap whole_text c.as_slice.ensures) made
    (ap₂ (λ (r l : List (List ℕ)). find (λ out. not (is_below_roots r out)) l) (sym c.as_slice-2.ensures) (sym c.as_slice-3.ensures) ∙ found)

pub returns-in_err-check_mixed-clause-whole : goal.returns-in_err-check_mixed-clause-whole
returns-in_err-check_mixed-clause-whole c =
    let (y, e, q) = err_from_is_err_and c.from_residual-in_err-check_mixed.result c.from_residual-in_err-check_mixed.ensures.1 in
    subst (λ r. IfErr r IsWhole) (sym e) (subst IsWhole (sym q) (mixed_whole c.args.scene.now c.as_slice-targets.result.now c.in_err-check_mixed.field-0.0 c.in_err-check_mixed.ensures))
