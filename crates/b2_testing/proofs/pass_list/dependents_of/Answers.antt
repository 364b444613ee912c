use Rattle.std.proofs.Common.{◌≡◌, ◌<◌, length, refl, ap, subst, arith}
use Rattle.std.proofs.lemmas.Option.{slice_get_read}
use Rattle.b2_plan.specs.declared.step.Step.{Step}
use Rattle.b2_testing.specs.Leading.{AreDependentsTo}
use Rattle.b2_testing.proofs.NeedsAreAdded.{depend_next}
use Rattle.b2_testing.proofs.pass_list.dependents_of.Goals as goal

pub loop-place-preserved : goal.loop-place-preserved
loop-place-preserved c =
    let read = c.as_slice-steps.result.now in
    let step : Step = c.index-steps-place.result in
    let within : c.loop-place.place < length c.as_slice-steps.result.now = omega arith in
    depend_next c.args.plan.now.steps c.as_slice-steps.result.now c.loop-place.place c.index-steps-place.result c.as_slice.result.now c.loop-place.dependents.items c.add_needs.new.dependents.items c.as_slice-steps.ensures
    (slice_get_read c.as_slice-steps.result.now (length c.as_slice-steps.result.now) c.loop-place.place c.index-steps-place.result refl within c.index-steps-place.is) c.as_slice.ensures c.in_ok-add_needs.ensures c.loop-place.invariant

pub returns : goal.returns
returns c =
    let whole : c.loop-place.place ≡ length c.args.plan.now.steps = omega (arith, ap length c.as_slice-steps.ensures) in
    subst (λ n. AreDependentsTo c.args.plan.now.steps n c.loop-place.dependents.items) whole c.loop-place.invariant
