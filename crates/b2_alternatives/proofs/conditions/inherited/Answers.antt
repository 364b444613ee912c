use Rattle.std.proofs.Common.{◌∙◌, ◌++◌, List, ap₂, sym}
use Rattle.b2_props.specs.declared.requirement.Requirement.{Requirement}
use Rattle.b2_alternatives.proofs.MapsComposeAndGrow.{flat_next}
use Rattle.b2_alternatives.proofs.conditions.inherited.Goals as goal

pub loop-place-preserved : goal.loop-place-preserved
loop-place-preserved c =
    c.in_ok-add_all.ensures ∙ ap₂ (λ (a b : List Requirement). a ++ b) c.loop-place.invariant c.as_slice.ensures
    ∙ sym (flat_next (λ p. p.now.requirements) c.args.places.now c.loop-place.place-index c.place-item.result c.loop-place-test.true c.place-item.is)
