use Rattle.std.proofs.Common.{◌∙◌, ◌++◌, List, ap, ap₂}
use Rattle.std.specs.Borrow.{Bor}
use Rattle.std.specs.List.{flat_map}
use Rattle.b2_props.specs.declared.requirement.Requirement.{Requirement}
use Rattle.b2_declared.specs.declared.place.Place.{Place}
use Rattle.b2_alternatives.proofs.MapsComposeAndGrow.{flat_after}
use Rattle.b2_alternatives.proofs.conditions.requirements.Goals as goal

pub returns : goal.returns
returns c =
    c.in_ok-add_all.ensures
    ∙ ap₂ (λ (a b : List Requirement). a ++ b)
    (c.in_ok-made.ensures ∙ ap (flat_map (λ (p : Bor Place). p.now.requirements)) c.as_slice.ensures.value
    ∙ flat_after (λ (p : Place). p.requirements) (λ (p : Bor Place). p.now) c.in_ok-places.places.items ∙ ap (flat_map (λ (p : Place). p.requirements)) c.in_ok-places.ensures)
    c.as_slice-2.ensures
