use Rattle.std.proofs.Common.{◌≡◌, map, take}
use Rattle.std.specs.List.{filter}
use Rattle.b2_features.specs.declared.attribute.Attribute.TheVariants.{Dependency}
use Rattle.b2_features.specs.Faults.{is_with}
use Rattle.b2_references.specs.Names.{features}
use Rattle.b2_alternatives.specs.Needs.{property_need}
use Rattle.b2_alternatives.proofs.need.property_needs.Given as goal

-- the dependency properties so far
abbrev pub invariant-loop-property : goal.invariant-loop-property
invariant-loop-property l = l.made ≡ map (property_need l.index) (filter (λ p. is_with Dependency (features l.index) p.0) (take l.property-index l.set))
