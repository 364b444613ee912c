use Rattle.std.proofs.Common.{◌≡◌, take}
use Rattle.b2_property_texts.specs.Clashes.{unconditional_pairs}
use Rattle.b2_property_texts.proofs.clashes.unconditional_pairs.Given as goal

-- the properties so far
abbrev pub invariant-loop-requirement : goal.invariant-loop-requirement
invariant-loop-requirement l = l.made ≡ unconditional_pairs (take l.requirement-index l.requirements)
