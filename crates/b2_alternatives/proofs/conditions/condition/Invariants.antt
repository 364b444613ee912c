use Rattle.std.proofs.Common.{◌≡◌, take}
use Rattle.std.specs.List.{filter}
use Rattle.b2_refine.specs.Conditions.{unconditional}
use Rattle.b2_alternatives.specs.Choosing.{is_base}
use Rattle.b2_alternatives.proofs.conditions.condition.Given as goal

-- the properties so far
abbrev pub invariant-loop-requirement : goal.invariant-loop-requirement
invariant-loop-requirement l = l.made ≡ filter (is_base l.registry) (unconditional (take l.requirement-index l.required))
