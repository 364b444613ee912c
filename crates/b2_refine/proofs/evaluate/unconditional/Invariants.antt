use Rattle.std.proofs.Common.{◌≡◌, take}
use Rattle.b2_refine.specs.Conditions.{unconditional}
use Rattle.b2_refine.proofs.evaluate.unconditional.Given as goal

-- the properties so far
abbrev pub invariant-loop-requirement : goal.invariant-loop-requirement
invariant-loop-requirement l = l.made ≡ unconditional (take l.requirement-index l.required)
