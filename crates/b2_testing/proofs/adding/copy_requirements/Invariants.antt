use Rattle.std.proofs.Common.{take, ◌≡◌}
use Rattle.b2_testing.proofs.adding.copy_requirements.Given as goal

abbrev pub invariant-loop-requirement : goal.invariant-loop-requirement
invariant-loop-requirement l = l.made ≡ take l.requirement-index l.requirements
