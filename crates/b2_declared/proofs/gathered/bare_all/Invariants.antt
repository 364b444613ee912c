use Rattle.std.proofs.Common.{◌≡◌, map, take}
use Rattle.b2_declared.specs.Gathering.{bare}
use Rattle.b2_declared.proofs.gathered.bare_all.Given as goal

-- the projects made so far
abbrev pub invariant-loop-visit : goal.invariant-loop-visit
invariant-loop-visit l = l.made.items ≡ map bare (take l.visit-index l.visits)
