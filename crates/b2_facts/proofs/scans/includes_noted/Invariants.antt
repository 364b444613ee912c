use Rattle.std.proofs.Common.{◌≡◌, take}
use Rattle.b2_facts.proofs.scans.includes_noted.Given as goal

-- the includes so far are made
abbrev pub invariant-loop-include : goal.invariant-loop-include
invariant-loop-include l = l.made ≡ take l.include-index l.includes
