use Rattle.std.proofs.Common.{◌≡◌, take}
use Rattle.b2_facts.proofs.scans.includes_told.Given as goal

-- the includes so far are made
abbrev pub invariant-loop-name : goal.invariant-loop-name
invariant-loop-name l = l.made ≡ take l.name-index l.told
