use Rattle.std.proofs.Common.{◌≡◌, ◌++◌, take}
use Rattle.b2_alternatives.proofs.conditions.add_all.Given as goal

-- those so far are added
abbrev pub invariant-loop-requirement : goal.invariant-loop-requirement
invariant-loop-requirement l = l.made ≡ l.fn.made ++ take l.requirement-index l.more
