use Rattle.std.proofs.Common.{◌≡◌, ◌++◌, take}
use Rattle.b2_virtual.proofs.entry.push_copies.Given as goal

abbrev pub invariant-loop-entry : goal.invariant-loop-entry
invariant-loop-entry l = l.made ≡ l.fn.made ++ take l.entry-index l.entries
