use Rattle.std.proofs.Common.{◌≡◌, take}
use Rattle.b2_virtual.specs.Supplies.{entries_of}
use Rattle.b2_virtual.proofs.supplies.entries_of.Given as goal

abbrev pub invariant-loop-supply : goal.invariant-loop-supply
invariant-loop-supply l = l.made ≡ entries_of (take l.supply-index l.supplies)
