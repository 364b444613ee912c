use Rattle.std.proofs.Common.{◌≡◌, take}
use Rattle.b2_virtual.specs.Supplies.{header_directories}
use Rattle.b2_virtual.proofs.supplies.header_directories.Given as goal

abbrev pub invariant-loop-entry : goal.invariant-loop-entry
invariant-loop-entry l = l.made ≡ header_directories (take l.entry-index l.entries)
