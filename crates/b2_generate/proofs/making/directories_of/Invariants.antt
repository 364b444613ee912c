use Rattle.std.proofs.Common.{◌≡◌, take}
use Rattle.b2_virtual.specs.Supplies.{entries_of, header_directories}
use Rattle.b2_generate.proofs.making.directories_of.Given as goal

abbrev pub invariant-loop-part : goal.invariant-loop-part
invariant-loop-part l = l.made ≡ header_directories (entries_of (take l.part-index l.parts))
