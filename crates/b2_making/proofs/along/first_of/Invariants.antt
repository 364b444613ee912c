use Rattle.std.proofs.Common.{◌≡◌, drop}
use Rattle.std.specs.List.{find}
use Rattle.b2_virtual.specs.Supplies.{is_of}
use Rattle.b2_making.proofs.along.first_of.Given as goal

abbrev pub invariant-loop-entry : goal.invariant-loop-entry
invariant-loop-entry l = find (is_of l.file_type) l.entries ≡ find (is_of l.file_type) (drop l.entry-index l.entries)
