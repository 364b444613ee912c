use Rattle.std.proofs.Common.{◌≡◌, take, map}
use Rattle.b2_making.specs.Conversions.{converted}
use Rattle.b2_making.proofs.output.all_converted.Given as goal

abbrev pub invariant-loop-file_type : goal.invariant-loop-file_type
invariant-loop-file_type l = l.made ≡ map (converted l.types.types l.tail) (take l.file_type-index l.file_types)
