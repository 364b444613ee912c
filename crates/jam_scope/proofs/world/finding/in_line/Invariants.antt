use Rattle.std.specs.Str.{IsUtf8}
use Rattle.jam_scope.specs.Heights.{height}
use Rattle.jam_scope.proofs.ParentLinesAlwaysEnd.{Goes}
use Rattle.jam_scope.proofs.world.finding.in_line.Given as goal

abbrev pub invariant-loop-owner : goal.invariant-loop-owner
invariant-loop-owner g l = record { goes : Goes l.table.0 l.parents.0 l.name l.fn.owner l.owner; utf8 : IsUtf8 l.owner }

abbrev pub decreases-loop-owner : goal.decreases-loop-owner
decreases-loop-owner g l = height l.parents.0 l.owner
