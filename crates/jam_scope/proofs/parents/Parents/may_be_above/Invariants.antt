use Rattle.std.proofs.Common.{◌≡◌}
use Rattle.std.specs.Str.{IsUtf8}
use Rattle.jam_scope.specs.Heights.{height}
use Rattle.jam_scope.proofs.ParentLinesAlwaysEnd.{is_among}
use Rattle.jam_scope.proofs.parents.Parents.may_be_above.Given as goal

abbrev pub invariant-modules : goal.invariant-modules
invariant-modules l = record { same : is_among l.self.0 l.owner l.parent ≡ is_among l.self.0 l.owner l.above; utf8 : IsUtf8 l.above }

abbrev pub decreases-modules : goal.decreases-modules
decreases-modules l = height l.self.0 l.above
