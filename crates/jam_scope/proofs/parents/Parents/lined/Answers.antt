use Rattle.std.proofs.Common.{subst}
use Rattle.jam_journal.specs.Tables.{Text, Table}
use Rattle.jam_journal.specs.Marks.{Marked}
use Rattle.jam_scope.specs.Lines.{AreLines}
use Rattle.jam_scope.proofs.ParentLinesAlwaysEnd.{lines}
use Rattle.jam_scope.proofs.parents.Parents.lined.Goals as goal

pub returns : goal.returns
returns c = subst (λ (p : Marked (Table Text)). AreLines p.0) c.self.view_is (lines c.self.inside.past.0 c.self.invariant.0)
