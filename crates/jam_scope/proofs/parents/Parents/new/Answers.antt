use Rattle.std.proofs.Common.{sym, subst}
use Rattle.jam_journal.specs.Tables.{Text, Table}
use Rattle.jam_journal.specs.Marks.{Marked}
use Rattle.jam_scope.specs.Heights.{AllHaveLinesAtMarks}
use Rattle.jam_scope.proofs.ParentLinesAlwaysEnd.{first_lined}
use Rattle.jam_scope.proofs.parents.Parents.new.Goals as goal

pub invariant_of-result : goal.invariant_of-result
invariant_of-result c = subst (λ (p : Marked (Table Text)). AllHaveLinesAtMarks p) (sym c.new.ensures) first_lined
