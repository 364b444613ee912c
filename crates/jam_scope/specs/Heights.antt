-- That the modules above each module end.
use Rattle.std.specs.Prelude.{ℕ, List, [], ◌∷◌, length}
use Rattle.jam_journal.specs.Tables.{Text, Table}
use Rattle.jam_journal.specs.Marks.{Marked}
use Rattle.jam_scope.specs.Lines.{line, AreAbove}

-- the modules above a module end
pub record HasLine (parents : Table Text) (owner : Text) : Type 0 where
  pub line : List Text
  pub are : AreAbove parents owner line

abbrev pub AllHaveLines : Table Text → Type 0
AllHaveLines parents = (owner : Text) → HasLine parents owner

-- how many modules are above a module
abbrev pub height : Table Text → Text → ℕ
height parents owner = length (line parents owner)

abbrev pub HaveLinesIn : List (Table Text) → Type 0
HaveLinesIn [] = Unit {0}
HaveLinesIn (parents ∷ more) = AllHaveLines parents × HaveLinesIn more

-- now and at each mark
abbrev pub AllHaveLinesAtMarks : Marked (Table Text) → Type 0
AllHaveLinesAtMarks p = AllHaveLines p.0 × HaveLinesIn p.1
