-- Paths of the first world.
use Rattle.std.specs.Prelude.{List, [], ◌∷◌}
use Rattle.jam_journal.specs.Tables.{Text}

-- the texts `bin`, `stage` and `dist`
abbrev pub first_roots : List Text
first_roots = (98 ∷ 105 ∷ 110 ∷ []) ∷ (115 ∷ 116 ∷ 97 ∷ 103 ∷ 101 ∷ []) ∷ (100 ∷ 105 ∷ 115 ∷ 116 ∷ []) ∷ []
