-- The map from directories to places.
use Rattle.std.specs.Prelude.{◌≡◌, ℕ, List}
use Rattle.std.specs.FinMap as map
use Rattle.std.specs.Ordering.{nat_cmp}
use Rattle.std.specs.Cmp.Lexicographic.{slice_cmp}
use Rattle.b2_declared.specs.declared.visit.Visit.{Visit}
use Rattle.jam_journal.specs.Tables.{Text}
use Rattle.b2_project_walk.specs.Directories.{place_of}

-- the map has the place of each directory among the projects
abbrev pub IsIndex : map.FinMap (slice_cmp nat_cmp) ℕ → List Visit → Type 0
IsIndex places visits = (dir : Text) → map.get places dir ≡ place_of dir visits
