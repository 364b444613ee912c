use Rattle.std.specs.Prelude.{ℕ, List, [], ◌∷◌, Option}
use Rattle.b2_host.specs.Outside.{Read}

-- a read by its path, and the stamps that the file there and the log had
abbrev pub note : List ℕ → Option ℕ × Option ℕ → Read
note path stamps = record { path = path; stamp = stamps.0; log = stamps.1 }

-- the reads by their paths and stamps, of which there are as many
abbrev pub reads_of : List (List ℕ) → List (Option ℕ × Option ℕ) → List Read
reads_of [] stamps = []
reads_of (path ∷ paths) [] = []
reads_of (path ∷ paths) (first ∷ stamps) = note path first ∷ reads_of paths stamps
