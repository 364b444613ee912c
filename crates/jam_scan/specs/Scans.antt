-- Which files are scanned for includes, and what is found in them.
use Rattle.std.specs.Prelude.{ℕ, ◌==◌, Bool, List, [], ◌∷◌, codes, if◌then◌else◌}
use Rattle.std.specs.List.{ends_with, list_any}
use Rattle.b2_plan.specs.Sources.{Include}
use Rattle.jam_scan.specs.IncludeLines.{includes_of}

-- the suffixes of files that are scanned
abbrev pub suffixes : List (List ℕ)
suffixes = codes ".c" ∷ codes ".cc" ∷ codes ".cpp" ∷ codes ".cxx" ∷ codes ".h" ∷ codes ".hh" ∷ codes ".hpp" ∷ codes ".hxx" ∷ []

-- a text ends with another one
unfoldable pub has_suffix : List ℕ → List ℕ → Bool
has_suffix text suffix = ends_with (λ a b. a == b) text suffix

-- a text ends with one of some others
unfoldable pub has_one : List ℕ → List (List ℕ) → Bool
has_one text endings = list_any (has_suffix text) endings

-- a file at this path is scanned
unfoldable pub is_scanned : List ℕ → Bool
is_scanned path = has_one path suffixes

-- the includes of a file, by its path and its bytes; none where it is not scanned
abbrev pub scan_of : List ℕ → List ℕ → List Include
scan_of path bytes = if is_scanned path then includes_of bytes else []
