-- The paths of outputs. A slash is the byte 47, a dot the byte 46.
use Rattle.std.specs.Prelude.{ℕ, ◌==◌, Bool, not, List, [], ◌∷◌, ◌++◌, ◌⊎◌, Option, Some, None, map, codes, if◌then◌else◌}
use Rattle.std.specs.List.{Contains, list_any, before_last, join_with_byte}
use Rattle.b2_base.specs.Segments.{normal_of, path_from, file_name, without_suffix, segments, is_rooted, is_up}
use Rattle.b2_plan.specs.Sources.{IsInRoots}

-- ---- tails

-- a `..` counts as `up`
abbrev pub up_shown : List ℕ → List ℕ
up_shown segment = if is_up segment then codes "up" else segment

-- a segment that is no `..`
abbrev pub is_down : List ℕ → Bool
is_down segment = not (is_up segment)

-- The tail of a source is its own path: each `..` becomes `up`, and `root` stands before a leading slash.
abbrev pub source_tail : List ℕ → List ℕ
source_tail path = normal_of ((if is_rooted path then codes "root" else []) ++ join_with_byte 47 (map up_shown (segments path)))

-- what stands before the file's name in a path, with the slash
abbrev pub folder_of : List ℕ → List ℕ
folder_of path = if list_any (λ byte. byte == 47) path then before_last (λ byte. byte == 47) path ++ codes "/" else []

-- a suffix with its dot, where there is one
abbrev pub dotted : Option (List ℕ) → List ℕ
dotted None = []
dotted (Some suffix) = 46 ∷ suffix

-- The tail of a converted file: that of its input, with another suffix or none.
abbrev pub converted_tail : List ℕ → Option (List ℕ) → List ℕ
converted_tail tail suffix = normal_of (folder_of tail ++ without_suffix (file_name tail) ++ dotted suffix)

-- the tail of an output that has a name in a project's directory
abbrev pub named_tail : List ℕ → List ℕ → List ℕ
named_tail dir name = normal_of (dir ++ codes "/" ++ name)

-- ---- paths

-- An output lies in `bin`, below the elements of its properties. Where there are none, their place is empty and goes.
abbrev pub output_path : List ℕ → List ℕ → List ℕ
output_path elements tail = normal_of (codes "bin/" ++ elements ++ codes "/" ++ tail)

-- the path of a file that is put at a location, which is relative to a directory, unless it begins with a slash
abbrev pub located : List ℕ → List ℕ → List ℕ → List ℕ
located dir location name = normal_of (path_from dir location ++ codes "/" ++ name)

-- The location is an output root or lies under one, and the file lies under one. The second says more only of a name that
-- is no plain segment, as `..`.
abbrev pub IsPlaced : List (List ℕ) → List ℕ → List ℕ → List ℕ → Type 0
IsPlaced roots dir location name =
    (Contains roots (path_from dir location) ⊎ IsInRoots roots (path_from dir location)) × IsInRoots roots (located dir location name)
