-- Where an include is looked for.
use Rattle.std.specs.Prelude.{ℕ, ◌==◌, List, [], ◌∷◌, ◌++◌, map, codes, if◌then◌else◌}
use Rattle.std.specs.List.{list_any, before_last}
use Rattle.b2_base.specs.Segments.{normal_of, is_rooted}
use Rattle.b2_plan.specs.Sources.{Include}

-- the path of a name in a directory
abbrev pub in_dir : List ℕ → List ℕ → List ℕ
in_dir name dir = normal_of (dir ++ codes "/" ++ name)

-- the path of a name in the directory of a file
unfoldable pub beside : List ℕ → List ℕ → List ℕ
beside file name = if list_any (λ byte. byte == 47) file then in_dir name (before_last (λ byte. byte == 47) file) else normal_of name

-- The places where an include is looked for, in order, by the step's directories and the path of the including file: beside
-- that file, if the name stands in quotes, and then in the directories. A name that begins with a slash is its only place.
unfoldable pub places : List (List ℕ) → List ℕ → Include → List (List ℕ)
places dirs file (name, quoted) =
    if is_rooted name then normal_of name ∷ []
    else (if quoted then beside file name ∷ map (in_dir name) dirs else map (in_dir name) dirs)
