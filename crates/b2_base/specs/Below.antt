-- Whether a path lies below a directory, as a test; `IsUnder` of `Normal` says the same as a relation.
use Rattle.std.specs.Prelude.{ℕ, Bool, false, not, ◌&&◌, List, [], ◌∷◌, codes, if◌then◌else◌}
use Rattle.std.specs.Bool.{beq}
use Rattle.std.specs.Str.{bytes_eq}
use Rattle.b2_base.specs.Segments.{is_rooted, is_up}
use Rattle.b2_base.specs.Normal.{parts}

-- what stands in a list of segments after those of another one, where they begin it
abbrev pub after_parts : List (List ℕ) → List (List ℕ) → List (List ℕ)
after_parts [] path = path
after_parts (first ∷ dir) [] = []
after_parts (first ∷ dir) (next ∷ path) = if bytes_eq first next then after_parts dir path else []

-- a segment stands there, which is not `..` where the directory is `.`
abbrev pub goes_below : Bool → List (List ℕ) → Bool
goes_below here [] = false
goes_below here (next ∷ more) = not (here && is_up next)

-- a path lies below a directory
abbrev pub is_below : List ℕ → List ℕ → Bool
is_below path dir = beq (is_rooted path) (is_rooted dir) && goes_below (bytes_eq dir (codes ".")) (after_parts (parts dir) (parts path))
