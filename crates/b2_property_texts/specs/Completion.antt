-- How the values of paths and dependencies are completed in the project of a directory.
use Rattle.std.specs.Prelude.{ℕ, List, [], ◌++◌, Option, Some, None, codes, if◌then◌else◌}
use Rattle.std.specs.Str.{bytes_eq}
use Rattle.b2_base.specs.Segments.{is_rooted, path_from}
use Rattle.b2_features.specs.declared.attribute.Attribute.TheVariants.{Path, Dependency}
use Rattle.b2_features.specs.Table.{DeclaredFeature}
use Rattle.b2_features.specs.Faults.{is_with}
use Rattle.b2_props.specs.Sets.{Pair}
use Rattle.b2_property_texts.specs.Cuts.{cut_at}

-- a directory and a name as a reference; nothing stands for the folder itself
abbrev pub reference_to : List ℕ → List ℕ → List ℕ
reference_to dir name = (if bytes_eq dir (codes ".") then [] else dir) ++ codes "//" ++ name

-- A reference as a whole one. What begins with a slash is an id, or names something of the folder, and stays. Else what
-- stands before `//` is a path, and without `//` all is a name of the directory.
abbrev pub whole_reference : List ℕ → List ℕ → Option (List ℕ × List ℕ) → List ℕ
whole_reference dir value None = reference_to dir value
whole_reference dir value (Some parts) = reference_to (path_from dir parts.0) parts.1

abbrev pub reference_in : List ℕ → List ℕ → List ℕ
reference_in dir value = if is_rooted value then value else whole_reference dir value (cut_at (codes "//") value)

-- the value of a feature, completed
abbrev pub value_in : List DeclaredFeature → List ℕ → Pair → List ℕ
value_in table dir p = if is_with Path table p.0 then path_from dir p.1 else (if is_with Dependency table p.0 then reference_in dir p.1 else p.1)

-- a property, completed
abbrev pub completed : List DeclaredFeature → List ℕ → Pair → Pair
completed table dir p = (p.0, value_in table dir p)
