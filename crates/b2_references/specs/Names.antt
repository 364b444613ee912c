-- Main targets and projects by their names and places.
use Rattle.std.specs.Prelude.{ℕ, zero, suc, ◌==◌, Bool, not, ◌&&◌, List, [], ◌∷◌, ◌++◌, filter, map, reverse, length, slice_get, codes, if◌then◌else◌}
use Rattle.std.specs.List.{list_any}
use Rattle.std.specs.Option.{option_map_or}
use Rattle.std.specs.Str.{bytes_eq}
use Rattle.b2_features.specs.Table.{DeclaredFeature}
use Rattle.b2_props.specs.Sets.{Pair}
use Rattle.b2_property_texts.specs.Completion.{reference_to}
use Rattle.b2_declared.specs.declared.place.Place.{Place}
use Rattle.b2_declared.specs.declared.place.Target.{Target}
use Rattle.b2_declared.specs.declared.whole.Declared.{Declared}

-- a main target: the place of its project, and its name there
abbrev pub Name : Type 0
Name = ℕ × List ℕ

abbrev pub is_same : Name → Name → Bool
is_same a b = a.0 == b.0 && bytes_eq a.1 b.1

abbrev pub is_among : List Name → Name → Bool
is_among names name = list_any (is_same name) names

-- the names in order, each at its first place alone
abbrev pub first_names : List Name → List Name
first_names [] = []
first_names (name ∷ more) = name ∷ filter (λ other. not (is_same name other)) (first_names more)

abbrev pub name_of : Target → Name
name_of t = (t.project, t.name)

-- the places of the alternatives of a main target among some main targets, which are counted from a first place on
abbrev pub numbers_from : ℕ → Name → List Target → List ℕ
numbers_from first name [] = []
numbers_from first name (t ∷ more) = (if is_same name (name_of t) then first ∷ [] else []) ++ numbers_from (suc first) name more

-- what stands in a list of projects above a project: those from the folder down to it, and itself as the last
abbrev pub lineage_in : ℕ → List Place → ℕ → List Place
lineage_in zero places project = []
lineage_in (suc turns) places project = option_map_or (λ p. option_map_or (lineage_in turns places) p.parent [] ++ p ∷ []) (slice_get places project) []

-- the first of some lists that is not empty
abbrev pub first_list : List (List Pair) → List Pair
first_list [] = []
first_list ([] ∷ more) = first_list more
first_list ((p ∷ pairs) ∷ more) = p ∷ pairs

module _ (d : Declared) where
  abbrev pub features : List DeclaredFeature
  features = d.registry

  -- the alternatives of a main target, in order of declaration
  unfoldable pub alternatives : Name → List Target
  alternatives name = filter (λ t. is_same name (name_of t)) d.targets

  -- their places among the main targets
  unfoldable pub numbers : Name → List ℕ
  numbers name = numbers_from 0 name d.targets

  abbrev pub is_target : Name → Bool
  is_target name = not (length (alternatives name) == 0)

  -- the directory of a project, from the folder
  unfoldable pub dir_of : ℕ → List ℕ
  dir_of project = option_map_or (λ p. p.dir) (slice_get d.places project) (codes ".")

  -- how a main target is written: its project's directory, `//` and its name
  unfoldable pub target_text : Name → List ℕ
  target_text name = reference_to (dir_of name.0) name.1

  -- the projects from Jamroot down to this one
  unfoldable pub lineage : ℕ → List Place
  lineage project = lineage_in (length d.places) d.places project

  -- the `default-build` of a main target: that of its first alternative that has one, else of the nearest project that has one
  unfoldable pub default_build : Name → List Pair
  default_build name = first_list (map (λ t. t.defaults) (alternatives name) ++ map (λ p. p.defaults) (reverse (lineage name.0)))
