-- What the definition says, in other words.
use Rattle.std.specs.Prelude.{◌≡◌, ℕ, ◌<◌, Bool, true, List, [], ◌∷◌, ◌++◌, Option, Some, None, All, map, length, if◌then◌else◌}
use Rattle.std.specs.List.{filter_map}
use Rattle.b2_features.specs.Table.{DeclaredFeature}
use Rattle.b2_gcc.specs.Tables.{features}
use Rattle.b2_props.specs.declared.requirement.Requirement.{Requirement}
use Rattle.b2_props.specs.Requirements.{AsksBelow}
use Rattle.b2_declaring_calls.specs.declared.declaration.Declaration.{Declaration}
use Rattle.b2_declaring_calls.specs.declared.declaration.Declaration.TheVariants.{Main, Using, Feature}
use Rattle.b2_declared.specs.declared.visit.Visit.{Visit}
use Rattle.b2_declared.specs.declared.visit.Call.{Call}
use Rattle.b2_declared.specs.declared.place.Place.{Place}
use Rattle.b2_declared.specs.declared.place.Target.{Target}
use Rattle.b2_declared.specs.declared.place.TestCall.{TestCall}
use Rattle.b2_declared.specs.declared.place.IndirectRule.{IndirectRule}

-- ---- projects and main targets

-- what was known of a project before its calls
abbrev pub visited : Place → Visit
visited p = record { dir = p.dir; file = p.file; «module» = p.module; parent = p.parent }

-- the project and the name of the main target that a declaration of a project makes
abbrev pub main_in : ℕ → Option Declaration → Option (ℕ × List ℕ)
main_in project (Some (Main m)) = Some (project, m.name)
main_in project _ = None

-- the main targets that calls declare, in order, each by its project and its name
abbrev pub mains : List Call → List (ℕ × List ℕ)
mains calls = filter_map (λ c. main_in c.project c.declaration) calls

-- main targets by their projects and their names
abbrev pub named : List Target → List (ℕ × List ℕ)
named targets = map (λ t. (t.project, t.name)) targets

-- ---- numbers

-- requirements and usage requirements, of which the latter name no rule
pub record AreNumbered (rules : ℕ) (requirements usage : List Requirement) : Type 0 where
  pub below : All (AsksBelow rules) requirements
  pub plain : All (AsksBelow 0) usage

-- each number is a place in the list that it leads to
pub record IsSound (projects : ℕ) (places : List Place) (targets : List Target) (tests : List TestCall) (rules : List IndirectRule) : Type 0 where
  pub all_places : length places ≡ projects
  pub of_targets : All (λ t. t.project < projects) targets
  pub of_tests : All (λ t. t.project < projects) tests
  pub of_rules : All (λ r. r.project < projects) rules
  pub in_places : All (λ p. AreNumbered (length rules) p.requirements p.usage) places
  pub in_targets : All (λ t. AreNumbered (length rules) t.requirements t.usage) targets
  pub in_tests : All (λ t. All (AsksBelow (length rules)) t.requirements) tests

-- ---- features

-- the names of some features
abbrev pub names : List DeclaredFeature → List (List ℕ)
names table = map (λ f. f.name) table

-- the names of the features that a declaration adds: its own, or those of the toolset, where this is not there
abbrev pub features_in : Bool → Option Declaration → List (List ℕ)
features_in has_gcc (Some (Feature name values attributes)) = name ∷ []
features_in has_gcc (Some (Using command)) = if has_gcc then [] else names features
features_in has_gcc _ = []

-- whether the toolset is there after a declaration
abbrev pub has_gcc_after : Bool → Option Declaration → Bool
has_gcc_after has_gcc (Some (Using command)) = true
has_gcc_after has_gcc _ = has_gcc

-- the names of the features that calls add, in order
abbrev pub feature_names : Bool → List Call → List (List ℕ)
feature_names has_gcc [] = []
feature_names has_gcc (c ∷ more) = features_in has_gcc c.declaration ++ feature_names (has_gcc_after has_gcc c.declaration) more
