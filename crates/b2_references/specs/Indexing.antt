-- What the look-ups of an index hold.
use Rattle.std.specs.Prelude.{◌≡◌, ℕ, ◌==◌, ◌<◌, List, [], ◌∷◌, ◌++◌, Option, Some, None, All, map, filter, length, slice_get, unwrap_or, if◌then◌else◌}
use Rattle.std.specs.Ordering.{nat_cmp}
use Rattle.std.specs.Cmp.Lexicographic.{slice_cmp}
use Rattle.std.specs.FinMap.{FinMap, get, from_entries}
use Rattle.std.specs.Str.{bytes_eq}
use Rattle.b2_declared.specs.declared.place.Target.{Target}
use Rattle.b2_declared.specs.declared.whole.Declared.{Declared}
use Rattle.b2_references.specs.declared.entries.ProjectTargets.{ProjectTargets}
use Rattle.b2_references.specs.Names.{Name, first_names, name_of, numbers_from}
use Rattle.b2_references.specs.References.{place_at}

-- some numbers, where there are any
abbrev pub some_of : List ℕ → Option (List ℕ)
some_of [] = None
some_of (number ∷ more) = Some (number ∷ more)

-- a main target of a project
abbrev pub named_in : ℕ → List ℕ → Name
named_in project name = (project, name)

-- the main targets of a project
abbrev pub targets_in : ℕ → List Target → List Target
targets_in project targets = filter (λ t. t.project == project) targets

-- an entry without main targets
abbrev pub no_entry : ProjectTargets
no_entry = record { numbers = from_entries []; names = [] }

-- a number is the last one of a name, and other names have those that they had
abbrev pub HasOneMore : List ℕ → ℕ → FinMap (slice_cmp nat_cmp) (List ℕ) → FinMap (slice_cmp nat_cmp) (List ℕ) → Type 0
HasOneMore name number old new =
    (other : List ℕ) → get new other ≡ (if bytes_eq other name then Some (unwrap_or (get old name) [] ++ number ∷ []) else get old other)

-- an entry has those of some main targets that are of a project
pub record IsEntry (targets : List Target) (project : ℕ) (entry : ProjectTargets) : Type 0 where
  pub numbers : (name : List ℕ) → get entry.numbers name ≡ some_of (numbers_from 0 (project, name) targets)
  pub names : map (named_in project) entry.names ≡ first_names (map name_of (targets_in project targets))

-- each entry has those of some main targets that are of the project of its place
pub record AreEntries (targets : List Target) (entries : List ProjectTargets) : Type 0 where
  pub each : (project : ℕ) (entry : ProjectTargets) → slice_get entries project ≡ Some entry → IsEntry targets project entry

-- the look-ups of what is declared
pub record IsIndexOf (d : Declared) (dirs : FinMap (slice_cmp nat_cmp) ℕ) (entries : List ProjectTargets) : Type 0 where
  pub dirs_are : (dir : List ℕ) → get dirs dir ≡ place_at d dir
  pub entries_are : AreEntries d.targets entries
  pub each_project : length entries ≡ length d.places
  pub within : All (λ t. t.project < length d.places) d.targets
