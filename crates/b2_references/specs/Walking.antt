-- A walk through the projects that a project stands for.
use Rattle.std.specs.Prelude.{◌≡◌, ℕ, ◌+◌, suc, List, [], ◌∷◌, ◌++◌, length, reverse, if◌then◌else◌}
use Rattle.std.specs.Ordering.{nat_cmp}
use Rattle.std.specs.BTreeSet.{contains}
use Rattle.b2_base.specs.Numbers.{is_among}
use Rattle.b2_declared.specs.declared.place.Place.{Place}
use Rattle.b2_declared.specs.declared.whole.Declared.{Declared}
use Rattle.b2_references.specs.declared.project_search.ProjectSearch.{ProjectSearch}
use Rattle.b2_references.specs.References.{builds_of}

-- the set has the projects that were found
pub record IsWalk (walk : ProjectSearch) : Type 0 where
  pub known : (project : ℕ) → contains nat_cmp walk.known project ≡ is_among walk.found.items project

-- what looking at a project makes of those found and those to be looked at, the next of which is the last
abbrev pub found_after : ℕ → List ℕ → List ℕ
found_after project found = if is_among found project then found else found ++ project ∷ []

abbrev pub next_after : Declared → ℕ → List ℕ → List ℕ → List ℕ
next_after d project found next = if is_among found project then next else next ++ reverse (builds_of d project)

pub record Steps (d : Declared) (project : ℕ) (found next found_then next_then : List ℕ) : Type 0 where
  pub found_is : found_then ≡ found_after project found
  pub next_is : next_then ≡ next_after d project found next

-- the number of `build-project` calls of the projects, counted from a first place on, that were not found
abbrev pub builds_left : List ℕ → ℕ → List Place → ℕ
builds_left found first [] = 0
builds_left found first (p ∷ more) = (if is_among found first then 0 else length p.builds) + builds_left found (suc first) more

-- how many projects are to be looked at at most
abbrev pub turns_left : Declared → List ℕ → List ℕ → ℕ
turns_left d found next = length next + builds_left found 0 d.places
