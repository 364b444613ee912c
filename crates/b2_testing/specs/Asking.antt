-- The tests that a request asks for, as they are found.
use Rattle.std.specs.Prelude.{◌≡◌, ℕ, ◌-◌, ◌==◌, Bool, false, ◌&&◌, List, [], ◌∷◌, Option, Some, None, slice_get, slice_index_or}
use Rattle.std.specs.List.{flat_map, list_any}
use Rattle.std.specs.Option.{option_map_or}
use Rattle.std.specs.Str.{bytes_eq}
use Rattle.b2_plan.specs.declared.step.Step.{Step}
use Rattle.b2_plan.specs.Plans.{maker_of}
use Rattle.b2_declared.specs.declared.whole.Declared.{Declared}
use Rattle.b2_references.specs.Names.{numbers}
use Rattle.b2_generate.specs.Answers.{Row}
use Rattle.b2_testing.specs.Adding.{markers}
use Rattle.b2_testing.specs.Requested.{marker_path, test_at}

-- ---- markers

abbrev pub is_marked : List Bool → ℕ → Bool
is_marked marks place = slice_index_or marks place false

-- marked are the places of the markers; `d` is what the load declared
pub record AreMarkers (d : Declared) (marks : List Bool) : Type 0 where
  pub marked : (place : ℕ) → is_marked marks place ≡ list_any (λ other. other == place) (markers d)

-- the main target of a row is marked
abbrev pub has_mark : Declared → List Bool → Row → Bool
has_mark d marks row = option_map_or (is_marked marks) (slice_get (numbers d row.name) (row.alternative - 1)) false

-- ---- tests

abbrev pub test_list : Option (List ℕ × ℕ) → List (List ℕ × ℕ)
test_list None = []
test_list (Some test) = test ∷ []

-- what is asked for by a row, where the markers are those that are marked; `d` has the main targets of the tests
abbrev pub test_by : Declared → List Bool → List Step → List (List ℕ) → Row → List (List ℕ × ℕ)
test_by d marks steps wanted row =
    test_at d row (has_mark d marks row && list_any (bytes_eq (marker_path d row)) wanted) (maker_of steps (marker_path d row))

abbrev pub tests_by : Declared → List Bool → List Step → List (List ℕ) → List Row → List (List ℕ × ℕ)
tests_by d marks steps wanted rows = flat_map (test_by d marks steps wanted) rows
