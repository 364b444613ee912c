-- The tests that a request asks for.
use Rattle.std.specs.Prelude.{◌≡◌, ℕ, ◌-◌, ◌==◌, Bool, true, false, ◌&&◌, List, [], ◌∷◌, Option, Some, None, codes, slice_get}
use Rattle.std.specs.List.{flat_map, list_any}
use Rattle.std.specs.Str.{bytes_eq}
use Rattle.b2_base.specs.Segments.{file_name}
use Rattle.b2_plan.specs.declared.step.Step.{Step}
use Rattle.b2_plan.specs.Plans.{maker_of}
use Rattle.b2_props.specs.Elements.{dir_text}
use Rattle.b2_virtual.specs.Paths.{named_tail, output_path, located}
use Rattle.b2_making.specs.Steps.{location_of}
use Rattle.b2_declared.specs.declared.whole.Declared.{Declared}
use Rattle.b2_references.specs.Names.{features, numbers, dir_of, target_text}
use Rattle.b2_generate.specs.Answers.{Row}
use Rattle.b2_request_plan.specs.declared.planned.Planned.{Planned}
use Rattle.b2_request_plan.specs.TableRows.{rows_of}
use Rattle.b2_testing.specs.Adding.{with_tests, markers}

-- where a marker lies: at the location of its set, if there is one, else in `bin`
abbrev pub path_in : Option (List ℕ) → List ℕ → List ℕ → List ℕ
path_in None elements tail = output_path elements tail
path_in (Some location) elements tail = located (codes ".") location (file_name tail)

abbrev pub marker_path : Declared → Row → List ℕ
marker_path d row = path_in (location_of row.set) (dir_text (features d) row.set) (named_tail (dir_of d row.name.0) row.name.1)

-- a row is that of a marker: what a load declared has no such alternative of its own
abbrev pub is_at : List ℕ → Option ℕ → Bool
is_at places None = false
is_at places (Some place) = list_any (λ other. other == place) places

abbrev pub is_marker : Declared → Row → Bool
is_marker d row = is_at (markers d) (slice_get (numbers (with_tests d) row.name) (row.alternative - 1))

-- it is asked for where its path is wanted, and the step that makes the path is its own
abbrev pub test_at : Declared → Row → Bool → Option ℕ → List (List ℕ × ℕ)
test_at d row true (Some number) = (target_text d row.name, number) ∷ []
test_at d row _ _ = []

abbrev pub test_of_row : Declared → List Step → List (List ℕ) → Row → List (List ℕ × ℕ)
test_of_row d steps wanted row =
    test_at d row (is_marker d row && list_any (bytes_eq (marker_path d row)) wanted) (maker_of steps (marker_path d row))

-- the markers that are asked for, in the order of the table, each with the step that makes it; `d` is what the load declared
abbrev pub requested : Declared → List Row → List Step → List (List ℕ) → List (List ℕ × ℕ)
requested d rows steps wanted = flat_map (test_of_row d steps wanted) rows

-- These are the tests that a plan asks for, whatever a load declared that became `d` with the main targets of its tests.
abbrev pub AreAskedFor : Declared → Planned → List (List ℕ × ℕ) → Type 0
AreAskedFor d p tests = (found : Declared) → d ≡ with_tests found → tests ≡ requested found (rows_of p.table) p.plan.steps p.plan.wanted

-- a test is asked for by a row: its marker is that of the row, lies at a wanted path, and the step makes this path
pub record IsAskedBy (d : Declared) (steps : List Step) (wanted : List (List ℕ)) (test : List ℕ × ℕ) (row : Row) : Type 0 where
  pub name_is : test.0 ≡ target_text d row.name
  pub marks : is_marker d row ≡ true
  pub wants : list_any (bytes_eq (marker_path d row)) wanted ≡ true
  pub made : maker_of steps (marker_path d row) ≡ Some test.1
