-- What is found by the marks of markers, and by a table of wanted files, is what a request asks for.
use Rattle.std.proofs.Common.{arith, ◌≡◌, ◌-◌, ◌&&◌, ◌||◌, ◌<◌, ◌+◌, zero, suc, ℕ, Bool, true, false, List, [], ◌∷◌, ◌++◌, Option, Some, None, take, get_or, length, refl, sym, ap, ap₂, subst, ◌∙◌}
use Rattle.std.specs.Prelude.{slice_get, is_some}
use Rattle.std.specs.List.{Contains, flat_map, list_any}
use Rattle.std.specs.Option.{option_map_or, MatchOption}
use Rattle.std.specs.Str.{bytes_eq}
use Rattle.std.proofs.lemmas.Bool.{false≢true}
use Rattle.std.proofs.lemmas.List.{take_more, append-nil, map-append}
use Rattle.std.proofs.lemmas.Grind.{flat_map-append}
use Rattle.std.proofs.lemmas.List.Folds.{list_any-append}
use Rattle.std.proofs.lemmas.Map.Views.{Contains-from_any, list_any-from_Contains}
use Rattle.std.proofs.lemmas.Cmp.{nat_list_eq_equiv}
use Rattle.b2_plan.specs.declared.step.Step.{Step}
use Rattle.b2_plan.specs.Plans.{maker_of}
use Rattle.b2_props.specs.Sets.{IsSet}
use Rattle.b2_props.specs.Elements.{dir_text}
use Rattle.b2_props.proofs.RepeatedPairsAddNothing.{text_is, text_itself}
use Rattle.b2_virtual.specs.Paths.{named_tail}
use Rattle.b2_making.specs.Steps.{location_of}
use Rattle.b2_declared.specs.declared.whole.Declared.{Declared}
use Rattle.b2_references.specs.Names.{Name, features, numbers, dir_of, target_text}
use Rattle.b2_generate.specs.Answers.{Row, HaveSets}
use Rattle.b2_request_plan.specs.TableRows.{row_of_line, rows_of}
use Rattle.b2_request_plan.specs.declared.planned.Built.{Built}
use Rattle.b2_request_plan.specs.declared.planned.Planned.{Planned}
use Rattle.b2_testing.specs.Adding.{with_tests, markers, markers_from}
use Rattle.b2_testing.specs.Asking.{is_marked, AreMarkers, has_mark, test_by, tests_by}
use Rattle.b2_testing.specs.Requested.{path_in, marker_path, is_at, is_marker, test_at, test_of_row, requested, AreAskedFor}

-- ---- the projects are those that the load declared

dir_same : (found : Declared) (project : ℕ) → dir_of (with_tests found) project ≡ dir_of found project
unfolding dir_of
dir_same found project = refl

text_same : (found : Declared) (name : Name) → target_text (with_tests found) name ≡ target_text found name
unfolding target_text dir_of
text_same found name = refl

path_same : (found : Declared) (row : Row) → marker_path (with_tests found) row ≡ marker_path found row
path_same found row = ap (λ (dir : List ℕ). path_in (location_of row.set) (dir_text (features found) row.set) (named_tail dir row.name.1)) (dir_same found row.name.0)

test_same : (found : Declared) (row : Row) (b : Bool) (maker : Option ℕ) → test_at (with_tests found) row b maker ≡ test_at found row b maker
test_same found row true (Some number) = ap (λ (text : List ℕ). (text, number) ∷ []) (text_same found row.name)
test_same found row true None = refl
test_same found row false maker = refl

-- ---- a row

module _ (found : Declared) (marks : List Bool) (are : AreMarkers found marks) where
  mark_same : (row : Row) → has_mark (with_tests found) marks row ≡ is_marker found row
  mark_same row = go (slice_get (numbers (with_tests found) row.name) (row.alternative - 1))
    where
      go : (o : Option ℕ) → option_map_or (is_marked marks) o false ≡ is_at (markers found) o
      go None = refl
      go (Some place) = are.marked place

  module _ (steps : List Step) (table wanted : List (List ℕ)) (same : (path : List ℕ) → list_any (bytes_eq path) table ≡ list_any (bytes_eq path) wanted) where
    row_same : (row : Row) → test_by (with_tests found) marks steps table row ≡ test_of_row found steps wanted row
    row_same row =
        test_same found row (has_mark (with_tests found) marks row && list_any (bytes_eq (marker_path (with_tests found) row)) table) (maker_of steps (marker_path (with_tests found) row))
        ∙ ap₂ (test_at found row)
        (ap₂ ◌&&◌ (mark_same row) (same (marker_path (with_tests found) row) ∙ ap (λ (path : List ℕ). list_any (bytes_eq path) wanted) (path_same found row)))
        (ap (maker_of steps) (path_same found row))

    rows_same : (rows : List Row) → tests_by (with_tests found) marks steps table rows ≡ requested found rows steps wanted
    rows_same [] = refl
    rows_same (row ∷ more) = ap₂ ◌++◌ (row_same row) (rows_same more)

-- the tests that were found are those that are asked for
pub asked_for : (d : Declared) (p : Planned) (marks : List Bool) (table : List (List ℕ)) (tests : List (List ℕ × ℕ)) → ((found : Declared) → d ≡ with_tests found → AreMarkers found marks)
    → ((path : List ℕ) → list_any (bytes_eq path) table ≡ list_any (bytes_eq path) p.plan.wanted) → tests ≡ tests_by d marks p.plan.steps table (rows_of p.table) → AreAskedFor d p tests
asked_for d p marks table tests marked same are = λ found e.
    are ∙ ap (λ (k : Declared). tests_by k marks p.plan.steps table (rows_of p.table)) e ∙ rows_same found marks (marked found e) p.plan.steps table p.plan.wanted same (rows_of p.table)

-- ---- no tests

module _ (found : Declared) (steps : List Step) (wanted : List (List ℕ)) (none : markers found ≡ []) where
  at_none : (o : Option ℕ) → is_at [] o ≡ false
  at_none None = refl
  at_none (Some place) = refl

  no_test : (row : Row) → test_of_row found steps wanted row ≡ []
  no_test row =
      ap (λ (b : Bool). test_at found row (b && list_any (bytes_eq (marker_path found row)) wanted) (maker_of steps (marker_path found row)))
      (ap (λ (places : List ℕ). is_at places (slice_get (numbers (with_tests found) row.name) (row.alternative - 1))) none ∙ at_none (slice_get (numbers (with_tests found) row.name) (row.alternative - 1)))

  no_tests : (rows : List Row) → requested found rows steps wanted ≡ []
  no_tests [] = refl
  no_tests (row ∷ more) = ap₂ ◌++◌ (no_test row) (no_tests more)

empty_is : {X : Type 0} (xs : List X) → length xs ≡ 0 → xs ≡ []
empty_is [] e = refl
empty_is (x ∷ xs) e = absurd (omega (arith, e))

no_markers : (found : Declared) → length found.tests ≡ 0 → markers found ≡ []
no_markers found e = ap (markers_from (length found.targets)) (empty_is found.tests e)

-- where there is no test none is asked for
pub none_asked_for : (d : Declared) (p : Planned) (tests : List (List ℕ × ℕ)) → length d.tests ≡ 0 → tests ≡ [] → AreAskedFor d p tests
none_asked_for d p tests none are = λ found e.
    are ∙ sym (no_tests found p.plan.steps p.plan.wanted (no_markers found (sym (ap (λ (k : Declared). length k.tests) e) ∙ none)) (rows_of p.table))

-- ---- the wanted files

or_last : (a b : Bool) → (b ≡ true → a ≡ true) → a ≡ (a || (b || false))
or_last true true had = refl
or_last true false had = refl
or_last false true had = had refl
or_last false false had = refl

-- a path that is there already, or a further one
pub table_next : (paths : List (List ℕ)) (i : ℕ) (x : List ℕ) (old new : List (List ℕ)) → i < length paths → x ≡ get_or paths i x → (Contains old x → new ≡ old) → ((Contains old x → ⊥) → new ≡ old ++ x ∷ [])
    → ((p : List ℕ) → list_any (bytes_eq p) old ≡ list_any (bytes_eq p) (take i paths)) → (p : List ℕ) → list_any (bytes_eq p) new ≡ list_any (bytes_eq p) (take (i + 1) paths)
table_next paths i x old new within at stays added was p =
    go (list_any (bytes_eq x) old) refl
    ∙ ap (λ (a : Bool). a || (bytes_eq p x || false)) (was p)
    ∙ sym (list_any-append (bytes_eq p) (take i paths) (x ∷ []))
    ∙ sym (ap (list_any (bytes_eq p)) (take_more paths i x within ∙ ap (λ (y : List ℕ). take i paths ++ y ∷ []) (sym at)))
  where
    go : (b : Bool) → list_any (bytes_eq x) old ≡ b → list_any (bytes_eq p) new ≡ (list_any (bytes_eq p) old || (bytes_eq p x || false))
    go true e =
        ap (list_any (bytes_eq p)) (stays (Contains-from_any text_is x old e))
        ∙ or_last (list_any (bytes_eq p) old) (bytes_eq p x) (λ same. ap (λ (q : List ℕ). list_any (bytes_eq q) old) (text_is p x same) ∙ e)
    go false e =
        ap (list_any (bytes_eq p)) (added (λ c. false≢true (sym e ∙ list_any-from_Contains nat_list_eq_equiv x old c)))
        ∙ list_any-append (bytes_eq p) old (x ∷ [])

un_some : (x y : List ℕ) → Some x ≡ Some y → x ≡ y
un_some x y e = cc

or_second : (a : Bool) {b : Bool} → b ≡ true → (a || b) ≡ true
or_second true e = refl
or_second false e = e

-- whether a path is there, by its place
pub wanted_none : (table : List (List ℕ)) (path : List ℕ) → (Contains table path → ⊥) → list_any (bytes_eq path) table ≡ false
wanted_none table path none = go (list_any (bytes_eq path) table) refl
  where
    go : (b : Bool) → list_any (bytes_eq path) table ≡ b → list_any (bytes_eq path) table ≡ false
    go true e = absurd (none (Contains-from_any text_is path table e))
    go false e = e

pub wanted_some : (table : List (List ℕ)) (path : List ℕ) (place : ℕ) → slice_get table place ≡ Some path → list_any (bytes_eq path) table ≡ true
wanted_some [] path place is = absurd (let f : None ≡ Some path = is in cc)
wanted_some (x ∷ xs) path zero is = ap (λ (b : Bool). b || list_any (bytes_eq path) xs) (ap (bytes_eq path) (un_some x path is) ∙ text_itself path)
wanted_some (x ∷ xs) path (suc place) is = or_second (bytes_eq path x) (wanted_some xs path place is)

pub wanted_is : (found : Option ℕ) (table : List (List ℕ)) (path : List ℕ) (b : Bool) → MatchOption found (Contains table path → ⊥) (λ place. slice_get table place ≡ Some path) → b ≡ is_some found → b ≡ list_any (bytes_eq path) table
wanted_is None table path b none e = e ∙ sym (wanted_none table path none)
wanted_is (Some place) table path b is e = e ∙ sym (wanted_some table path place is)

-- ---- the rows one by one

-- the properties of each are a set
pub set_at : (d : Declared) (table : List Built) (i : ℕ) (row : Built) → HaveSets d (rows_of table) → i < length table → row ≡ get_or table i row → IsSet (features d) row.set
set_at d [] i row had within is = absurd (omega (arith, within))
set_at d (first ∷ more) zero row (one, others) within is = subst (λ (x : Built). IsSet (features d) x.set) (sym is) one
set_at d (first ∷ more) (suc i) row (one, others) within is = set_at d more i row others (omega (arith, within)) is

-- the tests of one more row
pub tests_next : (d : Declared) (marks : List Bool) (steps : List Step) (wanted : List (List ℕ)) (table : List Built) (i : ℕ) (row : Built) (old new : List (List ℕ × ℕ)) → i < length table → row ≡ get_or table i row
    → new ≡ old ++ test_by d marks steps wanted (row_of_line row) → old ≡ tests_by d marks steps wanted (rows_of (take i table)) → new ≡ tests_by d marks steps wanted (rows_of (take (i + 1) table))
tests_next d marks steps wanted table i row old new within is added was =
    let f = test_by d marks steps wanted in
    let own = f (row_of_line row) in
    added ∙ ap (λ (ts : List (List ℕ × ℕ)). ts ++ own) was
    ∙ ap (λ (ts : List (List ℕ × ℕ)). tests_by d marks steps wanted (rows_of (take i table)) ++ ts) (sym (append-nil own))
    ∙ sym (flat_map-append f (rows_of (take i table)) (row_of_line row ∷ []))
    ∙ sym (ap (flat_map f) (ap rows_of (take_more table i row within ∙ ap (λ (x : Built). take i table ++ x ∷ []) (sym is)) ∙ map-append row_of_line (take i table) (row ∷ [])))
