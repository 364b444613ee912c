-- The main targets of tests belong to projects, and their markers stand behind those of the load.
use Rattle.std.proofs.Common.{◌≡◌, ℕ, ◌+◌, ◌-◌, ◌<◌, ◌≤◌, ◌⊎◌, inl, inr, List, [], ◌∷◌, ◌++◌, length, Option, Some, None, refl, arith, length-append}
use Rattle.std.specs.List.{All, AllByRecursion, Contains, flat_map}
use Rattle.std.proofs.lemmas.List.Elements.{All-nil, All-append, All-from_recursion, recursion_from_All}
use Rattle.b2_declaring_calls.specs.declared.declaration.Kind.{Kind}
use Rattle.b2_declared.specs.declared.place.Target.{Target}
use Rattle.b2_declared.specs.declared.place.TestCall.{TestCall}
use Rattle.b2_declared.specs.Laws.{AreNumbered}
use Rattle.b2_props.specs.Requirements.{AsksBelow}
use Rattle.b2_runs.proofs.FirstElementOrLater.{Contains_cases}
use Rattle.b2_sched.proofs.DependentsWakeOneByOne.{none_in_empty}
use Rattle.b2_testing.specs.Adding.{built, with_marker, added, markers_from}
use Rattle.b2_testing.specs.Laws.{AddedAreSound, MarkersAreLast}

-- what holds of what each test becomes holds of what all become
pub each_added : (P : Target → Type 0) (tests : List TestCall) (Q : TestCall → Type 0) → ((t : TestCall) → Q t → All P (added t)) → All Q tests → All P (flat_map added tests)
each_added P tests Q each all = go tests (recursion_from_All Q tests all)
  where
    go : (ts : List TestCall) → AllByRecursion Q ts → All P (flat_map added ts)
    go [] h = All-nil P
    go (t ∷ ts) h = All-append P (added t) (flat_map added ts) (each t h.0) (go ts h.1)

-- the main targets of a test belong to its project
pub project_same : (t : TestCall) (before : Option (List ℕ × Kind)) → All (λ target. target.project ≡ t.project) (with_marker t before)
project_same t None = All-from_recursion (λ (target : Target). target.project ≡ t.project) (with_marker t None) (refl, tt)
project_same t (Some (name, kind)) = All-from_recursion (λ (target : Target). target.project ≡ t.project) (with_marker t (Some (name, kind))) (refl, (refl, tt))

pub project_within : (projects : ℕ) (t : TestCall) (before : Option (List ℕ × Kind)) → t.project < projects → All (λ target. target.project < projects) (with_marker t before)
project_within projects t None w = All-from_recursion (λ (target : Target). target.project < projects) (with_marker t None) (w, tt)
project_within projects t (Some (name, kind)) w = All-from_recursion (λ (target : Target). target.project < projects) (with_marker t (Some (name, kind))) (w, (w, tt))

-- and have its requirements
of_call : (rules : ℕ) (t : TestCall) → All (AsksBelow rules) t.requirements → AreNumbered rules t.requirements []
of_call rules t h = record { below = h; plain = All-nil (AsksBelow 0) }

pub numbered_same : (rules : ℕ) (t : TestCall) (before : Option (List ℕ × Kind)) → All (AsksBelow rules) t.requirements → All (λ target. AreNumbered rules target.requirements target.usage) (with_marker t before)
numbered_same rules t None h = All-from_recursion (λ (target : Target). AreNumbered rules target.requirements target.usage) (with_marker t None) (of_call rules t h, tt)
numbered_same rules t (Some (name, kind)) h =
    All-from_recursion (λ (target : Target). AreNumbered rules target.requirements target.usage) (with_marker t (Some (name, kind))) (of_call rules t h, (of_call rules t h, tt))

pub added_are_sound : AddedAreSound
added_are_sound files d sound = record {
  all_places = sound.all_places;
  of_targets = All-append (λ (target : Target). target.project < files) d.targets (flat_map added d.tests) sound.of_targets
      (each_added (λ target. target.project < files) d.tests (λ t. t.project < files) (λ t w. project_within files t (built t) w) sound.of_tests);
  of_tests = sound.of_tests;
  of_rules = sound.of_rules;
  in_places = sound.in_places;
  in_targets = All-append (λ (target : Target). AreNumbered (length d.indirect) target.requirements target.usage) d.targets (flat_map added d.tests) sound.in_targets
      (each_added (λ target. AreNumbered (length d.indirect) target.requirements target.usage) d.tests (λ t. All (AsksBelow (length d.indirect)) t.requirements) (λ t h. numbered_same (length d.indirect) t (built t) h) sound.in_tests);
  in_tests = sound.in_tests;
}

-- ---- markers

-- a test becomes something
some_added : (t : TestCall) (before : Option (List ℕ × Kind)) → 0 < length (with_marker t before)
some_added t None = omega arith
some_added t (Some (name, kind)) = omega arith

markers_within : (first : ℕ) (tests : List TestCall) (place : ℕ) → Contains (markers_from first tests) place → (first ≤ place) × (place < first + length (flat_map added tests))
markers_within first [] place c = absurd (none_in_empty place c)
markers_within first (t ∷ more) place c = go (Contains_cases (first + length (added t) - 1) place (markers_from (first + length (added t)) more) c) (λ d. markers_within (first + length (added t)) more place d)
  where
    size : length (flat_map added (t ∷ more)) ≡ length (added t) + length (flat_map added more)
    size = length-append (added t) (flat_map added more)

    some : 0 < length (added t)
    some = some_added t (built t)

    go : (first + length (added t) - 1 ≡ place) ⊎ Contains (markers_from (first + length (added t)) more) place
        → (Contains (markers_from (first + length (added t)) more) place → (first + length (added t) ≤ place) × (place < first + length (added t) + length (flat_map added more)))
        → (first ≤ place) × (place < first + length (flat_map added (t ∷ more)))
    go (inl e) later = (omega (arith, e, some), omega (arith, e, some, size))
    go (inr d) later = let w = later d in (omega (arith, w.0), omega (arith, w.1, size))

pub markers_are_last : MarkersAreLast
markers_are_last d place c =
    let w = markers_within (length d.targets) d.tests place c in
    let size : length (d.targets ++ flat_map added d.tests) ≡ length d.targets + length (flat_map added d.tests) = length-append d.targets (flat_map added d.tests) in
    (w.0, omega (arith, w.1, size))
