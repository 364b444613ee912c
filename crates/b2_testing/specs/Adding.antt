-- The main targets of tests.
use Rattle.std.specs.Prelude.{ℕ, ◌+◌, ◌-◌, List, [], ◌∷◌, ◌++◌, codes, length, Option, Some, None, if◌then◌else◌}
use Rattle.std.specs.List.{flat_map}
use Rattle.std.specs.Str.{bytes_eq}
use Rattle.b2_declaring_calls.specs.Tests.{marker_name}
use Rattle.b2_declaring_calls.specs.declared.declaration.Kind.{Kind}
use Rattle.b2_declaring_calls.specs.declared.declaration.Kind.TheVariants.{Exe, Obj, Make}
use Rattle.b2_declared.specs.declared.place.Target.{Target}
use Rattle.b2_declared.specs.declared.place.TestCall.{TestCall}
use Rattle.b2_declared.specs.declared.whole.Declared.{Declared}

-- a main target of a test: requirements and the line are those of its call
abbrev pub of_test : TestCall → List ℕ → Kind → List (List ℕ) → List ℕ → Target
of_test t name kind sources rule = record {
  project = t.project;
  name = name;
  kind = kind;
  sources = sources;
  rule = rule;
  requirements = t.requirements;
  usage = [];
  defaults = [];
  line = t.line;
}

-- what a test builds before its marker: an object file, a program, or nothing
abbrev pub built : TestCall → Option (List ℕ × Kind)
built t =
    if bytes_eq t.rule (codes "compile") then Some (t.name ++ codes ".obj", Obj)
    else if bytes_eq t.rule (codes "compile-fail") then None
    else Some (t.name ++ codes ".run", Exe)

-- the rule that makes its marker
abbrev pub maker : TestCall → List ℕ
maker t =
    if bytes_eq t.rule (codes "compile") then codes "testing.pass"
    else codes "testing." ++ t.rule

-- the marker, of what was built or of the sources
abbrev pub with_marker : TestCall → Option (List ℕ × Kind) → List Target
with_marker t None = of_test t (marker_name t.name) Make t.sources (maker t) ∷ []
with_marker t (Some (name, kind)) = of_test t name kind t.sources [] ∷ of_test t (marker_name t.name) Make (name ∷ []) (maker t) ∷ []

-- what a test becomes: its marker is the last
abbrev pub added : TestCall → List Target
added t = with_marker t (built t)

-- what a load declared, with the main targets of its tests behind its own
abbrev pub with_tests : Declared → Declared
with_tests d = record d { targets = d.targets ++ flat_map added d.tests }

-- the places of the markers of tests, of which the first has its first main target at this place
abbrev pub markers_from : ℕ → List TestCall → List ℕ
markers_from first [] = []
markers_from first (t ∷ more) = (first + length (added t) - 1) ∷ markers_from (first + length (added t)) more

-- the places of the markers among the main targets with those of the tests
abbrev pub markers : Declared → List ℕ
markers d = markers_from (length d.targets) d.tests
