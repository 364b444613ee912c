use Rattle.std.specs.Prelude.{◌≡◌, ◌↔◌, ℕ, List}
use Rattle.std.specs.List.{Contains}
use Rattle.b2_plan.specs.declared.step.Step.{Step}
use Rattle.b2_plan.specs.Sources.{Build, IsMissing}
use Rattle.b2_plan.specs.Closures.{Value, Values, Known, IsClosure}

-- the one says of values all that the other says
abbrev pub Extends : Values → Values → Type 0
Extends v more = (path : List ℕ) (value : Value) → v path value → more path value

-- each path has at most one value
abbrev pub IsMap : Values → Type 0
IsMap v = (path : List ℕ) (x y : Value) → v path x → v path y → x ≡ y

-- where more is known of values, no less is known of what a step reads
abbrev pub KnownGrows : Values → Values → Type 0
KnownGrows v more = (b : Build) (step : Step) (path : List ℕ) → Extends v more → Known b v step path → Known b more step path

-- a missing path that a step is known to read is one of its inputs: no include is found at it
abbrev pub MissingIsInput : Values → Type 0
MissingIsInput v = (b : Build) (step : Step) (path : List ℕ) → Known b v step path → IsMissing b path → Contains step.ins path

-- a closure that is defined stays the same, where more is known of values
abbrev pub ClosureStays : Values → Values → Type 0
ClosureStays v more = (b : Build) (step : Step) (members : List (List ℕ × Value)) → Extends v more → IsMap more → IsClosure b v step members → IsClosure b more step members

-- the closure is one list
abbrev pub ClosureIsOne : Values → Type 0
ClosureIsOne v = (b : Build) (step : Step) (members others : List (List ℕ × Value)) → IsMap v → IsClosure b v step members → IsClosure b v step others → members ≡ others

-- what a step is known to read depends on the values of what it is known to read alone
abbrev pub KnownIsLocal : Values → Values → Type 0
KnownIsLocal v other = (b : Build) (step : Step) (path : List ℕ) → ((p : List ℕ) (value : Value) → Known b v step p → v p value ↔ other p value) → Known b v step path ↔ Known b other step path

-- so does its closure
abbrev pub ClosureIsLocal : Values → Values → Type 0
ClosureIsLocal v other = (b : Build) (step : Step) (members : List (List ℕ × Value)) → ((p : List ℕ) (value : Value) → Known b v step p → v p value ↔ other p value) → IsClosure b v step members ↔ IsClosure b other step members
