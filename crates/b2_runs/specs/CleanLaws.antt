use Rattle.std.specs.Prelude.{◌≤◌, ◌↔◌, ℕ, List, length}
use Rattle.b2_plan.specs.declared.step.Step.{Step}
use Rattle.b2_plan.specs.Plans.{Apart, Makes}
use Rattle.b2_plan.specs.Sources.{Build}
use Rattle.b2_plan.specs.Closures.{Value, IsClosure}
use Rattle.b2_plan.specs.Cleans.{Val, Clean, value_of}
use Rattle.b2_runs.specs.ClosureLaws.{IsMap}

-- a path has at most one value in the clean build
abbrev pub CleanIsOne : Type 0
CleanIsOne = (b : Build) → Apart b.steps b.roots → IsMap (Clean b)

-- as many rounds as there are steps are enough: more of them give the same values
abbrev pub RoundsAreEnough : Type 0
RoundsAreEnough = (b : Build) (rounds : ℕ) (path : List ℕ) (value : Value) → Apart b.steps b.roots → length b.steps ≤ rounds → Val b rounds path value ↔ Clean b path value

-- an output of a step whose closure is defined by the clean build has there what the step makes of it
abbrev pub CleanIsMade : Type 0
CleanIsMade = (b : Build) (i : ℕ) (step : Step) (path : List ℕ) (members : List (List ℕ × Value)) → Apart b.steps b.roots → Makes b.steps i step path → IsClosure b (Clean b) step members → Clean b path (value_of b step members path)
