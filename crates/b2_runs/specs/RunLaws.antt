use Rattle.std.specs.Prelude.{◌≡◌, ◌↔◌, ℕ, Bool, List, [], ◌∷◌, ◌++◌, Some}
use Rattle.std.specs.List.{Contains}
use Rattle.b2_host.specs.declared.children.ChildEvent.{ChildEvent}
use Rattle.b2_host.specs.declared.children.ChildEvent.TheVariants.{Start, Done}
use Rattle.b2_plan.specs.declared.step.Step.{Step}
use Rattle.b2_plan.specs.Plans.{Apart, step_at}
use Rattle.b2_plan.specs.Closures.{Value, IsClosure}
use Rattle.b2_plan.specs.Cleans.{Clean}
use Rattle.b2_runs.specs.Staleness.{Update, IsFresh}
use Rattle.b2_runs.specs.Events.{IsOpen, AreOnce}
use Rattle.b2_runs.specs.Runs.{Settled, on_settled, Needed, CanStart, MayCome, IsRunSoFar, IsRun}

-- a run goes on by each event that may come
abbrev pub RunGoesOn : Type 0
RunGoesOn = (u : Update) (events : List ChildEvent) (event : ChildEvent) → IsRunSoFar u events → MayCome u events event → IsRunSoFar u (events ++ event ∷ [])

-- the beginning of a run is one
abbrev pub RunHasBegun : Type 0
RunHasBegun = (u : Update) (front rest : List ChildEvent) → IsRunSoFar u (front ++ rest) → IsRunSoFar u front

-- what is settled stays settled as a step starts
abbrev pub SettledAfterStart : Type 0
SettledAfterStart = (u : Update) (events : List ChildEvent) (i : ℕ) (path : List ℕ) → Apart u.build.steps u.build.roots → CanStart u events i → Settled u events path → Settled u (events ++ Start i ∷ []) path

-- what is settled stays settled as a step ends
abbrev pub SettledAfterEnd : Type 0
SettledAfterEnd = (u : Update) (events : List ChildEvent) (i : ℕ) (well : Bool) (path : List ℕ) → Apart u.build.steps u.build.roots → IsOpen events i → Settled u events path → Settled u (events ++ Done i well ∷ []) path

-- what is needed stays needed as a run goes on
abbrev pub NeededGrows : Type 0
NeededGrows = (u : Update) (events : List ChildEvent) (event : ChildEvent) (i : ℕ) → Apart u.build.steps u.build.roots → MayCome u events event → Needed u events i → Needed u (events ++ event ∷ []) i

-- so it does as an open step ends, though others could start: so it is where a fault has come, and an update only waits
abbrev pub NeededThroughEnd : Type 0
NeededThroughEnd = (u : Update) (events : List ChildEvent) (i : ℕ) (well : Bool) (k : ℕ) → Apart u.build.steps u.build.roots → IsOpen events i → Needed u events k → Needed u (events ++ Done i well ∷ []) k

-- a closure by what is settled is one by the clean build with all members settled, and the other way round
abbrev pub ClosureOnSettled : Type 0
ClosureOnSettled = (u : Update) (events : List ChildEvent) (step : Step) (members : List (List ℕ × Value)) → Apart u.build.steps u.build.roots
    → (IsClosure u.build (on_settled u events) step members → IsClosure u.build (Clean u.build) step members × ((member : List ℕ) (value : Value) → Contains members (member, value) → Settled u events member))
    × (IsClosure u.build (Clean u.build) step members → ((member : List ℕ) (value : Value) → Contains members (member, value) → Settled u events member) → IsClosure u.build (on_settled u events) step members)

-- a step that was started has its closure on what is settled
abbrev pub StartedHasClosure : Type 0
StartedHasClosure = (u : Update) (events : List ChildEvent) (i : ℕ) (step : Step) → Apart u.build.steps u.build.roots → IsRunSoFar u events → Contains events (Start i) → step_at u.build.steps i ≡ Some step
    → (members : List (List ℕ × Value)) × IsClosure u.build (on_settled u events) step members

-- a step that is done was started
abbrev pub DoneWasStarted : Type 0
DoneWasStarted = (u : Update) (events : List ChildEvent) (i : ℕ) (well : Bool) → IsRunSoFar u events → Contains events (Done i well) → Contains events (Start i)

-- a step is done once
abbrev pub DoneOnce : Type 0
DoneOnce = (u : Update) (events : List ChildEvent) (i : ℕ) (well other : Bool) → IsRunSoFar u events → Contains events (Done i well) → Contains events (Done i other) → well ≡ other

-- so each event of a run is there once: no step starts twice, and none ends twice
abbrev pub EachEventOnce : Type 0
EachEventOnce = (u : Update) (events : List ChildEvent) → IsRunSoFar u events → AreOnce events

-- what is settled has a value in the clean build: no file is asked for this
abbrev pub SettledHasValue : Type 0
SettledHasValue = (u : Update) (events : List ChildEvent) (path : List ℕ) → Apart u.build.steps u.build.roots → IsRunSoFar u events → Settled u events path → (value : Value) × Clean u.build path value

-- a step is judged once: while all of its closure is settled, the verdict on it stays as events come
abbrev pub VerdictStays : Type 0
VerdictStays = (u : Update) (events : List ChildEvent) (event : ChildEvent) (step : Step) (members : List (List ℕ × Value)) → Apart u.build.steps u.build.roots → MayCome u events event → ((member : List ℕ) (value : Value) → Contains members (member, value) → Settled u events member)
    → IsFresh u events step members ↔ IsFresh u (events ++ event ∷ []) step members

-- the closure of a step on what is settled stays as it is
abbrev pub ClosureOnSettledStays : Type 0
ClosureOnSettledStays = (u : Update) (events : List ChildEvent) (event : ChildEvent) (step : Step) (members : List (List ℕ × Value)) → Apart u.build.steps u.build.roots → MayCome u events event → IsClosure u.build (on_settled u events) step members → IsClosure u.build (on_settled u (events ++ event ∷ [])) step members

-- each run so far is a prefix of a run
abbrev pub RunIsPrefix : Type 0
RunIsPrefix = (u : Update) (events : List ChildEvent) → Apart u.build.steps u.build.roots → IsRunSoFar u events → ¬ ((rest : List ChildEvent) → ¬ IsRun u (events ++ rest))
