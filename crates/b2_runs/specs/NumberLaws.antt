use Rattle.std.specs.Prelude.{◌≡◌, ◌↔◌, ℕ, List, [], ◌∷◌, ◌++◌, Some}
use Rattle.std.specs.List.{Contains, AllPairs}
use Rattle.b2_host.specs.declared.children.ChildEvent.{ChildEvent}
use Rattle.b2_host.specs.declared.children.ChildEvent.TheVariants.{Start}
use Rattle.b2_plan.specs.declared.step.Step.{Step}
use Rattle.b2_plan.specs.Plans.{Apart, step_at}
use Rattle.b2_plan.specs.Closures.{Value, Known, IsClosure}
use Rattle.b2_base.specs.Bytes.{Before}
use Rattle.b2_runs.specs.Staleness.{Update, IsFresh}
use Rattle.b2_runs.specs.Runs.{Settled, on_settled, Needed, CanStart, MayCome, IsRunSoFar}
use Rattle.b2_runs.specs.Outcomes.{IsSettledStep, IsFailed, IsLeft, Skipped, IsStuck}
use Rattle.b2_runs.specs.Cycles.{NeedsStuck}
use Rattle.b2_runs.specs.Afterwards.{IsFreshStep}
use Rattle.b2_runs.specs.Numbers.{MakesWanted, NeedsStep, LacksSource, IsStaleStep, NeededOf, SkippedOf, QuitsNow, CanStartBy}

-- needed steps are those that make wanted files, and those that they need
abbrev pub NeededByNumbers : Type 0
NeededByNumbers = (u : Update) (events : List ChildEvent) (i : ℕ) → Needed u events i ↔ NeededOf (MakesWanted u) (NeedsStep u events) i

-- a step can start by the numbers
abbrev pub CanStartByNumbers : Type 0
CanStartByNumbers = (u : Update) (events : List ChildEvent) (i : ℕ) → CanStart u events i ↔ CanStartBy u events (NeededOf (MakesWanted u) (NeedsStep u events)) (IsStaleStep u events) i

-- skipped steps are those that are left and lack a source, or need a failed or skipped step
abbrev pub SkippedByNumbers : Type 0
SkippedByNumbers = (u : Update) (events : List ChildEvent) (i : ℕ) → Skipped u events i ↔ SkippedOf (IsLeft u events) (LacksSource u events) (IsFailed events) (NeedsStep u events) (QuitsNow u events) i

-- a step needs a stuck step by the numbers
abbrev pub StuckByNumbers : Type 0
StuckByNumbers = (u : Update) (events : List ChildEvent) (i k : ℕ) → NeedsStuck u events i k ↔ (IsStuck u events k × NeedsStep u events i k)

-- where the closure of a step is defined on what is settled, it lacks no source and each step that it needs is settled
abbrev pub ClosedByNumbers : Type 0
ClosedByNumbers = (u : Update) (events : List ChildEvent) (i : ℕ) (step : Step) (members : List (List ℕ × Value)) → Apart u.build.steps u.build.roots → step_at u.build.steps i ≡ Some step → IsClosure u.build (on_settled u events) step members
    → (LacksSource u events i → ⊥) × ((k : ℕ) → NeedsStep u events i k → IsSettledStep u events k)

-- so a step that lacks a source, or needs a step that is not settled, cannot start
abbrev pub CannotStartByNeed : Type 0
CannotStartByNeed = (u : Update) (events : List ChildEvent) (i k : ℕ) → Apart u.build.steps u.build.roots → NeedsStep u events i k → (IsSettledStep u events k → ⊥) → CanStart u events i → ⊥

abbrev pub CannotStartWithout : Type 0
CannotStartWithout = (u : Update) (events : List ChildEvent) (i : ℕ) → Apart u.build.steps u.build.roots → LacksSource u events i → CanStart u events i → ⊥

-- nor can one that is fresh
abbrev pub CannotStartFresh : Type 0
CannotStartFresh = (u : Update) (events : List ChildEvent) (i : ℕ) (step : Step) (members : List (List ℕ × Value)) → Apart u.build.steps u.build.roots → step_at u.build.steps i ≡ Some step → IsClosure u.build (on_settled u events) step members → IsFresh u events step members → CanStart u events i → ⊥

-- Where all that a step is known to read is listed in byte order, and each of it is settled, the closure is defined, and has
-- these very paths.
abbrev pub ClosedBySettled : Type 0
ClosedBySettled = (u : Update) (events : List ChildEvent) (step : Step) (names : List (List ℕ)) → Apart u.build.steps u.build.roots → IsRunSoFar u events → AllPairs Before names
    → ((path : List ℕ) → Contains names path → Known u.build (on_settled u events) step path × Settled u events path) → ((path : List ℕ) → Known u.build (on_settled u events) step path → Contains names path)
    → (members : List (List ℕ × Value)) × IsClosure u.build (on_settled u events) step members

-- what a step needs it needs as a run goes on
abbrev pub NeedsGrow : Type 0
NeedsGrow = (u : Update) (events : List ChildEvent) (event : ChildEvent) (i k : ℕ) → Apart u.build.steps u.build.roots → MayCome u events event → NeedsStep u events i k → NeedsStep u (events ++ event ∷ []) i k

-- a source that a step lacks it lacks as a run goes on
abbrev pub LacksGrow : Type 0
LacksGrow = (u : Update) (events : List ChildEvent) (event : ChildEvent) (i : ℕ) → Apart u.build.steps u.build.roots → MayCome u events event → LacksSource u events i → LacksSource u (events ++ event ∷ []) i

-- a step that was found stale stays so
abbrev pub StaleStepStays : Type 0
StaleStepStays = (u : Update) (events : List ChildEvent) (event : ChildEvent) (i : ℕ) → Apart u.build.steps u.build.roots → MayCome u events event → IsStaleStep u events i → IsStaleStep u (events ++ event ∷ []) i

-- so does one that was found fresh
abbrev pub FreshStepStays : Type 0
FreshStepStays = (u : Update) (events : List ChildEvent) (event : ChildEvent) (step : Step) → Apart u.build.steps u.build.roots → MayCome u events event → IsFreshStep u events step → IsFreshStep u (events ++ event ∷ []) step

-- the outputs of a fresh step that was not started are settled
abbrev pub FreshStepSettles : Type 0
FreshStepSettles = (u : Update) (events : List ChildEvent) (i : ℕ) (step : Step) → Apart u.build.steps u.build.roots → step_at u.build.steps i ≡ Some step → (Contains events (Start i) → ⊥) → IsFreshStep u events step → IsSettledStep u events i
