use Rattle.std.specs.Prelude.{◌≡◌, ◌⊎◌, ℕ, Bool, true, false, List, [], ◌∷◌, ◌++◌, Some}
use Rattle.std.specs.List.{Contains}
use Rattle.b2_host.specs.declared.children.ChildEvent.{ChildEvent}
use Rattle.b2_host.specs.declared.children.ChildEvent.TheVariants.{Start, Done}
use Rattle.b2_host.specs.Disks.{Folder, Disk}
use Rattle.b2_plan.specs.declared.step.Step.{Step}
use Rattle.b2_plan.specs.Plans.{Apart, Makes, step_at}
use Rattle.b2_plan.specs.Closures.{Value, IsClosure}
use Rattle.b2_plan.specs.Cleans.{Clean}
use Rattle.b2_log.specs.declared.line.LogLine.{LogLine}
use Rattle.b2_runs.specs.Staleness.{Update, IsRecorded}
use Rattle.b2_runs.specs.Events.{IsOpen}
use Rattle.b2_runs.specs.Runs.{Settled, IsRunSoFar, IsBegun}
use Rattle.b2_runs.specs.Soundness.{IsSound, IsAllowedChange}
use Rattle.b2_runs.specs.Afterwards.{next_update, IsMadeEachTime, IsNoted, IsFreshStep}

-- Of an update that stops anywhere, the events are a run so far, with each start in it, followed by ends of steps that it
-- left open. What was done in the run so far is kept: the log's last lines are on it, whatever the children do that end
-- after it.

-- a run so far has begun
abbrev pub RunIsBegun : Type 0
RunIsBegun = (u : Update) (events : List ChildEvent) → IsRunSoFar u events → (b : IsBegun u events) × (b.front ≡ events)

-- what has begun still has where one more step that is open ends, and the run so far in it is the same
abbrev pub BegunGoesOn : Type 0
BegunGoesOn = (u : Update) (events : List ChildEvent) (i : ℕ) (well : Bool) (b : IsBegun u events) → IsOpen events i → (c : IsBegun u (events ++ Done i well ∷ [])) × (c.front ≡ b.front)

-- the events of what has begun, up to any start, are a run so far
abbrev pub BegunUpToStart : Type 0
BegunUpToStart = (u : Update) (events before after : List ChildEvent) (i : ℕ) → IsBegun u events → events ≡ before ++ Start i ∷ after → IsRunSoFar u (before ++ Start i ∷ [])

-- a disk that is sound after the events is sound after the run so far in them
abbrev pub SoundBeforeEnds : Type 0
SoundBeforeEnds = (u : Update) (events : List ChildEvent) (disk : Disk) (b : IsBegun u events) → IsSound u events disk → IsSound u b.front disk

-- of what was done in the run so far the last lines of the log stay, as steps that run or failed change their outputs
abbrev pub NotedThroughEnds : Type 0
NotedThroughEnds = (u : Update) (events : List ChildEvent) (before after : Disk) (log : List LogLine) (b : IsBegun u events) → Apart u.build.steps u.build.roots → IsAllowedChange u events before after → IsNoted u b.front before.now log → IsNoted u b.front after.now log

-- so do they through an append that was torn: it has left the lines as they were, or the whole line after them
abbrev pub NotedThoughTorn : Type 0
NotedThoughTorn = (u : Update) (events : List ChildEvent) (now : Folder) (log after : List LogLine) (line : LogLine) → (after ≡ log) ⊎ (after ≡ log ++ line ∷ []) → IsNoted u events now log → IsNoted u events now (log ++ line ∷ []) → IsNoted u events now after

-- of a finished step the log has a record that agrees with the files, judged as the next update judges it before any event
abbrev pub FinishedIsRecorded : Type 0
FinishedIsRecorded = (u : Update) (events : List ChildEvent) (now : Folder) (log : List LogLine) (quit : Bool) (jobs : ℕ) (i : ℕ) (step : Step) (members : List (List ℕ × Value)) → IsNoted u events now log → step_at u.build.steps i ≡ Some step
    → Contains events (Done i true) → step.notfile ≡ false → IsClosure u.build (Clean u.build) step members → IsRecorded (next_update u now log quit jobs) [] step members

-- so a step whose outputs were settled by then is fresh to the next update, wherever this one stopped, but for those that
-- an always-step or a notfile step reaches
abbrev pub FreshThoughStopped : Type 0
FreshThoughStopped = (u : Update) (events : List ChildEvent) (disk : Disk) (log : List LogLine) (quit : Bool) (jobs : ℕ) (i : ℕ) (step : Step) (path : List ℕ) (b : IsBegun u events) → Apart u.build.steps u.build.roots → IsSound u events disk → IsNoted u b.front disk.now log
    → Makes u.build.steps i step path → Settled u b.front path → (IsMadeEachTime u.build path → ⊥) → IsFreshStep (next_update u disk.now log quit jobs) [] step

-- the run of the next update, however far it has gone, holds no start of such a step
abbrev pub NotStartedAgain : Type 0
NotStartedAgain = (u : Update) (events later : List ChildEvent) (disk : Disk) (log : List LogLine) (quit : Bool) (jobs : ℕ) (i : ℕ) (step : Step) (path : List ℕ) (b : IsBegun u events) → Apart u.build.steps u.build.roots → IsSound u events disk → IsNoted u b.front disk.now log
    → IsRunSoFar (next_update u disk.now log quit jobs) later → Makes u.build.steps i step path → Settled u b.front path → (IsMadeEachTime u.build path → ⊥) → Contains later (Start i) → ⊥

-- so no work that was done by then is done again
abbrev pub NoWorkIsLost : Type 0
NoWorkIsLost = (u : Update) (events later : List ChildEvent) (disk : Disk) (log : List LogLine) (quit : Bool) (jobs : ℕ) (i : ℕ) (step : Step) (path : List ℕ) (b : IsBegun u events) → Apart u.build.steps u.build.roots → IsSound u events disk → IsNoted u b.front disk.now log
    → IsRunSoFar (next_update u disk.now log quit jobs) later → Makes u.build.steps i step path → Contains b.front (Done i true) → (IsMadeEachTime u.build path → ⊥) → Contains later (Start i) → ⊥

-- what came before a start of an update that stopped is in the run so far
abbrev pub BegunHoldsEarlier : Type 0
BegunHoldsEarlier = (u : Update) (events before after : List ChildEvent) (i : ℕ) (event : ChildEvent) (b : IsBegun u events) → events ≡ before ++ Start i ∷ after → Contains before event → Contains b.front event
