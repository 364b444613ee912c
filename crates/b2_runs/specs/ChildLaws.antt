use Rattle.std.specs.Prelude.{◌≡◌, ℕ, Bool, false, List, [], ◌∷◌, ◌++◌, Option, Some}
use Rattle.std.specs.List.{Contains}
use Rattle.b2_host.specs.declared.children.ChildEvent.{ChildEvent}
use Rattle.b2_host.specs.declared.children.ChildEvent.TheVariants.{Start, Done}
use Rattle.b2_host.specs.Disks.{Disk}
use Rattle.b2_host.specs.ChildProcesses.{Given, Child, Family, given_at, after_start, MayStart, Ends}
use Rattle.b2_host.specs.ChildCalls.{AwaitFails}
use Rattle.b2_host.specs.Outside.{Outside}
use Rattle.b2_plan.specs.declared.step.Step.{Step}
use Rattle.b2_plan.specs.Plans.{Apart, step_at}
use Rattle.b2_runs.specs.Staleness.{Update, paths_with_bytes}
use Rattle.b2_runs.specs.Events.{IsOpen, AreInOrder}
use Rattle.b2_runs.specs.Runs.{CanStart, IsRunSoFar, IsGivenClosure, AreGivenClosures}
use Rattle.b2_runs.specs.Soundness.{IsSound, AreAtWork}
use Rattle.b2_runs.specs.PlanChildren.{AreOfOpenSteps, MadeBySettled, ArePlanChildren, SettlesOne}

-- what the start of a step gives its child that can start
abbrev pub start_gives : (u : Update) (events : List ChildEvent) (i : ℕ) → CanStart u events i → Disk → Given
start_gives u events i can disk = given_at i can.step.text (paths_with_bytes can.members) can.step.outs disk

-- the child of a step that can start is given its closure, where it is handed the members that have bytes
abbrev pub StartGivesClosure : Type 0
StartGivesClosure = (u : Update) (events : List ChildEvent) (disk : Disk) (i : ℕ) (can : CanStart u events i) → Apart u.build.steps u.build.roots → IsSound u events disk → IsGivenClosure u i (start_gives u events i can disk)

-- a step that can start may start while the others are at work
abbrev pub StartMayBegin : Type 0
StartMayBegin = (u : Update) (events : List ChildEvent) (running : List Child) (i : ℕ) (can : CanStart u events i) → Apart u.build.steps u.build.roots → IsRunSoFar u events → AreAtWork u events running → MayStart running (paths_with_bytes can.members) can.step.outs

-- before any event no child is at work
abbrev pub AtWorkAtEntry : Type 0
AtWorkAtEntry = (u : Update) → AreAtWork u [] []

-- after a start one child more is at work
abbrev pub AtWorkAfterStart : Type 0
AtWorkAfterStart = (u : Update) (events : List ChildEvent) (disk : Disk) (family : Family) (i : ℕ) (can : CanStart u events i) → Apart u.build.steps u.build.roots → IsRunSoFar u events → IsSound u events disk → AreAtWork u events family.running
    → AreAtWork u (events ++ Start i ∷ []) (after_start i can.step.text (paths_with_bytes can.members) can.step.outs (Some disk) family).running

-- after an end one child less is at work
abbrev pub AtWorkAfterEnd : Type 0
AtWorkAfterEnd = (u : Update) (events : List ChildEvent) (old new : Family) (before after : Disk) (i : ℕ) (well : Bool) → AreAtWork u events old.running → Ends u.build.made old (Some before) i well new (Some after) → AreAtWork u (events ++ Done i well ∷ []) new.running

-- what ends is open
abbrev pub EndIsOpen : Type 0
EndIsOpen = (u : Update) (events : List ChildEvent) (old new : Family) (before after : Disk) (i : ℕ) (well : Bool) → AreAtWork u events old.running → Ends u.build.made old (Some before) i well new (Some after) → IsOpen events i

-- each start has its entry, as one more starts
abbrev pub GivenAfterStart : Type 0
GivenAfterStart = (u : Update) (events : List ChildEvent) (given : List Given) (i : ℕ) (new : Given) → AreGivenClosures u events given → IsGivenClosure u i new → AreGivenClosures u (events ++ Start i ∷ []) (given ++ new ∷ [])

-- each start has its entry, as one ends
abbrev pub GivenAfterEnd : Type 0
GivenAfterEnd = (u : Update) (events : List ChildEvent) (given : List Given) (i : ℕ) (well : Bool) → AreGivenClosures u events given → AreGivenClosures u (events ++ Done i well ∷ []) given

-- ---- over every host

-- before any event no child runs and no step is open
abbrev pub OpenStepsAtEntry : Type 0
OpenStepsAtEntry = AreOfOpenSteps [] []

-- after the start of a step that was not started one more child runs
abbrev pub OpenStepsAfterStart : Type 0
OpenStepsAfterStart = (steps : List Step) (jobs : ℕ) (events : List ChildEvent) (family : Family) (i : ℕ) (text : List ℕ) (ins outs : List (List ℕ)) (disk : Option Disk) → AreInOrder steps jobs events → (Contains events (Start i) → ⊥) → AreOfOpenSteps events family.running
    → AreOfOpenSteps (events ++ Start i ∷ []) (after_start i text ins outs disk family).running

-- after the end of any of them one child less runs
abbrev pub OpenStepsAfterEnd : Type 0
OpenStepsAfterEnd = (events : List ChildEvent) (made : List ℕ → List (List ℕ × List ℕ) → List ℕ → List ℕ) (old new : Family) (before after : Option Disk) (i : ℕ) (well : Bool) → AreOfOpenSteps events old.running → Ends made old before i well new after
    → AreOfOpenSteps (events ++ Done i well ∷ []) new.running

-- after a wait that failed the same children run
abbrev pub OpenStepsAfterFailedWait : Type 0
OpenStepsAfterFailedWait = (events : List ChildEvent) (before after : Outside) → AreOfOpenSteps events before.children.running → AwaitFails before after → AreOfOpenSteps events after.children.running

-- what ends is open
abbrev pub EndsOpenStep : Type 0
EndsOpenStep = (events : List ChildEvent) (made : List ℕ → List (List ℕ × List ℕ) → List ℕ → List ℕ) (old new : Family) (before after : Option Disk) (i : ℕ) (well : Bool) → AreOfOpenSteps events old.running → Ends made old before i well new after → IsOpen events i

-- before any start no child runs
abbrev pub PlanChildrenAtEntry : Type 0
PlanChildrenAtEntry = (steps : List Step) (settled : ℕ → Bool) → ArePlanChildren steps settled []

-- a step that was not started and is not settled may start beside those that run, where it reads what settled steps make
abbrev pub PlanChildMayStart : Type 0
PlanChildMayStart = (steps : List Step) (roots : List (List ℕ)) (events : List ChildEvent) (settled : ℕ → Bool) (running : List Child) (i : ℕ) (step : Step) (ins : List (List ℕ)) → Apart steps roots → AreOfOpenSteps events running → ArePlanChildren steps settled running
    → step_at steps i ≡ Some step → (Contains events (Start i) → ⊥) → settled i ≡ false → MadeBySettled steps settled ins → MayStart running ins step.outs

-- after its start one such child more runs
abbrev pub PlanChildrenAfterStart : Type 0
PlanChildrenAfterStart = (steps : List Step) (settled : ℕ → Bool) (family : Family) (i : ℕ) (step : Step) (ins : List (List ℕ)) (disk : Option Disk) → ArePlanChildren steps settled family.running → step_at steps i ≡ Some step → settled i ≡ false → MadeBySettled steps settled ins
    → ArePlanChildren steps settled (after_start i step.text ins step.outs disk family).running

-- after the end of any of them one child less runs, and its step may be settled then
abbrev pub PlanChildrenAfterEnd : Type 0
PlanChildrenAfterEnd = (steps : List Step) (events : List ChildEvent) (settled later : ℕ → Bool) (made : List ℕ → List (List ℕ × List ℕ) → List ℕ → List ℕ) (old new : Family) (before after : Option Disk) (i : ℕ) (well : Bool) → AreOfOpenSteps events old.running
    → ArePlanChildren steps settled old.running → Ends made old before i well new after → SettlesOne settled i later → ArePlanChildren steps later new.running

-- they stay such as a step that was not started is judged fresh, and so is settled
abbrev pub PlanChildrenAsOneSettles : Type 0
PlanChildrenAsOneSettles = (steps : List Step) (events : List ChildEvent) (settled later : ℕ → Bool) (running : List Child) (i : ℕ) → AreOfOpenSteps events running → ArePlanChildren steps settled running → (Contains events (Start i) → ⊥) → SettlesOne settled i later
    → ArePlanChildren steps later running
