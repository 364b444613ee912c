-- Laws of an update as its steps start and end.
use Rattle.std.specs.Prelude.{◌≡◌, ℕ, Bool, List, [], ◌∷◌, ◌++◌, Some}
use Rattle.std.specs.List.{Contains, AllZip}
use Rattle.b2_host.specs.declared.children.ChildEvent.{ChildEvent}
use Rattle.b2_host.specs.declared.children.ChildEvent.TheVariants.{Start, Done}
use Rattle.b2_host.specs.Disks.{Disk, IsConsistent}
use Rattle.b2_host.specs.ChildProcesses.{Family, Child, Ends}
use Rattle.b2_host.specs.Outside.{Read}
use Rattle.b2_plan.specs.declared.step.Step.{Step}
use Rattle.b2_plan.specs.declared.plan.Plan.{Plan}
use Rattle.b2_plan.specs.Plans.{step_at, Apart}
use Rattle.b2_log.specs.declared.line.LogLine.{LogLine}
use Rattle.b2_runs.specs.Staleness.{Update, paths_with_bytes}
use Rattle.b2_runs.specs.Runs.{CanStart, MayCome}
use Rattle.b2_runs.specs.Soundness.{Distinguishes, AreAtWork}
use Rattle.b2_runs.specs.PlanChildren.{AreOfOpenSteps, MadeBySettled, ArePlanChildren}
use Rattle.b2_runs.specs.LogCourses.{LacksNoLine}
use Rattle.b2_sched.specs.Schedules.{IsStale, CanLook}
use Rattle.b2_sched.specs.Sound.{IsSound}
use Rattle.b2_facts.specs.Facts.{Knowledge, IsAbout, path_at}
use Rattle.b2_reach.specs.declared.sights.Sights.{Sights}
use Rattle.b2_verdicts.specs.declared.step_numbers.StepNumbers.{StepNumbers}
use Rattle.b2_looks.specs.declared.looks.Looks.{Looks}
use Rattle.b2_looks.specs.Looks.{ready_at, AreLooks, LooksOn, Follows}
use Rattle.b2_looks.specs.UnderWay.{IsUnderWay, AreTrueLooks, IsUpdateBy}
use Rattle.b2_turns.specs.Starts.{settles, Begins}
use Rattle.b2_turns.specs.AtRest.{IsToldAtRest}
use Rattle.b2_turns.specs.Ends.{Finishes, HasEnded}

-- ---- over every host

-- the files that a step is given which is to start are made by settled steps
abbrev pub ReadyIsSettled : Type 0
ReadyIsSettled = (plan : Plan) (f : Knowledge) (l : Looks) (i : ℕ) (numbers : StepNumbers) (ins : List (List ℕ))
    → Apart plan.steps plan.roots → IsAbout plan.steps plan.roots f → AreLooks plan 0 f l → IsStale l.board.sched i
    → ready_at l i ≡ Some numbers → AllZip (λ n path. path_at f n ≡ Some path) numbers.ins ins
    → MadeBySettled plan.steps (settles l.board.sched) ins

-- the children that run stay those of the plan as steps are looked at
abbrev pub ChildrenAsLooked : Type 0
ChildrenAsLooked = (steps : List Step) (events : List ChildEvent) (l k : Looks) (running : List Child)
    → AreOfOpenSteps events running → Follows events l → LooksOn l k
    → ArePlanChildren steps (settles l.board.sched) running → ArePlanChildren steps (settles k.board.sched) running

-- ---- over a host whose files are visible

-- where no step can be looked at the schedule has what the run has
abbrev pub AtRestIsTold : Type 0
AtRestIsTold = (u : Update) (events : List ChildEvent) (first : List LogLine) (reads : List Read) (disk : Disk)
    (plan : Plan) (s : Sights) (l : Looks)
    → IsUpdateBy plan l u → IsSound l.board.sched → AreLooks plan 0 s.facts l
    → ((i : ℕ) → CanLook l.board.sched i → ⊥)
    → Follows events l → IsUnderWay u events first reads disk s → AreTrueLooks u events disk s l
    → IsToldAtRest u events disk s l

-- the step that starts is given the members of its closure that have bytes
abbrev pub StartIsGiven : Type 0
StartIsGiven = (u : Update) (events : List ChildEvent) (disk : Disk) (plan : Plan) (s : Sights) (l : Looks) (i : ℕ)
    (step : Step) (numbers : StepNumbers) (ins : List (List ℕ)) (can : CanStart u events i)
    → Apart u.build.steps u.build.roots → AreTrueLooks u events disk s l → IsStale l.board.sched i
    → step_at u.build.steps i ≡ Some step → ready_at l i ≡ Some numbers
    → AllZip (λ n path. path_at s.facts n ≡ Some path) numbers.ins ins
    → (can.step ≡ step) × (paths_with_bytes can.members ≡ ins)

-- an update that is under way is so as the next step starts
abbrev pub StartComes : Type 0
StartComes = (u : Update) (events : List ChildEvent) (first : List LogLine) (reads : List Read) (disk : Disk)
    (plan : Plan) (s t : Sights) (l k : Looks) (i : ℕ)
    → IsUpdateBy plan l u → AreLooks plan 0 s.facts l → Follows events l → IsStale l.board.sched i
    → IsUnderWay u events first reads disk s → AreTrueLooks u events disk s l → LacksNoLine u events disk.now s.journal
    → MayCome u events (Start i) → Begins i l s k t
    → IsUnderWay u (events ++ Start i ∷ []) first reads disk t × AreTrueLooks u (events ++ Start i ∷ []) disk t k

-- in an update that is under way a step ends
abbrev pub EndComes : Type 0
EndComes = (u : Update) (events : List ChildEvent) (first : List LogLine) (reads : List Read) (before after : Disk)
    (old new : Family) (s : Sights) (l : Looks) (i : ℕ) (well : Bool)
    → IsUnderWay u events first reads before s → AreTrueLooks u events before s l
    → LacksNoLine u events before.now s.journal → ((k : ℕ) → CanStart u events k → ⊥)
    → AreAtWork u events old.running → Ends u.build.made old (Some before) i well new (Some after)
    → IsConsistent after → Distinguishes u after.past
    → HasEnded u events i well first reads after s × AreTrueLooks u (events ++ Done i well ∷ []) after s l

-- what is known of the steps stays true as the schedule is told of an end
abbrev pub FinishIsTrue : Type 0
FinishIsTrue = (u : Update) (events : List ChildEvent) (first : List LogLine) (reads : List Read) (disk : Disk)
    (s : Sights) (l k : Looks) (i : ℕ) (well : Bool)
    → IsUnderWay u events first reads disk s → Contains events (Done i well) → Finishes i well l k
    → AreTrueLooks u events disk s l → AreTrueLooks u events disk s k
