-- What holds of an update between two events, over every host.
use Rattle.std.specs.Prelude.{◌≡◌, ◌⊎◌, ℕ, ◌+◌, ◌≤◌, Bool, true, false, List, [], ◌∷◌, ◌++◌, Some, None, IfSome, is_some, length, count_by}
use Rattle.std.specs.List.{Contains}
use Rattle.b2_host.specs.declared.children.ChildEvent.{ChildEvent}
use Rattle.b2_host.specs.declared.children.ChildEvent.TheVariants.{Done}
use Rattle.b2_host.specs.ChildProcesses.{Child}
use Rattle.b2_host.specs.OutsideLaws.{Keeps}
use Rattle.b2_host.specs.OutputLaws.{OutKeeps}
use Rattle.b2_plan.specs.declared.plan.Plan.{Plan}
use Rattle.b2_plan.specs.declared.step.Step.{Step}
use Rattle.b2_plan.specs.Plans.{step_at}
use Rattle.b2_runs.specs.Events.{AreInOrder, as_counted, AreShort, ShortTold}
use Rattle.b2_runs.specs.PlanChildren.{AreOfOpenSteps, ArePlanChildren}
use Rattle.b2_runs.specs.Moments.{Moment}
use Rattle.b2_runs.specs.UpdateAnswers.{CountsStay, WaitFailed}
use Rattle.b2_sched.specs.declared.state.State.{State}
use Rattle.b2_sched.specs.declared.state.State.TheVariants.{Unjudged, Stale, Running, Settled, Failed}
use Rattle.b2_sched.specs.Schedules.{Schedule, IsRunning, CanLook, QuitsNow}
use Rattle.b2_sched.specs.SchedulerCalls.{StartsNone}
use Rattle.b2_facts.specs.Facts.{IsAbout}
use Rattle.b2_looks.specs.Looks.{AreLooks, Follows}
use Rattle.b2_turns.specs.Starts.{settles}
use Rattle.b2_turns.specs.Ends.{OutputsStand}
use Rattle.b2_update.specs.declared.run.Run.{Run}
use Rattle.b2_update.specs.declared.stop.UpdateStop.{UpdateStop}
use Rattle.b2_update.specs.Stops.{StopCausedBy}

-- ---- what has happened

-- Since entry these events have happened, in order. Some steps may have left an output out, none where the files are visible.
-- What runs are the children of the open steps.
pub record HasHappened (plan : Plan) (jobs : ℕ) (entry here : Moment) (events : List ChildEvent) (short : List ℕ)
    : Type 0 where
  pub are : here.host.children.events ≡ entry.host.children.events ++ events
  pub in_order : AreInOrder plan.steps jobs events
  pub of_open : AreOfOpenSteps events here.host.children.running
  pub short_are : AreShort plan.steps events short
  pub short_told : ShortTold entry.host.disk short

-- What every call has kept since entry.
pub record HasKept (entry here : Moment) : Type 0 where
  pub host : Keeps entry.host here.host
  pub out : OutKeeps entry.out here.out

-- ---- what is known of the steps

-- how many steps have not come to their end
abbrev pub is_unended : State → Bool
is_unended Unjudged = true
is_unended Stale = true
is_unended Running = true
is_unended Settled = false
is_unended Failed = false

abbrev pub unended : Schedule → ℕ
unended s = count_by is_unended s.states

-- What is known of the steps, and the children that run, are those of the plan.
pub record IsOfPlan (plan : Plan) (here : Moment) (run : Run) : Type 0 where
  pub about : IsAbout plan.steps plan.roots run.sights.facts
  pub looks : AreLooks plan 0 run.sights.facts run.looks
  pub way : run.sights.by_digest ≡ run.looks.way.by_digest
  pub planned : ArePlanChildren plan.steps (settles run.looks.board.sched) here.host.children.running
  pub waits : length here.host.children.running ≡ run.waits
  -- what a child was given is visible where the files are
  pub given : (child : Child) → Contains here.host.children.running child
      → is_some child.given ≡ is_some here.host.disk
  -- no more steps were updated than have come to their end
  pub updated : run.updated + unended run.looks.board.sched ≤ length run.looks.board.sched.states

-- ---- between two events

-- An update goes on: the schedule follows what has happened, and no count of faults has changed since entry.
pub record IsGoing (plan : Plan) (entry here : Moment) (run : Run) : Type 0 where
  pub events : List ChildEvent
  pub short : List ℕ
  pub happened : HasHappened plan run.looks.board.sched.jobs entry here events short
  pub follows : Follows (as_counted short events) run.looks
  pub planned : IsOfPlan plan here run
  pub kept : HasKept entry here
  pub counts : CountsStay entry here

-- ---- as a child has ended

-- A child has ended last, and the schedule was not told yet. Where it ended well and files are visible, each output of its
-- step stands.
pub record HasHeard (plan : Plan) (i : ℕ) (well : Bool) (entry here : Moment) (run : Run) : Type 0 where
  pub before : List ChildEvent
  pub short : List ℕ
  pub happened : HasHappened plan run.looks.board.sched.jobs entry here (before ++ Done i well ∷ []) short
  pub follows : Follows (as_counted short before) run.looks
  -- it is not yet known to have left an output out
  pub not_short : Contains short i → ⊥
  pub runs : IsRunning run.looks.board.sched i
  pub stand : well ≡ true → IfSome here.host.disk (OutputsStand plan.steps i)
  pub planned : IsOfPlan plan here run
  pub kept : HasKept entry here
  pub counts : CountsStay entry here

-- Whether a step was updated that ended so: it was not, though it ended well, only where it owes files, and none is visible.
abbrev pub EndsAs : Plan → ℕ → Bool → Moment → Bool → Type 0
EndsAs plan i well here true = well ≡ true
EndsAs plan i well here false = well ≡ true
    → (here.host.disk ≡ None) × ((step : Step) × (step_at plan.steps i ≡ Some step) × (step.notfile ≡ false))

-- ---- where an update has stopped

-- as many children run as are to be waited for, and no wait failed; or one more, for which one wait failed
abbrev pub AreToWaitFor : ℕ → Moment → Moment → Type 0
AreToWaitFor count entry here =
    ((here.host.failed_waits ≡ entry.host.failed_waits) × (length here.host.children.running ≡ count))
    ⊎ (WaitFailed entry.host here.host × (here.host.failed_waits ≤ entry.host.failed_waits + 1)
    × (length here.host.children.running ≡ count + 1))

-- An update has stopped, and so many children are to be waited for.
pub record Halts (plan : Plan) (jobs count : ℕ) (entry here : Moment) (stop : UpdateStop) : Type 0 where
  pub events : List ChildEvent
  pub short : List ℕ
  pub happened : HasHappened plan jobs entry here events short
  pub planned : (child : Child) → Contains here.host.children.running child
      → (step : Step) × (step_at plan.steps child.step ≡ Some step) × (child.outs ≡ step.outs)
  pub waits : AreToWaitFor count entry here
  pub kept : HasKept entry here
  pub caused : StopCausedBy entry here stop

-- ---- what calls do besides

-- the update judges and starts as before
pub record SameWay (run later : Run) : Type 0 where
  pub way : later.looks.way ≡ run.looks.way
  pub jobs : later.looks.board.sched.jobs ≡ run.looks.board.sched.jobs
  pub quit : later.quit ≡ run.quit

-- no step can be looked at
abbrev pub Rests : Run → Type 0
Rests run = (i : ℕ) → CanLook run.looks.board.sched i → ⊥

-- no step can start
abbrev pub NoneStarts : Run → Type 0
NoneStarts run = StartsNone run.looks.board.sched ⊎ QuitsNow run.looks.board.sched run.quit

-- how many steps are stale
abbrev pub is_stale : State → Bool
is_stale Unjudged = false
is_stale Stale = true
is_stale Running = false
is_stale Settled = false
is_stale Failed = false

abbrev pub stale : Schedule → ℕ
stale s = count_by is_stale s.states
