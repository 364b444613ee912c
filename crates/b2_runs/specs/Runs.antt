use Rattle.std.specs.Prelude.{◌≡◌, ℕ, ◌+◌, ◌<◌, true, false, List, [], ◌∷◌, ◌++◌, Some, ⊤, count_by}
use Rattle.std.specs.List.{Contains, AllZip, filter_map}
use Rattle.b2_host.specs.declared.children.ChildEvent.{ChildEvent}
use Rattle.b2_host.specs.declared.children.ChildEvent.TheVariants.{Start, Done}
use Rattle.b2_host.specs.ChildProcesses.{Given}
use Rattle.b2_plan.specs.declared.step.Step.{Step}
use Rattle.b2_plan.specs.Plans.{step_at, Makes}
use Rattle.b2_plan.specs.Sources.{IsSource}
use Rattle.b2_plan.specs.Closures.{Value, Values, Known, IsClosure, with_bytes}
use Rattle.b2_plan.specs.Cleans.{Clean}
use Rattle.b2_runs.specs.Staleness.{Update, IsFresh, IsStale, paths_with_bytes}
use Rattle.b2_runs.specs.Events.{is_start, is_done, started, IsOpen}

-- Events are taken as they count: the end of a step that left an output out is a bad one.

-- The least set of paths with the sources, the outputs of steps that were done well, and the outputs of steps that were
-- not started, are fresh, and have all of their closure by the clean build in this set.
pub data Settled (u : Update) (events : List ChildEvent) : List ℕ → Type 0 where
  source : (path bytes : List ℕ) → IsSource u.build path bytes → Settled u events path
  done_well : (i : ℕ) (step : Step) (path : List ℕ) → Makes u.build.steps i step path → Contains events (Done i true) → Settled u events path
  fresh : (i : ℕ) (step : Step) (path : List ℕ) (members : List (List ℕ × Value)) → Makes u.build.steps i step path → (Contains events (Start i) → ⊥) → IsClosure u.build (Clean u.build) step members → ((member : List ℕ) (value : Value) → Contains members (member, value) → Settled u events member) → IsFresh u events step members → Settled u events path

-- the values of the clean build on what is settled
abbrev pub on_settled : Update → List ChildEvent → Values
on_settled u events path value = Settled u events path × Clean u.build path value

-- The least set of steps with the makers of wanted files and the makers of all known members of a needed step.
pub data Needed (u : Update) (events : List ChildEvent) : ℕ → Type 0 where
  wanted : (i : ℕ) (step : Step) (path : List ℕ) → Contains u.build.wanted path → Makes u.build.steps i step path → Needed u events i
  member : (i : ℕ) (step : Step) (k : ℕ) (other : Step) (path : List ℕ) → Needed u events k → step_at u.build.steps k ≡ Some other → Known u.build (on_settled u events) other path → Makes u.build.steps i step path → Needed u events i

-- The step can start: it is needed, not started, and stale; all of its closure is settled; fewer than `jobs` are open;
-- and where the update is to quit, nothing has failed.
pub record CanStart (u : Update) (events : List ChildEvent) (i : ℕ) : Type 0 where
  pub step : Step
  pub at : step_at u.build.steps i ≡ Some step
  pub needed : Needed u events i
  pub not_started : Contains events (Start i) → ⊥
  pub members : List (List ℕ × Value)
  pub closure : IsClosure u.build (on_settled u events) step members
  pub stale : IsStale u events step members
  pub room : count_by is_start events < count_by is_done events + u.jobs
  pub goes_on : u.quit ≡ true → (k : ℕ) → Contains events (Done k false) → ⊥

-- After these events this one may come: the start of the lowest step that can start, or, where none can start, the end
-- of a step that is open.
abbrev pub MayCome : Update → List ChildEvent → ChildEvent → Type 0
MayCome u before (Start i) = CanStart u before i × ((k : ℕ) → k < i → CanStart u before k → ⊥)
MayCome u before (Done i well) = IsOpen before i × ((k : ℕ) → CanStart u before k → ⊥)

-- these events may come after those, one after another
abbrev pub RunFrom : Update → List ChildEvent → List ChildEvent → Type 0
RunFrom u before [] = ⊤
RunFrom u before (event ∷ events) = MayCome u before event × RunFrom u (before ++ event ∷ []) events

-- these events are the beginning of a run
abbrev pub IsRunSoFar : Update → List ChildEvent → Type 0
IsRunSoFar u events = RunFrom u [] events

-- a whole run: at its end nothing is open and nothing can start
pub record IsRun (u : Update) (events : List ChildEvent) : Type 0 where
  pub each : IsRunSoFar u events
  pub none_open : (i : ℕ) → IsOpen events i → ⊥
  pub none_left : (i : ℕ) → CanStart u events i → ⊥

-- this event is the end of a step that is open after those
abbrev pub EndsOpen : List ChildEvent → ChildEvent → Type 0
EndsOpen before (Start i) = ⊥
EndsOpen before (Done i well) = IsOpen before i

-- after those events, these are ends of steps that are open then, one after another, so each step ends once
abbrev pub OpenEnds : List ChildEvent → List ChildEvent → Type 0
OpenEnds before [] = ⊤
OpenEnds before (event ∷ events) = EndsOpen before event × OpenEnds (before ++ event ∷ []) events

-- The events of an update that stopped anywhere: a run so far, followed by ends alone, of steps that it left open.
pub record IsBegun (u : Update) (events : List ChildEvent) : Type 0 where
  pub front : List ChildEvent
  pub rest : List ChildEvent
  pub whole : events ≡ front ++ rest
  pub run : IsRunSoFar u front
  pub ends : OpenEnds front rest

-- The child of this step was given the step's text, the members of its closure that have bytes, in byte order, with the
-- bytes of the clean build, and the step's outputs.
pub record IsGivenClosure (u : Update) (i : ℕ) (given : Given) : Type 0 where
  pub step : Step
  pub at : step_at u.build.steps i ≡ Some step
  pub members : List (List ℕ × Value)
  pub closure : IsClosure u.build (Clean u.build) step members
  pub step_is : given.step ≡ i
  pub text : given.text ≡ step.text
  pub ins : given.ins ≡ paths_with_bytes members
  pub outs : given.outs ≡ step.outs
  pub held : given.held ≡ with_bytes members

-- each start, in order, has its entry in what was given
abbrev pub AreGivenClosures : Update → List ChildEvent → List Given → Type 0
AreGivenClosures u events given = AllZip (IsGivenClosure u) (filter_map started events) given
