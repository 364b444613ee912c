use Rattle.std.specs.Prelude.{◌≡◌, ℕ, ◌+◌, ◌<◌, Bool, true, false, not, ◌&&◌, List, [], ◌∷◌, ◌++◌, Option, Some, None, ⊤, map, count_by}
use Rattle.std.specs.List.{Contains}
use Rattle.b2_base.specs.Numbers.{is_among}
use Rattle.b2_host.specs.declared.children.ChildEvent.{ChildEvent}
use Rattle.b2_host.specs.declared.children.ChildEvent.TheVariants.{Start, Done}
use Rattle.b2_host.specs.Disks.{Disk}
use Rattle.b2_plan.specs.declared.step.Step.{Step}
use Rattle.b2_plan.specs.Plans.{step_at}

-- Events of children, over every host.

abbrev pub is_start : ChildEvent → Bool
is_start (Start i) = true
is_start (Done i well) = false

abbrev pub is_done : ChildEvent → Bool
is_done (Start i) = false
is_done (Done i well) = true

-- the number of the step that an event starts
abbrev pub started : ChildEvent → Option ℕ
started (Start i) = Some i
started (Done i well) = None

-- the step was started and is not done
abbrev pub IsOpen : List ChildEvent → ℕ → Type 0
IsOpen events i = Contains events (Start i) × ((well : Bool) → Contains events (Done i well) → ⊥)

-- each of the events is there once
abbrev pub AreOnce : List ChildEvent → Type 0
AreOnce [] = ⊤
AreOnce (event ∷ events) = (Contains events event → ⊥) × AreOnce events

-- With so many jobs this event may follow those: a start of a step that was not started, while fewer steps are open; or an
-- end of a step that is open.
abbrev pub MayFollow : List Step → ℕ → List ChildEvent → ChildEvent → Type 0
MayFollow steps jobs before (Start i) = (Contains before (Start i) → ⊥) × (count_by is_start before < count_by is_done before + jobs) × ((step : Step) × (step_at steps i ≡ Some step))
MayFollow steps jobs before (Done i well) = IsOpen before i

-- these events may follow those, one after another
abbrev pub FollowFrom : List Step → ℕ → List ChildEvent → List ChildEvent → Type 0
FollowFrom steps jobs before [] = ⊤
FollowFrom steps jobs before (event ∷ events) = MayFollow steps jobs before event × FollowFrom steps jobs (before ++ event ∷ []) events

-- what the events of an update of these steps with so many jobs may be, over every host
abbrev pub AreInOrder : List Step → ℕ → List ChildEvent → Type 0
AreInOrder steps jobs events = FollowFrom steps jobs [] events

-- An event as it counts, where some steps left an output out: the end of such a step is a bad one, whatever its status.
abbrev pub counted : List ℕ → ChildEvent → ChildEvent
counted short (Start i) = Start i
counted short (Done i well) = Done i (well && not (is_among short i))

-- the events as they count: all that is said of runs is said of these
abbrev pub as_counted : List ℕ → List ChildEvent → List ChildEvent
as_counted short events = map (counted short) events

-- the steps that left an output out: each ended with status 0 and owes a file at each output
abbrev pub AreShort : List Step → List ChildEvent → List ℕ → Type 0
AreShort steps events short = (i : ℕ) → Contains short i → Contains events (Done i true) × ((step : Step) × (step_at steps i ≡ Some step) × (step.notfile ≡ false))

-- what a host tells of them: where the files are visible no step left an output out; where they are not, nothing
abbrev pub ShortTold : Option Disk → List ℕ → Type 0
ShortTold None short = ⊤
ShortTold (Some disk) short = short ≡ []
