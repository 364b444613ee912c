-- What the parts of a load do, as they are proved.
use Rattle.std.specs.Prelude.{◌≡◌, ◌≤◌, ◌<◌, ◌+◌, ◌⊎◌, ℕ, List, [], length, take, false, is_some, is_ok, true, slice_get, map as each, Option, Some, None, Result, Ok, Err}
use Rattle.std.specs.declared.vec.Vec.{Vec}
use Rattle.std.specs.declared.alloc.Global.{Global}
use Rattle.b2_features.specs.declared.fault.FeatureFault.{FeatureFault}
use Rattle.b2_features.specs.declared.fault.FeatureFault.TheVariants as features
use Rattle.b2_gcc.specs.BuildText.{command_in, gcc_text}
use Rattle.b2_host.specs.Outside.{Outside}
use Rattle.b2_declared.specs.declared.fault.DeclaringFault.{DeclaringFault}
use Rattle.b2_declared.specs.declared.fault.DeclaringFault.TheVariants as declaring_faults
use Rattle.b2_declared.specs.declared.visit.Visit.{Visit}
use Rattle.b2_declared.specs.declared.visit.Call.{Call}
use Rattle.b2_declared.specs.declared.whole.Declared.{Declared}
use Rattle.b2_declared.specs.Outcomes.{IsFaultOf}
use Rattle.b2_declared.specs.Carrying.{tables_of}
use Rattle.b2_declared.specs.Declaring.{declared}
use Rattle.b2_declared.specs.Laws.{visited}
use Rattle.b2_declared.specs.Numbered.{IsNumbered}
use Rattle.jam_journal.specs.Tables.{Text}
use Rattle.jam_meaning.specs.Refused.{Refuses, TookTurn}
use Rattle.jam_meaning.specs.Settings.{Setting}
use Rattle.jam_natives.specs.Keeping.{Kept}
use Rattle.jam_natives.specs.Seeing.{kept_of}
use Rattle.jam_effects.specs.declared.turns.Turns.{Turns}
use Rattle.b2_project_walk.specs.declared.fault.LoadFault.{LoadFault}
use Rattle.b2_project_walk.specs.declared.fault.LoadFault.TheVariants as faults
use Rattle.b2_project_walk.specs.declared.walk.WalkState.{WalkState}
use Rattle.b2_project_walk.specs.Faults.{refused_by, refused_of, IsWhole}
use Rattle.b2_project_walk.specs.Finding.{Looked, CountsFault, Counts}
use Rattle.b2_project_walk.specs.Walking.{walk_of, IsSettingFor, Follows, WalkComesTo, AreOfProjects, AreAllVisited}
use Rattle.b2_project_walk.specs.Walks.{Walk, Course}
use Rattle.b2_project.specs.declared.project.Project.{Project}
use Rattle.b2_project.specs.declared.load.WalkReport.{WalkReport}
use Rattle.b2_project.specs.Loading.{HasParentsBefore, IsOfCalls}
use Rattle.b2_project.specs.Loads.{toolset_of, up_to_toolset, IsEquipped, IsAfterWalk}

-- ---- faults of declaring, as those of a load

abbrev pub of_feature : Text → ℕ → FeatureFault → LoadFault
of_feature path line features.OutOfMemory = faults.OutOfMemory
of_feature path line fault = faults.Feature path line fault

abbrev pub of_declaring : DeclaringFault → LoadFault
of_declaring (declaring_faults.Declaration path rule line) = faults.Declaration path rule line
of_declaring (declaring_faults.Feature path line fault) = of_feature path line fault
of_declaring declaring_faults.OutOfMemory = faults.OutOfMemory

-- the fault is that of some calls that are refused, or memory ran out
abbrev pub IsRefusalOf : {X : Type 0} → Result X DeclaringFault → LoadFault → Type 0
IsRefusalOf outcome fault = (found : DeclaringFault) × (fault ≡ of_declaring found) × IsFaultOf outcome found

-- a fault of declaring is that of these calls
abbrev pub IsOfThese : List Visit → List Call → LoadFault → Type 0
IsOfThese visits calls (faults.Declaration path rule line) = declared visits calls ≡ Err (declaring_faults.Declaration path rule line)
IsOfThese visits calls (faults.Feature path line fault) = declared visits calls ≡ Err (declaring_faults.Feature path line fault)
IsOfThese visits calls _ = Unit {0}

abbrev pub IsOfTheseIf : List Visit → List Call → Result (Unit {0}) LoadFault → Type 0
IsOfTheseIf visits calls (Ok u) = Unit {0}
IsOfTheseIf visits calls (Err fault) = IsOfThese visits calls fault

-- The fault holds none of the host and no out of memory; no pattern was refused, and no call of the host failed.
pub record IsPlain (fault : LoadFault) : Type 0 where
  pub whole : IsWhole fault
  pub none : refused_by fault ≡ None
  pub counts : (from to : Outside) → to.faults ≡ from.faults → CountsFault fault from to

-- ---- the toolset

-- the place of the first call that brings the toolset in, if there is one
abbrev pub IsToolsetAt : List Call → Option ℕ → Type 0
IsToolsetAt calls None = up_to_toolset calls ≡ None
IsToolsetAt calls (Some place) =
    (place < length calls) × (call : Call) × (command : Option Text) × (slice_get calls place ≡ Some call)
    × (toolset_of call.declaration ≡ Some command) × (up_to_toolset calls ≡ Some (take (place + 1) calls, command))

-- The build text that a call brings in, where the calls up to that one are carried out; or the fault of the first one that is refused.
abbrev pub IsTextOf : List Visit → List Call → Result (Option (Vec ℕ Global)) LoadFault → Type 0
IsTextOf visits calls (Ok None) = up_to_toolset calls ≡ None
IsTextOf visits calls (Ok (Some text)) =
    (found : List Call × Option Text) × (up_to_toolset calls ≡ Some found) × (is_ok (tables_of visits found.0) ≡ true)
    × (text.items ≡ gcc_text (command_in found.1))
IsTextOf visits calls (Err fault) =
    (fault ≡ faults.OutOfMemory) ⊎ ((found : List Call × Option Text) × (up_to_toolset calls ≡ Some found) × IsRefusalOf (tables_of visits found.0) fault)

-- what comes after a whole walk, where it is to go on
abbrev pub equipped : Setting Kept → Walk → Course → Type 0
equipped setting w = IsEquipped setting (up_to_toolset w.calls) w

-- ---- parts that run

abbrev pub IsWholeOf : {A : Type 0} → Result A LoadFault → Type 0
IsWholeOf (Ok a) = Unit {0}
IsWholeOf (Err fault) = IsWhole fault

-- the projects and their calls are as before; no frame and no step is open where none was, and the marked worlds are as before
pub record StaysOpen (before after : WalkState) : Type 0 where
  pub visits : after.visits ≡ before.visits
  pub calls : after.calls ≡ before.calls
  pub frames : before.world.now.scopes.frames ≡ [] → after.world.now.scopes.frames ≡ []
  pub step : is_some after.world.now.step ≡ is_some before.world.now.step
  pub marked : after.world.marked ≡ before.world.marked

-- The build text of the toolset runs as it is defined, where a call brings it in.
pub record RunsToolset (before after : WalkState) (first last : Turns) (from to : Outside) (result : Result (Unit {0}) LoadFault) : Type 0 where
  pub told : (setting : Setting Kept) → IsSettingFor setting first.budget from → Refuses setting.refused first.left last.left (refused_of result)
      → Follows result (equipped setting (walk_of before first.left)) (walk_of after last.left)
  pub stays : StaysOpen before after
  pub fault : IsOfTheseIf before.visits before.calls.items result
  pub whole : IsWholeOf result
  pub turns : last.left ≤ first.left
  pub budget : last.budget ≡ first.budget
  pub took : TookTurn (refused_of result) first.left last.left
  pub looked : Looked from to
  pub counts : Counts result from to

-- where the walk and then the toolset's build text come to
abbrev pub ThroughComesTo : Setting Kept → ℕ → List Text → Course → Type 0
ThroughComesTo setting left words course = (whole : Course) × WalkComesTo setting left words whole × IsAfterWalk setting whole course

-- no frame and no step is open, and no world is marked
pub record IsClosed (w : WalkState) : Type 0 where
  pub frames : w.world.now.scopes.frames ≡ []
  pub step : is_some w.world.now.step ≡ false
  pub marked : w.world.marked ≡ []

abbrev pub AreOwned : Result (Unit {0}) LoadFault → WalkState → Type 0
AreOwned (Ok u) w = AreOfProjects w.visits w.calls.items
AreOwned (Err fault) w = Unit {0}

-- all that a request leads to was visited; or a fault of declaring is that of its calls
abbrev pub AreAll : List Text → Result (Unit {0}) LoadFault → WalkState → Type 0
AreAll words (Ok u) w = AreAllVisited words w.visits w.calls.items
AreAll words (Err fault) w = IsOfCalls words fault

-- All files and the toolset's build text run as it is defined.
pub record GoesThrough (words : List Text) (w : WalkState) (first last : Turns) (from to : Outside) (result : Result (Unit {0}) LoadFault) : Type 0 where
  pub told : (setting : Setting Kept) → IsSettingFor setting first.budget from → Refuses setting.refused first.left last.left (refused_of result)
      → Follows result (ThroughComesTo setting first.left words) (walk_of w last.left)
  pub owned : AreOwned result w
  pub all : AreAll words result w
  pub closed : IsClosed w
  pub whole : IsWholeOf result
  pub turns : last.left ≤ first.left
  pub budget : last.budget ≡ first.budget
  pub looked : Looked from to
  pub counts : Counts result from to

-- ---- the end

-- what a walk's calls declare, or the fault of the first one that is refused
abbrev pub IsDeclaredOf : WalkState → Result Declared LoadFault → Type 0
IsDeclaredOf w (Ok found) = (declared w.visits w.calls.items ≡ Ok found) × IsNumbered found × HasParentsBefore found × (each visited found.places ≡ w.visits)
IsDeclaredOf w (Err fault) = IsRefusalOf (declared w.visits w.calls.items) fault

-- after a walk that is whole, what its calls declare; else the fault
abbrev pub IsFoundOf : WalkState → Result (Unit {0}) LoadFault → Result Declared LoadFault → Type 0
IsFoundOf w (Ok u) found = IsDeclaredOf w found
IsFoundOf w (Err fault) found = found ≡ Err fault

-- the lines that were recorded, and this; or no memory was left for the lines
abbrev pub IsToldOf : WalkState → Result (Unit {0}) LoadFault → WalkReport → Type 0
IsToldOf w ended told =
    (told.found ≡ Err faults.OutOfMemory) ⊎ ((told.echoes ≡ (kept_of w.natives).echoes) × IsFoundOf w ended told.found)

-- the project of a walk: its world, what its natives keep, and what its calls declare
abbrev pub project_of : WalkState → Declared → Project
project_of w found = record { world = w.world; natives = w.natives; declared = found }

abbrev pub project_in : WalkState → Result Declared LoadFault → Result Project LoadFault
project_in w (Ok found) = Ok (project_of w found)
project_in w (Err fault) = Err fault
