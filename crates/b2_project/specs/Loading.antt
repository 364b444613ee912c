-- What the answer of a load says.
use Rattle.std.specs.Prelude.{◌≡◌, ℕ, List, ◌++◌, map as each, Option, Some, None, Result, Ok, Err}
use Rattle.b2_host.specs.Outside.{Outside}
use Rattle.b2_declared.specs.declared.fault.DeclaringFault.{DeclaringFault}
use Rattle.b2_declared.specs.declared.fault.DeclaringFault.TheVariants as declaring_faults
use Rattle.b2_declared.specs.declared.visit.Visit.{Visit}
use Rattle.b2_declared.specs.declared.visit.Call.{Call}
use Rattle.b2_declared.specs.declared.whole.Declared.{Declared}
use Rattle.b2_declared.specs.Declaring.{declared}
use Rattle.b2_declared.specs.Laws.{visited}
use Rattle.jam_journal.specs.Tables.{Text}
use Rattle.jam_meaning.specs.Refused.{Refuses}
use Rattle.jam_meaning.specs.Settings.{Setting}
use Rattle.jam_meaning.specs.States.{State}
use Rattle.jam_natives.specs.Keeping.{Kept}
use Rattle.jam_natives.specs.Seeing.{kept_of}
use Rattle.jam_effects.specs.declared.turns.Turns.{Turns}
use Rattle.b2_project_walk.specs.declared.fault.LoadFault.{LoadFault}
use Rattle.b2_project_walk.specs.declared.fault.LoadFault.TheVariants as faults
use Rattle.b2_project_walk.specs.Directories.{HaveParentsBefore}
use Rattle.b2_project_walk.specs.Faults.{refusal_of, refused_of}
use Rattle.b2_project_walk.specs.Walking.{IsSettingFor, AreAllVisited}
use Rattle.b2_project_walk.specs.Walks.{Walk, Refusal}
use Rattle.b2_project.specs.declared.project.Project.{Project}
use Rattle.b2_project.specs.Loads.{Ending, loaded, fails, lines_of, Loads}

-- ---- where the files are visible

-- the project is what a walk ended with, and what its calls declare
pub record IsProject (w : Walk) (found : Declared) (project : Project) : Type 0 where
  pub world : project.world ≡ w.state.worlds
  pub natives : kept_of project.natives ≡ w.state.kept
  pub declared : project.declared ≡ found

module _ (setting : Setting Kept) (words : List Text) (before after : ℕ) (echoes : List Text) where
  -- the load was refused so; nothing is said of out of memory
  abbrev pub IsRefused : Option Refusal → Type 0
  IsRefused None = Unit {0}
  IsRefused (Some why) = (s : State Kept) × Loads setting before words (fails why s) × (echoes ≡ s.kept.echoes) × (after ≡ s.left)

  -- the lines begin those that the load records to its end
  abbrev pub BeginLines : Type 0
  BeginLines = (ending : Ending) → Loads setting before words ending → (more : List Text) × (lines_of ending ≡ echoes ++ more)

  -- The answer is what is defined. Where the host failed, the lines begin those that the load is defined to give.
  abbrev pub IsLoaded : Result Project LoadFault → Type 0
  IsLoaded (Ok project) =
      (w : Walk) × (found : Declared) × Loads setting before words (loaded w found) × IsProject w found project
      × (echoes ≡ w.state.kept.echoes) × (after ≡ w.state.left)
  IsLoaded (Err faults.Host) = BeginLines
  IsLoaded (Err fault) = IsRefused (refusal_of fault)

-- Where the files are visible, the answer is what is defined, for each right setting that names what was refused, if anything was.
abbrev pub TellsLoad : Outside → List Text → Turns → Turns → List Text → Result Project LoadFault → Type 0
TellsLoad outside words before after echoes result =
    (setting : Setting Kept) → IsSettingFor setting before.budget outside → Refuses setting.refused before.left after.left (refused_of result)
    → IsLoaded setting words before.left after.left echoes result

-- ---- over every host

-- the parent of each project stands before it
abbrev pub HasParentsBefore : Declared → Type 0
HasParentsBefore found = HaveParentsBefore (each visited found.places)

-- It is what the calls of projects declare, where all that a request leads to by its target words was visited.
pub record IsDeclaredBy (words : List Text) (found : Declared) : Type 0 where
  pub visits : List Visit
  pub calls : List Call
  pub all : AreAllVisited words visits calls
  pub is : declared visits calls ≡ Ok found
  pub places : each visited found.places ≡ visits

-- The calls of projects are refused so, where all that a request leads to was visited.
pub record AreRefused (words : List Text) (fault : DeclaringFault) : Type 0 where
  pub visits : List Visit
  pub calls : List Call
  pub all : AreAllVisited words visits calls
  pub is : declared visits calls ≡ Err fault

-- where a load is refused for what calls declare, it is so
abbrev pub IsOfCalls : List Text → LoadFault → Type 0
IsOfCalls words (faults.Declaration path rule line) = AreRefused words (declaring_faults.Declaration path rule line)
IsOfCalls words (faults.Feature path line fault) = AreRefused words (declaring_faults.Feature path line fault)
IsOfCalls words _ = Unit {0}

-- the lines are those that the natives of a project recorded
abbrev pub AreRecordedIn : Project → List Text → Type 0
AreRecordedIn project echoes = echoes ≡ (kept_of project.natives).echoes
