-- What the answer of a walk says.
use Rattle.std.specs.Prelude.{◌≡◌, ◌<◌, ℕ, true, false, All, List, [], ◌∷◌, ◌++◌, Option, Some, None, Result, Ok, Err, length, map as each}
use Rattle.std.specs.List.{flat_map}
use Rattle.b2_declaring_calls.specs.Directories.{directories}
use Rattle.b2_host.specs.Outside.{Outside}
use Rattle.b2_declared.specs.declared.visit.Visit.{Visit}
use Rattle.b2_declared.specs.declared.visit.Call.{Call}
use Rattle.jam_journal.specs.Tables.{Text}
use Rattle.jam_meaning.specs.Refused.{Refuses}
use Rattle.jam_meaning.specs.Settings.{Setting, IsSetting}
use Rattle.jam_meaning.specs.States.{State}
use Rattle.jam_natives.specs.declared.decl.Decl.{Decl}
use Rattle.jam_natives.specs.Keeping.{Kept}
use Rattle.jam_natives.specs.Rows.{jam_meaning}
use Rattle.jam_natives.specs.Seeing.{kept_of}
use Rattle.jam_effects.specs.declared.turns.Turns.{Turns}
use Rattle.jam_effects.specs.Machines.{folder_of}
use Rattle.b2_project_walk.specs.declared.fault.LoadFault.{LoadFault}
use Rattle.b2_project_walk.specs.declared.fault.LoadFault.TheVariants as faults
use Rattle.b2_project_walk.specs.declared.walk.WalkState.{WalkState}
use Rattle.b2_project_walk.specs.Directories.{is_visited, first_new, visit_of}
use Rattle.b2_base.specs.Segments.{here}
use Rattle.b2_project_walk.specs.Faults.{refusal_of, refused_of}
use Rattle.b2_project_walk.specs.Laws.{AddsLines}
use Rattle.b2_project_walk.specs.Walks.{Walk, no_walk, Refusal, Course, goes_on, refused, state_in, RunsText, load_root, ComesTo}
use Rattle.b2_project_walk.specs.RecordedCalls.{call_of, names_of}

-- the walk of the code, with so many turns left
abbrev pub walk_of : WalkState → ℕ → Walk
walk_of w left = record {
  visits = w.visits;
  calls = w.calls.items;
  named = w.named.dirs.items;
  state = record { worlds = w.world; left = left; kept = kept_of w.natives };
}

-- a walk that has not begun
pub record IsNew (w : WalkState) : Type 0 where
  pub walk : (left : ℕ) → walk_of w left ≡ no_walk left
  pub passed : w.named.passed ≡ 0

-- The setting says what is so at the beginning of a load: how many turns there are, what the natives mean, what the visible files hold
-- and how they read, and which patterns match.
pub record IsSettingFor (setting : Setting Kept) (turns : ℕ) (outside : Outside) : Type 0 where
  pub budget : turns ≡ setting.budget
  pub natives : setting.natives ≡ jam_meaning
  pub folder : folder_of outside.disk ≡ Some setting.sight.folder
  pub right : IsSetting setting

-- the load is refused so, if it is, with what stands then
abbrev pub IsRefusedBy : Option Refusal → (Course → Type 0) → State Kept → Type 0
IsRefusedBy None comes s = Unit {0}
IsRefusedBy (Some why) comes s = comes (refused why s)

-- A fault of a load: the load is refused so. Where the host failed, the lines that were recorded begin those of each course to which
-- something comes; nothing is said of out of memory.
abbrev pub StopsBy : LoadFault → (Course → Type 0) → State Kept → Type 0
StopsBy faults.Host comes s = (course : Course) → comes course → AddsLines s (state_in course)
StopsBy fault comes s = IsRefusedBy (refusal_of fault) comes s

-- the result is a course to which something comes, with this walk
abbrev pub Follows : Result (Unit {0}) LoadFault → (Course → Type 0) → Walk → Type 0
Follows (Ok u) comes w = comes (goes_on w)
Follows (Err fault) comes w = StopsBy fault comes w.state

-- where a walk from Jamroot on comes to, by so many turns and the target words of a request
abbrev pub WalkComesTo : Setting Kept → ℕ → List Text → Course → Type 0
WalkComesTo setting left words = ComesTo setting words (load_root setting (no_walk left))

-- Where the files are visible, the walk comes to what is defined, for each right setting that names what was refused, if anything was.
abbrev pub TellsWalk : Outside → List Text → Turns → Turns → WalkState → Result (Unit {0}) LoadFault → Type 0
TellsWalk outside words before after w result =
    (setting : Setting Kept) → IsSettingFor setting before.budget outside → Refuses setting.refused before.left after.left (refused_of result)
    → Follows result (WalkComesTo setting before.left words) (walk_of w after.left)

-- The same of a text that runs beside the files of projects: it leaves this walk.
abbrev pub TellsText : Outside → Text → List ℕ → Turns → Turns → WalkState → WalkState → Result (Unit {0}) LoadFault → Type 0
TellsText outside path bytes before after w w' result =
    (setting : Setting Kept) → IsSettingFor setting before.budget outside → Refuses setting.refused before.left after.left (refused_of result)
    → Follows result (RunsText setting path bytes (walk_of w before.left)) (walk_of w' after.left)

-- ---- over every host

-- the project of each call is one of these
abbrev pub AreOfProjects : List Visit → List Call → Type 0
AreOfProjects visits calls = All (λ call. call.project < length visits) calls

-- the directories that calls of a project name, in order
abbrev pub names_in : Text → List Call → List Text
names_in dir calls = flat_map (λ call. names_of dir call.declaration) calls

-- the calls that the file of a further project recorded
abbrev pub calls_of : List Visit → List Decl → List Call
calls_of visits decls = each (call_of (length visits)) decls

-- Projects that were visited one after another, the calls that their files recorded, and the directories that these name. No directory is
-- visited twice, and the parent of each project is the nearest one above it among those before it.
pub data AreVisited : List Visit → List Call → List Text → Type 0 where
  none_yet : AreVisited [] [] []
  one_more : (visits : List Visit) (calls : List Call) (named : List Text) (dir file : Text) (decls : List Decl)
      → AreVisited visits calls named → is_visited dir visits ≡ false
      → AreVisited (visits ++ visit_of dir file visits ∷ []) (calls ++ calls_of visits decls) (named ++ names_in dir (calls_of visits decls))

-- All that a request leads to by its target words was visited: Jamroot, and each directory that a call or a word names.
pub record AreAllVisited (words : List Text) (visits : List Visit) (calls : List Call) : Type 0 where
  pub named : List Text
  pub visited : AreVisited visits calls named
  pub jamroot : is_visited here visits ≡ true
  pub whole : first_new visits (named ++ directories here words) ≡ None
