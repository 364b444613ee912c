-- What the parts of a walk do, as they are proved. What a walk is stands in Walks and Walking.
use Rattle.std.specs.Prelude.{◌≡◌, ◌≤◌, ◌++◌, ℕ, true, List, [], length, take, drop, map as each, Some, None, Result, Ok, Err, slice_get}
use Rattle.std.specs.FinMap as map
use Rattle.b2_host.specs.Outside.{Outside}
use Rattle.jam_grammar.specs.declared.tree.Tree.{Tree}
use Rattle.jam_grammar.specs.Trees.{StmtTrees, whole_tree}
use Rattle.jam_journal.specs.Tables.{Text}
use Rattle.jam_meaning.specs.Laws.{SameFrames}
use Rattle.jam_meaning.specs.Refused.{NamesNone, Refuses, TookTurn}
use Rattle.jam_meaning.specs.Settings.{Setting, Reading, is_file}
use Rattle.jam_natives.specs.Keeping.{Kept}
use Rattle.jam_natives.specs.Seeing.{kept_of}
use Rattle.jam_effects.specs.declared.fault.EvalFault.{EvalFault}
use Rattle.jam_effects.specs.declared.turns.Turns.{Turns}
use Rattle.b2_declared.specs.declared.visit.Visit.{Visit}
use Rattle.b2_project_walk.specs.declared.fault.LoadFault.{LoadFault}
use Rattle.b2_project_walk.specs.declared.walk.WalkState.{WalkState}
use Rattle.b2_project_walk.specs.Directories.{IsBefore, module_name, module_above, place_of, is_visited, first_new, visit_of}
use Rattle.b2_project_walk.specs.Faults.{refused_of, IsOfWalk}
use Rattle.b2_project_walk.specs.Finding.{Looked, Counts}
use Rattle.b2_project_walk.specs.Running.{RunsProject}
use Rattle.b2_project_walk.specs.Walking.{walk_of, IsSettingFor, StopsBy, Follows, AreVisited}
use Rattle.b2_project_walk.specs.Walks.{Walk, Course, goes_on, with_project, visited, after_run, run_project, RunsText, run_text, visit_found, visit, visit_all, load_dir, load_root, ComesTo}
use Rattle.b2_project_walk.specs.RecordedCalls.{call_of}

-- a walk, how many of the first directories that were named are known to be visited, the turns that there were at first, and the outside
pub record Stand : Type 0 where
  pub walk : Walk
  pub passed : ℕ
  pub budget : ℕ
  pub outside : Outside

abbrev pub stand : WalkState → Turns → Outside → Stand
stand w turns outside = record { walk = walk_of w turns.left; passed = w.named.passed; budget = turns.budget; outside = outside }

-- a project that was not visited, as it stands after those that were
pub record IsNext (visit : Visit) (visits : List Visit) : Type 0 where
  pub is : visit ≡ visit_of visit.dir visit.file visits
  pub new : place_of visit.dir visits ≡ None
  pub named : visit.«module» ≡ module_name visit.dir
  pub parent : IsBefore (length visits) visit.parent

-- so many of the first of some directories were visited
pub record ArePassed (visits : List Visit) (passed : ℕ) (dirs : List Text) : Type 0 where
  pub visited : first_new visits (take passed dirs) ≡ None
  pub short : passed ≤ length dirs

-- the module of each project is that of its directory, and modules stand below those of projects alone
pub record AreInLine (w : Walk) : Type 0 where
  pub modules : (place : ℕ) (visit : Visit) → slice_get w.visits place ≡ Some visit → visit.«module» ≡ module_name visit.dir
  pub parents : (owner above : Text) → map.get w.state.worlds.now.parents (owner, []) ≡ Some above → (dir : Text) × (is_visited dir w.visits ≡ true) × (above ≡ module_name dir)

-- the one comes to the same courses as the other
abbrev pub ComeToSame : (Course → Type 0) → (Course → Type 0) → Type 0
ComeToSame one other = ((course : Course) → one course → other course) × ((course : Course) → other course → one course)

-- what a part of a walk is to come to, by a setting and a walk
abbrev pub What : Type 1
What = Setting Kept → Walk → Course → Type 0

-- the course that a function gives
abbrev pub by : (Setting Kept → Walk → Course) → What
by what setting w course = what setting w ≡ course

-- the file of a project that was not visited runs
abbrev pub runs_tree : Visit → StmtTrees → What
runs_tree visit tree = by (λ setting w. after_run (run_project setting visit (module_above visit w.visits) tree w.state) (visited visit w))

-- the file that was found in a directory is visited, with how it reads
abbrev pub found_as : Text → Text × Reading → What
found_as dir found = by (λ setting w. visit_found setting dir found w)

-- a directory is visited; several are, in order; one is loaded; Jamroot is
abbrev pub visits_dir : Text → What
visits_dir dir = by (λ setting w. visit setting dir w)

abbrev pub visits_all : List Text → What
visits_all dirs = by (λ setting w. visit_all setting dirs w)

abbrev pub loads_dir : Text → What
loads_dir dir = by (λ setting w. load_dir setting dir w)

abbrev pub loads_root : What
loads_root = by (λ setting w. load_root setting w)

-- the result is a course to which the part comes, with this walk
abbrev pub Agrees : Result (Unit {0}) LoadFault → (Course → Type 0) → Walk → Type 0
Agrees (Ok u) comes w = comes (goes_on w) × AreInLine w
Agrees (Err fault) comes w = StopsBy fault comes w.state

-- a text that reads so runs, or one with these statements; and what comes of its bytes
abbrev pub reads_text : Text → Reading → What
reads_text path reading = by (λ setting w. run_text setting path reading w)

abbrev pub reads_tree : Text → Tree → What
reads_tree path tree = reads_text path (is_file (whole_tree tree))

abbrev pub runs_bytes : Text → List ℕ → What
runs_bytes path bytes setting w course = RunsText setting path bytes w course

-- What a part of a walk adds: no project that was visited goes, and further ones were visited in the same way.
pub record Grows (before after : Stand) : Type 0 where
  pub passed : ArePassed before.walk.visits before.passed before.walk.named → ArePassed after.walk.visits after.passed after.walk.named
  pub visited : AreVisited before.walk.visits before.walk.calls before.walk.named → AreVisited after.walk.visits after.walk.calls after.walk.named
  pub more : List Visit
  pub visits : after.walk.visits ≡ before.walk.visits ++ more

abbrev pub IsGrown : Result (Unit {0}) LoadFault → Stand → Stand → Type 0
IsGrown (Ok u) before after = Grows before after
IsGrown (Err fault) before after = Unit {0}

abbrev pub IsOfWalkIf : Result (Unit {0}) LoadFault → Type 0
IsOfWalkIf (Ok u) = Unit {0}
IsOfWalkIf (Err fault) = IsOfWalk fault

-- A part of a walk does what is defined: where the files are visible, for each right setting that names what was refused, if anything was.
-- Over every host turns never rise; frames, marks, the open step, files and child processes are as before.
pub record Does (what : What) (before after : Stand) (result : Result (Unit {0}) LoadFault) : Type 0 where
  pub told : (setting : Setting Kept) → IsSettingFor setting before.budget before.outside → Refuses setting.refused before.walk.state.left after.walk.state.left (refused_of result)
      → AreInLine before.walk → Agrees result (what setting before.walk) after.walk
  pub turns : after.walk.state.left ≤ before.walk.state.left
  pub budget : after.budget ≡ before.budget
  pub frames : SameFrames before.walk.state after.walk.state
  pub looked : Looked before.outside after.outside
  pub counts : Counts result before.outside after.outside
  pub took : TookTurn (refused_of result) before.walk.state.left after.walk.state.left
  pub whole : IsOfWalkIf result
  pub grown : IsGrown result before after

-- The same of a text that runs beside the files of projects, below whatever its modules stand.
pub record RunsBeside (what : What) (before after : Stand) (result : Result (Unit {0}) LoadFault) : Type 0 where
  pub told : (setting : Setting Kept) → IsSettingFor setting before.budget before.outside → Refuses setting.refused before.walk.state.left after.walk.state.left (refused_of result)
      → Follows result (what setting before.walk) after.walk
  pub turns : after.walk.state.left ≤ before.walk.state.left
  pub budget : after.budget ≡ before.budget
  pub frames : SameFrames before.walk.state after.walk.state
  pub looked : Looked before.outside after.outside
  pub counts : Counts result before.outside after.outside
  pub took : TookTurn (refused_of result) before.walk.state.left after.walk.state.left
  pub whole : IsOfWalkIf result

-- what the walk comes to from here, and from Jamroot on
abbrev pub walked : List Text → What
walked words setting w course = ComesTo setting words (goes_on w) course

abbrev pub walked_all : List Text → What
walked_all words setting w course = ComesTo setting words (load_root setting w) course

-- So far nothing was refused: where the rest comes to from here, the whole comes to from there, and nowhere else.
pub record Leads (whole rest : What) (before after : Stand) : Type 0 where
  pub told : (setting : Setting Kept) → IsSettingFor setting before.budget before.outside → NamesNone setting.refused before.walk.state.left after.walk.state.left → AreInLine before.walk
      → AreInLine after.walk × ComeToSame (rest setting after.walk) (whole setting before.walk)
  pub turns : after.walk.state.left ≤ before.walk.state.left
  pub budget : after.budget ≡ before.budget
  pub frames : SameFrames before.walk.state after.walk.state
  pub looked : Looked before.outside after.outside
  pub counts : after.outside.faults ≡ before.outside.faults
  pub grown : Grows before after

-- the same of the code's values, by what the files say of themselves
abbrev pub DoesOn : {F : Type 0} → (F → Outside) → What → WalkState → Turns → F → WalkState → Turns → F → Result (Unit {0}) LoadFault → Type 0
DoesOn outside what w ts f w' ts' f' result = Does what (stand w ts (outside f)) (stand w' ts' (outside f')) result

abbrev pub RunsBesideOn : {F : Type 0} → (F → Outside) → What → WalkState → Turns → F → WalkState → Turns → F → Result (Unit {0}) LoadFault → Type 0
RunsBesideOn outside what w ts f w' ts' f' result = RunsBeside what (stand w ts (outside f)) (stand w' ts' (outside f')) result

-- the file of a project has run in a walk
abbrev pub RunsFile : {F : Type 0} → (F → Outside) → Visit → StmtTrees → WalkState → Turns → F → WalkState → Turns → F → Result (Unit {0}) EvalFault → Type 0
RunsFile outside visit tree w ts f w' ts' f' result =
    RunsProject outside visit (module_above visit w.visits) tree w.world ts w.natives f w'.world ts' w'.natives f' result

-- a project was added whose file has ended, where so many calls had been recorded before
abbrev pub IsAdded : Visit → ℕ → WalkState → WalkState → Type 0
IsAdded visit before old new =
    (left : ℕ) → walk_of new left ≡ with_project visit (each (call_of (length old.visits)) (drop before (kept_of old.natives).decls)) (walk_of old left) (walk_of old left).state
