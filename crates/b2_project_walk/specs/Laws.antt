-- Laws of walks.
use Rattle.std.specs.Prelude.{◌≡◌, ◌++◌, ℕ, List, [], ◌∷◌, length}
use Rattle.b2_declared.specs.declared.visit.Call.{Call}
use Rattle.jam_grammar.specs.Trees.{StmtTrees}
use Rattle.jam_journal.specs.Tables.{Text}
use Rattle.jam_meaning.specs.Eval.{run}
use Rattle.jam_meaning.specs.Kept.{Ends, Grows}
use Rattle.jam_meaning.specs.Laws.{SameParents}
use Rattle.jam_meaning.specs.Settings.{Setting}
use Rattle.jam_meaning.specs.States.{State}
use Rattle.jam_natives.specs.declared.decl.Decl.{Decl}
use Rattle.jam_natives.specs.Keeping.{Kept}
use Rattle.jam_natives.specs.Rows.{jam_meaning}
use Rattle.b2_project_walk.specs.Walks.{Walk, Course, goes_on, no_walk, load_root, ComesTo}
use Rattle.b2_project_walk.specs.RecordedCalls.{call_of}

-- from a course a walk comes to one end
abbrev pub OneCourse : Type 0
OneCourse = (setting : Setting Kept) (words : List Text) (from last other : Course) → ComesTo setting words from last → ComesTo setting words from other → last ≡ other

-- a file puts no module below another one
abbrev pub FilesKeepParents : Type 0
FilesKeepParents =
    (setting : Setting Kept) → setting.natives ≡ jam_meaning → (path : Text) (tree : StmtTrees) (s : State Kept) → Ends SameParents s (run setting path tree s)

-- what was recorded stays, and more may come after it
abbrev pub KeepsRecord : State Kept → State Kept → Type 0
KeepsRecord s later = (more : Kept) × (later.kept.decls ≡ s.kept.decls ++ more.decls) × (later.kept.echoes ≡ s.kept.echoes ++ more.echoes)

-- the lines that were recorded stay, and more may come after them
abbrev pub AddsLines : State Kept → State Kept → Type 0
AddsLines = Grows (λ (kept : Kept). kept.echoes)

-- a file takes nothing away that was recorded before it
abbrev pub FilesKeepRecord : Type 0
FilesKeepRecord =
    (setting : Setting Kept) → setting.natives ≡ jam_meaning → (path : Text) (tree : StmtTrees) (s : State Kept) → Ends KeepsRecord s (run setting path tree s)

-- recorded calls, each read as one of the project at a place; those that have no place are left out
abbrev pub read_as : List ℕ → List Decl → List Call
read_as [] decls = []
read_as (project ∷ projects) [] = []
read_as (project ∷ projects) (decl ∷ decls) = call_of project decl ∷ read_as projects decls

-- the calls are all those that were recorded, in order, each read as one of a project
pub record AreRecorded (decls : List Decl) (calls : List Call) : Type 0 where
  pub projects : List ℕ
  pub each_one : length projects ≡ length decls
  pub read : calls ≡ read_as projects decls

-- the calls of a whole walk are those that its natives recorded
abbrev pub CallsAreRecorded : Type 0
CallsAreRecorded =
    (setting : Setting Kept) → setting.natives ≡ jam_meaning → (left : ℕ) (words : List Text) (w : Walk)
    → ComesTo setting words (load_root setting (no_walk left)) (goes_on w) → AreRecorded w.state.kept.decls w.calls
