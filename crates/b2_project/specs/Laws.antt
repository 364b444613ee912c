-- Laws of loads.
use Rattle.std.specs.Prelude.{◌≡◌, ◌++◌, ℕ, List, is_some}
use Rattle.b2_declaring_calls.specs.Rules.{rule_of}
use Rattle.b2_declared.specs.declared.visit.Call.{Call}
use Rattle.b2_declared.specs.declared.whole.Declared.{Declared}
use Rattle.jam_journal.specs.Tables.{Text}
use Rattle.jam_meaning.specs.Settings.{Setting}
use Rattle.jam_natives.specs.declared.decl.Decl.{Decl}
use Rattle.jam_natives.specs.Keeping.{Kept}
use Rattle.jam_natives.specs.Rows.{jam_meaning}
use Rattle.jam_natives.specs.Rules.{is_declaring}
use Rattle.b2_project_walk.specs.Laws.{AreRecorded}
use Rattle.b2_project_walk.specs.Walks.{Walk}
use Rattle.b2_project.specs.Loads.{Ending, loaded, Loads}

-- a load ends in one way
abbrev pub OneEnding : Type 0
OneEnding = (setting : Setting Kept) (left : ℕ) (words : List Text) (ending other : Ending) → Loads setting left words ending → Loads setting left words other → ending ≡ other

-- the rules whose calls are recorded are those that declare something
abbrev pub RecordedDeclare : Type 0
RecordedDeclare = (name : Text) → is_declaring name ≡ is_some (rule_of name)

-- the calls are those that were recorded first, in order, each read as one of a project
abbrev pub ComeFirst : List Decl → List Call → Type 0
ComeFirst decls calls = (first : List Decl) × (more : List Decl) × (decls ≡ first ++ more) × AreRecorded first calls

-- what the calls of a load declare stands recorded in it, before what the toolset's build text may have recorded
abbrev pub LoadedAreRecorded : Type 0
LoadedAreRecorded =
    (setting : Setting Kept) → setting.natives ≡ jam_meaning → (left : ℕ) (words : List Text) (w : Walk) (found : Declared)
    → Loads setting left words (loaded w found) → ComeFirst w.state.kept.decls w.calls
