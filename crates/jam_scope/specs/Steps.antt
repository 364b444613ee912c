-- The notes of an open step, and what they were at marks.
use Rattle.std.specs.Prelude.{◌≤◌, true, List, [], ◌∷◌, ◌++◌, take, length, Option, Some, None}
use Rattle.jam_journal.specs.Tables.{Text}
use Rattle.jam_scope.specs.declared.notes.StepNotes.{StepNotes}
use Rattle.jam_scope.specs.declared.notes.NotesThen.{NotesThen}

-- notes with a further input, of a step that is run in each update, and of one whose outputs are no files
abbrev pub with_input : Text → StepNotes → StepNotes
with_input path notes = record notes { depends = notes.depends ++ path ∷ [] }

abbrev pub as_always : StepNotes → StepNotes
as_always notes = record notes { always = true }

abbrev pub as_notfile : StepNotes → StepNotes
as_notfile notes = record notes { notfile = true }

-- the notes of a step as they were at a mark, where it was open then; inputs are added at the end alone
abbrev pub notes_then : Option NotesThen → Option StepNotes → Option StepNotes
notes_then None notes = None
notes_then (Some at) None = None
notes_then (Some at) (Some notes) = Some record notes { depends = take at.depends notes.depends; always = at.always; notfile = at.notfile }

-- the notes at the marks, by what is known of each
abbrev pub notes_by : Option StepNotes → Option NotesThen → List (Option NotesThen) → List (Option StepNotes)
notes_by notes at [] = []
notes_by notes at (older ∷ more) = notes_then at notes ∷ notes_by (notes_then at notes) older more

-- a step that was open at a mark still is, with at least the inputs that it had
abbrev pub Fit : Option NotesThen → Option StepNotes → Type 0
Fit None notes = Unit {0}
Fit (Some at) None = ⊥
Fit (Some at) (Some notes) = at.depends ≤ length notes.depends

abbrev pub AllFit : Option StepNotes → Option NotesThen → List (Option NotesThen) → Type 0
AllFit notes at [] = Unit {0}
AllFit notes at (older ∷ more) = Fit at notes × AllFit (notes_then at notes) older more
