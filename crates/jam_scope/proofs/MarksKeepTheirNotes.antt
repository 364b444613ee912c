-- What marks say of the notes of a step stays as the notes change, and as a further mark is set.
use Rattle.std.proofs.Common.{◌≡◌, ℕ, ◌≤◌, List, [], ◌∷◌, ◌++◌, length, take, Option, Some, None, refl, sym, ap, subst, arith, length-append}
use Rattle.std.proofs.lemmas.List.{take-append-le}
use Rattle.std.specs.Option.{option_map}
use Rattle.jam_journal.specs.Tables.{Text}
use Rattle.jam_scope.specs.declared.notes.StepNotes.{StepNotes}
use Rattle.jam_scope.specs.declared.notes.NotesThen.{NotesThen}
use Rattle.jam_scope.specs.Steps.{with_input, as_always, as_notfile, notes_then, notes_by, Fit, AllFit}

-- a step that is opened was open at no mark
pub opened_by : (notes : StepNotes) (at : Option NotesThen) (older : List (Option NotesThen)) → AllFit None at older → notes_by (Some notes) at older ≡ notes_by None at older
opened_by notes at [] h = refl
opened_by notes None (o ∷ more) h = refl
opened_by notes (Some at) (o ∷ more) h = absurd h.0

pub opened_fit : (notes : StepNotes) (at : Option NotesThen) (older : List (Option NotesThen)) → AllFit None at older → AllFit (Some notes) at older
opened_fit notes at [] h = tt
opened_fit notes None (o ∷ more) h = (tt, h.1)
opened_fit notes (Some at) (o ∷ more) h = absurd h.0

-- a further input
still_taken : (n : ℕ) (paths : List Text) (path : Text) → n ≤ length paths → take n (paths ++ path ∷ []) ≡ take n paths
still_taken n paths path h = take-append-le n paths (path ∷ []) h

pub added_by : (path : Text) (notes : Option StepNotes) (at : Option NotesThen) (older : List (Option NotesThen)) → AllFit notes at older → notes_by (option_map (with_input path) notes) at older ≡ notes_by notes at older
added_by path None at older h = refl
added_by path (Some notes) at [] h = refl
added_by path (Some notes) None (o ∷ more) h = refl
added_by path (Some notes) (Some at) (o ∷ more) h =
    ap (λ paths. let then_ : Option StepNotes = Some record notes { depends = paths; always = at.always; notfile = at.notfile } in then_ ∷ notes_by then_ o more) (still_taken at.depends notes.depends path h.0)

pub added_fit : (path : Text) (notes : Option StepNotes) (at : Option NotesThen) (older : List (Option NotesThen)) → AllFit notes at older → AllFit (option_map (with_input path) notes) at older
added_fit path None at older h = h
added_fit path (Some notes) at [] h = tt
added_fit path (Some notes) None (o ∷ more) h = (tt, h.1)
added_fit path (Some notes) (Some at) (o ∷ more) h = (
  (let fits : at.depends ≤ length notes.depends = h.0 in omega (arith, length-append notes.depends (path ∷ []))),
  subst (λ paths. AllFit (Some record notes { depends = paths; always = at.always; notfile = at.notfile }) o more) (sym (still_taken at.depends notes.depends path h.0)) h.1,
)

-- the flags
pub always_by : (notes : Option StepNotes) (at : Option NotesThen) (older : List (Option NotesThen)) → notes_by (option_map as_always notes) at older ≡ notes_by notes at older
always_by None at older = refl
always_by (Some notes) at [] = refl
always_by (Some notes) None (o ∷ more) = refl
always_by (Some notes) (Some at) (o ∷ more) = refl

pub always_fit : (notes : Option StepNotes) (at : Option NotesThen) (older : List (Option NotesThen)) → AllFit notes at older → AllFit (option_map as_always notes) at older
always_fit None at older h = h
always_fit (Some notes) at [] h = tt
always_fit (Some notes) None (o ∷ more) h = h
always_fit (Some notes) (Some at) (o ∷ more) h = h

pub notfile_by : (notes : Option StepNotes) (at : Option NotesThen) (older : List (Option NotesThen)) → notes_by (option_map as_notfile notes) at older ≡ notes_by notes at older
notfile_by None at older = refl
notfile_by (Some notes) at [] = refl
notfile_by (Some notes) None (o ∷ more) = refl
notfile_by (Some notes) (Some at) (o ∷ more) = refl

pub notfile_fit : (notes : Option StepNotes) (at : Option NotesThen) (older : List (Option NotesThen)) → AllFit notes at older → AllFit (option_map as_notfile notes) at older
notfile_fit None at older h = h
notfile_fit (Some notes) at [] h = tt
notfile_fit (Some notes) None (o ∷ more) h = h
notfile_fit (Some notes) (Some at) (o ∷ more) h = h

-- a mark
pub marked_by : (notes : Option StepNotes) (now at : Option NotesThen) (older : List (Option NotesThen)) → notes_then now notes ≡ notes → notes_by notes now (at ∷ older) ≡ notes ∷ notes_by notes at older
marked_by notes now at older e = ap (λ n. n ∷ notes_by n at older) e

pub marked_fit : (notes : Option StepNotes) (now at : Option NotesThen) (older : List (Option NotesThen)) → AllFit notes at older → Fit now notes → notes_then now notes ≡ notes → AllFit notes now (at ∷ older)
marked_fit notes now at older h fit e = (fit, subst (λ n. AllFit n at older) (sym e) h)
