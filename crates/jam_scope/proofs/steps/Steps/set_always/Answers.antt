use Rattle.std.proofs.Common.{reverse, sym, ap, subst, ◌∙◌}
use Rattle.std.specs.Option.{option_map}
use Rattle.jam_journal.specs.Marks.{changed}
use Rattle.jam_scope.specs.Steps.{as_always, notes_by, AllFit}
use Rattle.jam_scope.proofs.MarksKeepTheirNotes.{always_by, always_fit}
use Rattle.jam_scope.proofs.steps.Steps.set_always.Goals as goal

pub invariant_of-self : goal.invariant_of-self
invariant_of-self c =
    let older = reverse c.self.inside.older.items in
    let at = c.self.inside.at_mark in
    subst (λ n. AllFit n at older) (sym c.note_always.ensures) (always_fit c.self.inside.notes at older c.self.invariant)

pub returns : goal.returns
returns c =
    let older = reverse c.self.inside.older.items in
    let at = c.self.inside.at_mark in
    ap (λ n. (n, notes_by n at older)) c.note_always.ensures
    ∙ ap (λ ns. (option_map as_always c.self.inside.notes, ns)) (always_by c.self.inside.notes at older)
    ∙ ap (changed (option_map as_always)) c.self.view_is
