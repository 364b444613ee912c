use Rattle.std.proofs.Common.{◌≡◌, [], ◌∷◌, ◌++◌, reverse, sym, ap, subst, ◌∙◌}
use Rattle.jam_journal.specs.Marks.{marked}
use Rattle.jam_journal.proofs.NotedChangesKeepThePast.{reverse_push}
use Rattle.jam_scope.specs.Steps.{notes_by, AllFit}
use Rattle.jam_scope.proofs.MarksKeepTheirNotes.{marked_by, marked_fit}
use Rattle.jam_scope.proofs.steps.Steps.mark.Goals as goal

pub invariant_of-self-2 : goal.invariant_of-self-2
invariant_of-self-2 c =
    let items = c.self.inside.older.items in
    let at = c.self.inside.at_mark in
    let order : reverse c.push_reserved.new.self.items ≡ at ∷ reverse items =
    ap reverse (c.push_reserved.ensures.items ∙ ap (λ l. l ++ at ∷ []) c.reserve.ensures.items) ∙ reverse_push items at in
    subst (λ l. AllFit c.self.inside.notes c.noted_then-self-inside.result l) (sym order)
    (marked_fit c.self.inside.notes c.noted_then-self-inside.result at (reverse items) c.self.invariant c.noted_then-self-inside.ensures.fit c.noted_then-self-inside.ensures.same)

pub returns-clause-ok : goal.returns-clause-ok
returns-clause-ok c =
    let items = c.self.inside.older.items in
    let at = c.self.inside.at_mark in
    let notes = c.self.inside.notes in
    let order : reverse c.push_reserved.new.self.items ≡ at ∷ reverse items =
    ap reverse (c.push_reserved.ensures.items ∙ ap (λ l. l ++ at ∷ []) c.reserve.ensures.items) ∙ reverse_push items at in
    ap (λ l. (notes, notes_by notes c.noted_then-self-inside.result l)) order
    ∙ ap (λ ns. (notes, ns)) (marked_by notes c.noted_then-self-inside.result at (reverse items) c.noted_then-self-inside.ensures.same)
    ∙ ap marked c.self.view_is
