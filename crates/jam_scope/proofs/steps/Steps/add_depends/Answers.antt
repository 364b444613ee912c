use Rattle.std.proofs.Common.{reverse, sym, ap, subst, ◌∙◌}
use Rattle.std.specs.Option.{option_map}
use Rattle.jam_journal.specs.Marks.{changed}
use Rattle.jam_scope.specs.Steps.{with_input, notes_by, AllFit}
use Rattle.jam_scope.proofs.MarksKeepTheirNotes.{added_by, added_fit}
use Rattle.jam_scope.proofs.steps.Steps.add_depends.Goals as goal

pub invariant_of-self-2 : goal.invariant_of-self-2
invariant_of-self-2 c =
    let older = reverse c.self.inside.older.items in
    let at = c.self.inside.at_mark in
    subst (λ n. AllFit n at older) (sym c.in_ok-add_input.ensures.ok) (added_fit c.args.path c.self.inside.notes at older c.self.invariant)

pub returns-clause-ok : goal.returns-clause-ok
returns-clause-ok c =
    let older = reverse c.self.inside.older.items in
    let at = c.self.inside.at_mark in
    ap (λ n. (n, notes_by n at older)) c.in_ok-add_input.ensures.ok
    ∙ ap (λ ns. (option_map (with_input c.args.path) c.self.inside.notes, ns)) (added_by c.args.path c.self.inside.notes at older c.self.invariant)
    ∙ ap (changed (option_map (with_input c.args.path))) c.self.view_is
