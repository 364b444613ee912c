use Rattle.std.proofs.Common.{◌≡◌, None, Some, reverse, sym, ap, subst, ◌∙◌}
use Rattle.jam_scope.specs.Steps.{notes_by, AllFit}
use Rattle.jam_scope.proofs.MarksKeepTheirNotes.{opened_by, opened_fit}
use Rattle.jam_scope.proofs.steps.Steps.open.Goals as goal

pub invariant_of-self : goal.invariant_of-self
invariant_of-self c =
    let older = reverse c.self.inside.older.items in
    let none : c.self.inside.notes ≡ None = ap (λ p. p.0) c.self.view_is ∙ c.requires in
    opened_fit c.args.notes c.self.inside.at_mark older (subst (λ n. AllFit n c.self.inside.at_mark older) none c.self.invariant)

pub returns : goal.returns
returns c =
    let older = reverse c.self.inside.older.items in
    let none : c.self.inside.notes ≡ None = ap (λ p. p.0) c.self.view_is ∙ c.requires in
    ap (λ ns. (Some c.args.notes, ns))
    (opened_by c.args.notes c.self.inside.at_mark older (subst (λ n. AllFit n c.self.inside.at_mark older) none c.self.invariant)
    ∙ ap (λ n. notes_by n c.self.inside.at_mark older) (sym none) ∙ ap (λ p. p.1) c.self.view_is)
