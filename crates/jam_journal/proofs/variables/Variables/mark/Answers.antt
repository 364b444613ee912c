use Rattle.std.proofs.Common.{◌++◌, ◌∷◌, [], reverse, ap, ◌∙◌}
use Rattle.jam_journal.specs.declared.variables.Layer.{Layer}
use Rattle.jam_journal.specs.Layers.{layers_of}
use Rattle.jam_journal.proofs.TheNewestStandsLast.{layers_push, mark_is_kept}
use Rattle.jam_journal.proofs.variables.Variables.mark.Goals as goal

pub invariant_of-self-2 : goal.invariant_of-self-2
invariant_of-self-2 c =
    let layer : Layer = record { entries = c.replace-entries.result; changes = c.replace-changes.result } in
    mark_is_kept (layers_of c.self.inside.older.items) c.self.inside.registers (reverse c.self.inside.entries.items) (reverse c.self.inside.changes.items) c.self.invariant
    (reverse c.replace-entries.new.dest.items) (reverse c.replace-changes.new.dest.items) (layers_of c.push_reserved.new.self.items)
    (ap (λ v. reverse v.items) c.replace-entries.ensures.after ∙ ap reverse c.new.ensures.items)
    (ap (λ v. reverse v.items) c.replace-changes.ensures.after ∙ ap reverse c.new-2.ensures.items)
    (ap layers_of (c.push_reserved.ensures.items ∙ ap (λ ls. ls ++ layer ∷ []) c.reserve.ensures.items)
    ∙ layers_push c.self.inside.older.items layer
    ∙ (λ i. (reverse (c.replace-entries.ensures.value i).items, reverse (c.replace-changes.ensures.value i).items) ∷ layers_of c.self.inside.older.items))
