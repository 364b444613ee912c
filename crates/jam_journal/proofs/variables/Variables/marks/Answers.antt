use Rattle.std.proofs.Common.{length, reverse, sym, ap, ◌∙◌}
use Rattle.jam_journal.specs.Marks.{Marked}
use Rattle.jam_journal.specs.Scopes.{Scopes}
use Rattle.jam_journal.specs.Layers.{layers_of}
use Rattle.jam_journal.proofs.TheNewestStandsLast.{layers_length, marked_length}
use Rattle.jam_journal.proofs.variables.Variables.marks.Goals as goal

pub returns : goal.returns
returns c =
    c.len.ensures ∙ c.self.inside.older.ok.0 ∙ sym (layers_length c.self.inside.older.items)
    ∙ sym (marked_length (layers_of c.self.inside.older.items) c.self.inside.registers (reverse c.self.inside.entries.items) (reverse c.self.inside.changes.items))
    ∙ ap (λ (p : Marked Scopes). length p.1) c.self.view_is
