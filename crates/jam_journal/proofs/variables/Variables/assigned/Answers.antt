use Rattle.std.proofs.Common.{[], ◌++◌, reverse, sym, ap, ◌∙◌}
use Rattle.std.specs.Option.{unwrap_or}
use Rattle.jam_journal.specs.Marks.{Marked}
use Rattle.jam_journal.specs.Scopes.{Scopes, assigned}
use Rattle.jam_journal.specs.Stacks.{entries_of, value_at}
use Rattle.jam_journal.specs.Layers.{layers_of}
use Rattle.jam_journal.proofs.LookupsFindWhatCellsHold.{assigned_is, value_is}
use Rattle.jam_journal.proofs.ChangesKeepWhatWasMarked.{here}
use Rattle.jam_journal.proofs.variables.Variables.assigned.Goals as goal

pub returns : goal.returns
returns c =
    let r = c.self.inside.registers in
    let entries = reverse c.self.inside.entries.items in
    let older = layers_of c.self.inside.older.items in
    let name = c.args.name.now in
    c.value_at.ensures ∙ ap (λ o. value_at r.cells (o, name)) c.as_str.ensures
    ∙ sym (ap (λ o. unwrap_or o []) (assigned_is (entries ++ entries_of older) r name (here older r entries (reverse c.self.inside.changes.items) c.self.invariant).agree) ∙ value_is r.cells (r.owner, name))
    ∙ ap (λ (p : Marked Scopes). unwrap_or (assigned p.0 name) []) c.self.view_is
