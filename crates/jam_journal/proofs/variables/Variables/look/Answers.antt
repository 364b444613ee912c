use Rattle.std.proofs.Common.{◌++◌, reverse, sym, ap, ◌∙◌}
use Rattle.jam_journal.specs.Marks.{Marked}
use Rattle.jam_journal.specs.Scopes.{Scopes, look}
use Rattle.jam_journal.specs.Stacks.{entries_of}
use Rattle.jam_journal.specs.Layers.{layers_of}
use Rattle.jam_journal.proofs.LookupsFindWhatCellsHold.{look_is}
use Rattle.jam_journal.proofs.ChangesKeepWhatWasMarked.{here}
use Rattle.jam_journal.proofs.variables.Variables.look.Goals as goal

pub returns : goal.returns
returns c =
    c.found.ensures ∙ sym (look_is (reverse c.self.inside.entries.items ++ entries_of (layers_of c.self.inside.older.items)) c.self.inside.registers c.args.name.now (here (layers_of c.self.inside.older.items) c.self.inside.registers (reverse c.self.inside.entries.items) (reverse c.self.inside.changes.items) c.self.invariant).agree) ∙ ap (λ (p : Marked Scopes). look p.0 c.args.name.now) c.self.view_is
