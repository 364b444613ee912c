use Rattle.std.proofs.Common.{◌++◌, reverse, sym, ap, ◌∙◌}
use Rattle.jam_journal.specs.Marks.{Marked}
use Rattle.jam_journal.specs.Scopes.{Scopes, caller_of}
use Rattle.jam_journal.specs.Stacks.{entries_of}
use Rattle.jam_journal.specs.Layers.{layers_of}
use Rattle.jam_journal.proofs.LookupsFindWhatCellsHold.{caller_is}
use Rattle.jam_journal.proofs.ChangesKeepWhatWasMarked.{here}
use Rattle.jam_journal.proofs.variables.Variables.caller.Goals as goal

pub returns : goal.returns
returns c =
    c.as_str.ensures ∙ sym (caller_is (reverse c.self.inside.entries.items ++ entries_of (layers_of c.self.inside.older.items)) c.self.inside.registers (here (layers_of c.self.inside.older.items) c.self.inside.registers (reverse c.self.inside.entries.items) (reverse c.self.inside.changes.items) c.self.invariant).agree) ∙ ap (λ (p : Marked Scopes). caller_of p.0.frames) c.self.view_is
