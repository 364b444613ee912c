use Rattle.std.proofs.Common.{◌<◌, List, length, reverse, sym, ap, subst, ◌∙◌}
use Rattle.jam_journal.specs.declared.registers.Registers.{Registers}
use Rattle.jam_journal.specs.declared.registers.Scope.{Scope}
use Rattle.jam_journal.specs.Marks.{Marked, changed}
use Rattle.jam_journal.specs.Scopes.{Scopes, leave, frames_at_mark}
use Rattle.jam_journal.specs.Stacks.{scopes_by, AllKept}
use Rattle.jam_journal.specs.Layers.{layers_of}
use Rattle.jam_journal.proofs.ChangesKeepWhatWasMarked.{leave_kept, leave_seen}
use Rattle.jam_journal.proofs.TheNewestStandsLast.{may_leave}
use Rattle.jam_journal.proofs.variables.Variables.leave.Goals as goal

pub invariant_of-self : goal.invariant_of-self
invariant_of-self c =
    let older = layers_of c.self.inside.older.items in
    let changes = reverse c.self.inside.changes.items in
    subst (λ (p : Registers × List Scope). AllKept p.0 p.1 changes older) (sym c.close_frame.ensures)
    (leave_kept older c.self.inside.registers (reverse c.self.inside.entries.items) changes c.self.invariant)

pub returns : goal.returns
returns c =
    let older = layers_of c.self.inside.older.items in
    let changes = reverse c.self.inside.changes.items in
    ap (λ (p : Registers × List Scope). scopes_by p.0 p.1 changes older) c.close_frame.ensures
    ∙ leave_seen older c.self.inside.registers (reverse c.self.inside.entries.items) changes
    (may_leave older c.self.inside.registers (reverse c.self.inside.entries.items) changes
    (subst (λ (p : Marked Scopes). frames_at_mark p.1 < length p.0.frames) (sym c.self.view_is) c.requires))
    ∙ ap (changed leave) c.self.view_is
