use Rattle.std.proofs.Common.{◌<◌, ◌↔◌, IsTrue, length, reverse, subst, ap, ◌∙◌}
use Rattle.std.specs.List.{list_any}
use Rattle.jam_journal.specs.Marks.{Marked}
use Rattle.jam_journal.specs.Scopes.{Scopes, frames_at_mark}
use Rattle.jam_journal.specs.Stacks.{opens}
use Rattle.jam_journal.specs.Layers.{layers_of}
use Rattle.jam_journal.proofs.TheNewestStandsLast.{may_leave_is}
use Rattle.jam_journal.proofs.variables.Variables.may_leave.Goals as goal

pub returns : goal.returns
returns c =
    subst (λ (p : Marked Scopes). IsTrue c.opens_frame.result ↔ (frames_at_mark p.1 < length p.0.frames)) c.self.view_is
    (may_leave_is (layers_of c.self.inside.older.items) c.self.inside.registers c.self.inside.entries.items (reverse c.self.inside.changes.items) c.opens_frame.result
    (c.opens_frame.ensures ∙ ap (list_any opens) c.as_slice.ensures.value))
