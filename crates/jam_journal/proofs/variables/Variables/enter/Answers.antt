use Rattle.std.proofs.Common.{reverse, ap, ◌∙◌, arith}
use Rattle.jam_journal.specs.declared.registers.Scope.TheVariants.{Opened}
use Rattle.jam_journal.specs.Marks.{changed}
use Rattle.jam_journal.specs.Scopes.{enter}
use Rattle.jam_journal.specs.Stacks.{in_frame}
use Rattle.jam_journal.specs.Layers.{layers_of}
use Rattle.jam_journal.proofs.ChangesKeepWhatWasMarked.{enter_kept, enter_seen}
use Rattle.jam_journal.proofs.TheNewestStandsLast.{pushed_kept, pushed_seen, opened_newer}
use Rattle.jam_journal.proofs.variables.Variables.enter.Goals as goal

pub invariant_of-self-2 : goal.invariant_of-self-2
invariant_of-self-2 c =
    let r = c.self.inside.registers in
    let older = layers_of c.self.inside.older.items in
    let changes = reverse c.self.inside.changes.items in
    pushed_kept older c.self.inside.entries.items changes c.open_frame.new.registers (in_frame c.args.module.now r) c.open_frame.new.entries.items (Opened r.owner) c.in_ok-open_frame.ensures.registers c.in_ok-open_frame.ensures.entries
    (enter_kept older r (reverse c.self.inside.entries.items) changes c.self.invariant c.args.module.now)

pub returns-clause-ok : goal.returns-clause-ok
returns-clause-ok c =
    let r = c.self.inside.registers in
    let older = layers_of c.self.inside.older.items in
    let changes = reverse c.self.inside.changes.items in
    pushed_seen older c.self.inside.entries.items changes c.open_frame.new.registers (in_frame c.args.module.now r) c.open_frame.new.entries.items (Opened r.owner) c.in_ok-open_frame.ensures.registers c.in_ok-open_frame.ensures.entries
    ∙ enter_seen older r (reverse c.self.inside.entries.items) changes c.self.invariant c.args.module.now
    ∙ ap (changed (enter c.args.module.now)) c.self.view_is

pub returns-clause-newer : goal.returns-clause-newer
returns-clause-newer c =
    let r = c.self.inside.registers in
    opened_newer (layers_of c.self.inside.older.items) c.open_frame.new.registers c.self.inside.entries.items c.open_frame.new.entries.items (reverse c.self.inside.changes.items) (Opened r.owner) c.in_ok-open_frame.ensures.entries (omega arith)
