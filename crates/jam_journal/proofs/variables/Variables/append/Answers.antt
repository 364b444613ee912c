use Rattle.std.proofs.Common.{true, false, reverse, refl, sym, ap, ◌∙◌}
use Rattle.jam_journal.specs.declared.registers.Cell.{Cell}
use Rattle.jam_journal.specs.Marks.{changed}
use Rattle.jam_journal.specs.Scopes.{append}
use Rattle.jam_journal.specs.Stacks.{grown}
use Rattle.jam_journal.specs.Layers.{layers_of}
use Rattle.jam_journal.proofs.TheNewestStandsLast.{layers_length, set_is_kept, append_is_seen}
use Rattle.jam_journal.proofs.variables.Variables.append.Goals as goal

pub invariant_of-self-then-is_fresh : goal.invariant_of-self-then-is_fresh
invariant_of-self-then-is_fresh c =
    let r = c.self.inside.registers in
    let changes = c.self.inside.changes.items in
    set_is_kept (layers_of c.self.inside.older.items) r (reverse c.self.inside.entries.items) changes changes c.self.invariant c.args.name.now
    (grown r c.args.name.now c.args.texts.now c.len-stamp.result) c.extend.new.registers c.in_ok-extend.ensures.ok
    (c.len-stamp.ensures ∙ c.self.inside.older.ok.0 ∙ sym (layers_length c.self.inside.older.items)) true (sym c.if-is_fresh.true ∙ c.is_fresh.ensures) refl

pub returns-then-is_fresh-clause-ok : goal.returns-then-is_fresh-clause-ok
returns-then-is_fresh-clause-ok c =
    let r = c.self.inside.registers in
    let changes = c.self.inside.changes.items in
    append_is_seen (layers_of c.self.inside.older.items) r (reverse c.self.inside.entries.items) changes changes c.self.invariant c.args.name.now
    (grown r c.args.name.now c.args.texts.now c.len-stamp.result) c.extend.new.registers c.in_ok-extend.ensures.ok
    (c.len-stamp.ensures ∙ c.self.inside.older.ok.0 ∙ sym (layers_length c.self.inside.older.items)) c.args.texts.now refl true (sym c.if-is_fresh.true ∙ c.is_fresh.ensures) refl
    ∙ ap (changed (append c.args.name.now c.args.texts.now)) c.self.view_is

pub invariant_of-self-2 : goal.invariant_of-self-2
invariant_of-self-2 c =
    let cell : Cell = record { value = c.in_ok-value.value; stamp = c.len-stamp.result } in
    set_is_kept (layers_of c.self.inside.older.items) c.self.inside.registers (reverse c.self.inside.entries.items) c.self.inside.changes.items c.set.new.changes.items c.self.invariant c.args.name.now
    cell c.set.new.registers c.in_ok-set.ensures.registers
    (c.len-stamp.ensures ∙ c.self.inside.older.ok.0 ∙ sym (layers_length c.self.inside.older.items)) false (sym c.if-is_fresh.false ∙ c.is_fresh.ensures) c.in_ok-set.ensures.changes

pub returns-clause-ok : goal.returns-clause-ok
returns-clause-ok c =
    let cell : Cell = record { value = c.in_ok-value.value; stamp = c.len-stamp.result } in
    append_is_seen (layers_of c.self.inside.older.items) c.self.inside.registers (reverse c.self.inside.entries.items) c.self.inside.changes.items c.set.new.changes.items c.self.invariant c.args.name.now
    cell c.set.new.registers c.in_ok-set.ensures.registers
    (c.len-stamp.ensures ∙ c.self.inside.older.ok.0 ∙ sym (layers_length c.self.inside.older.items)) c.args.texts.now c.in_ok-value.ensures false (sym c.if-is_fresh.false ∙ c.is_fresh.ensures) c.in_ok-set.ensures.changes
    ∙ ap (changed (append c.args.name.now c.args.texts.now)) c.self.view_is
