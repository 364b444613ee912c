use Rattle.std.proofs.Common.{reverse, sym, ◌∙◌}
use Rattle.jam_journal.specs.declared.registers.Cell.{Cell}
use Rattle.jam_journal.specs.Marks.{changed}
use Rattle.jam_journal.specs.Scopes.{assign}
use Rattle.jam_journal.specs.Layers.{layers_of}
use Rattle.jam_journal.proofs.TheNewestStandsLast.{layers_length, set_is_kept, set_is_seen}
use Rattle.jam_journal.proofs.variables.Variables.set.Goals as goal

pub invariant_of-self-2 : goal.invariant_of-self-2
invariant_of-self-2 c =
    let r = c.self.inside.registers in
    let older = layers_of c.self.inside.older.items in
    let cell : Cell = record { value = c.from_list.result; stamp = c.len-stamp.result } in
    set_is_kept older r (reverse c.self.inside.entries.items) c.self.inside.changes.items c.set.new.changes.items c.self.invariant c.args.name.now cell c.set.new.registers
    c.in_ok-set.ensures.registers (c.len-stamp.ensures ∙ c.self.inside.older.ok.0 ∙ sym (layers_length c.self.inside.older.items))
    c.is_fresh-is_fresh.result c.is_fresh-is_fresh.ensures c.in_ok-set.ensures.changes

pub returns-clause-ok : goal.returns-clause-ok
returns-clause-ok c =
    let r = c.self.inside.registers in
    let older = layers_of c.self.inside.older.items in
    let cell : Cell = record { value = c.from_list.result; stamp = c.len-stamp.result } in
    set_is_seen older r (reverse c.self.inside.entries.items) c.self.inside.changes.items c.set.new.changes.items c.self.invariant c.args.name.now cell c.set.new.registers
    c.in_ok-set.ensures.registers (c.len-stamp.ensures ∙ c.self.inside.older.ok.0 ∙ sym (layers_length c.self.inside.older.items))
    c.is_fresh-is_fresh.result c.is_fresh-is_fresh.ensures c.in_ok-set.ensures.changes
    ∙ (λ i. changed (assign c.args.name.now (c.from_list.ensures i)) (c.self.view_is i))
