use Rattle.std.proofs.Common.{◌≢◌, [], ◌++◌, reverse, sym, subst, ◌∙◌}
use Rattle.jam_journal.specs.declared.registers.Cell.{Cell}
use Rattle.jam_journal.specs.Marks.{Marked, changed}
use Rattle.jam_journal.specs.Scopes.{Scopes, bind}
use Rattle.jam_journal.specs.Stacks.{with_bound, bound_entry, entries_of}
use Rattle.jam_journal.specs.Layers.{layers_of}
use Rattle.jam_journal.proofs.ChangesKeepWhatWasMarked.{bind_kept, bind_seen}
use Rattle.jam_journal.proofs.TheNewestStandsLast.{layers_length, pushed_kept, pushed_seen, is_within}
use Rattle.jam_journal.proofs.variables.Variables.bind.Goals as goal

pub invariant_of-self-2 : goal.invariant_of-self-2
invariant_of-self-2 c =
    let r = c.self.inside.registers in
    let older = layers_of c.self.inside.older.items in
    let changes = reverse c.self.inside.changes.items in
    let entries = reverse c.self.inside.entries.items in
    let cell : Cell = record { value = c.from_list.result; stamp = c.len.result } in
    pushed_kept older c.self.inside.entries.items changes c.bind.new.registers (with_bound c.args.name.now cell r) c.bind.new.entries.items (bound_entry c.args.name.now r) c.in_ok-bind.ensures.registers c.in_ok-bind.ensures.entries
    (bind_kept older r entries changes c.self.invariant c.args.name.now cell (c.len.ensures ∙ c.self.inside.older.ok.0 ∙ sym (layers_length c.self.inside.older.items))
    (is_within (entries ++ entries_of older) r (subst (λ (p : Marked Scopes). p.0.frames ≢ []) (sym c.self.view_is) c.requires)))

pub returns-clause-ok : goal.returns-clause-ok
returns-clause-ok c =
    let r = c.self.inside.registers in
    let older = layers_of c.self.inside.older.items in
    let changes = reverse c.self.inside.changes.items in
    let cell : Cell = record { value = c.from_list.result; stamp = c.len.result } in
    pushed_seen older c.self.inside.entries.items changes c.bind.new.registers (with_bound c.args.name.now cell r) c.bind.new.entries.items (bound_entry c.args.name.now r) c.in_ok-bind.ensures.registers c.in_ok-bind.ensures.entries
    ∙ bind_seen older r (reverse c.self.inside.entries.items) changes c.self.invariant c.args.name.now cell
    ∙ (λ i. changed (bind c.args.name.now (c.from_list.ensures i)) (c.self.view_is i))
