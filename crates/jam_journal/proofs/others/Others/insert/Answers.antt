use Rattle.std.proofs.Common.{string_bytes, Some, ap, sym, ◌∙◌}
use Rattle.std.specs.FinMap as map
use Rattle.jam_journal.specs.Tables.{names_of}
use Rattle.jam_journal.proofs.ReplacingTouchesOneName.{by_bytes, get_names, put_tree}
use Rattle.jam_journal.proofs.others.Others.insert.Goals as goal

pub returns-clause-before : goal.returns-clause-before
returns-clause-before g c =
    let entries = c.self.inside.values.entries in
    let key = string_bytes c.in_ok-name.name in
    c.in_ok-insert.ensures.old ∙ by_bytes entries key ∙ sym (get_names string_bytes entries key)
    ∙ ap (λ k. map.get (names_of string_bytes entries) k) c.in_ok-name.ensures.ok
    ∙ ap (λ m. map.get m c.args.name.now) c.self.view_is

pub returns-clause-ok : goal.returns-clause-ok
returns-clause-ok g c =
    put_tree c.self.inside.values c.insert.new.self (string_bytes c.in_ok-name.name) (Some c.args.value) c.in_ok-insert.ensures.updates
    ∙ ap (λ k. map.insert (names_of string_bytes c.self.inside.values.entries) k c.args.value) c.in_ok-name.ensures.ok
    ∙ ap (λ m. map.insert m c.args.name.now c.args.value) c.self.view_is
