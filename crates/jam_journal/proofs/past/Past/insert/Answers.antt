use Rattle.std.proofs.Common.{reverse, map as each, ap, ◌∙◌}
use Rattle.std.specs.FinMap as map
use Rattle.jam_journal.proofs.NotedChangesKeepThePast.{on_both, past_noted}
use Rattle.jam_journal.proofs.past.Past.insert.Goals as goal

pub returns-then-not-is_empty-clause-ok : goal.returns-then-not-is_empty-clause-ok
returns-then-not-is_empty-clause-ok g c =
    on_both c.insert_noted.result c.insert_noted.ensures.table c.insert_noted.ensures.noted (λ e f.
    past_noted c.self.inside.table c.insert_noted.new.table c.self.inside.changes.items c.insert_noted.new.changes.items
    (each (λ v. reverse v.items) (reverse c.self.inside.older.items)) (c.args.first.now, c.args.second.now) c.args.value e f
    ∙ ap (λ p. (map.insert p.0 (c.args.first.now, c.args.second.now) c.args.value, p.1)) c.self.view_is)
