use Rattle.std.proofs.Common.{◌++◌, reverse, map as each}
use Rattle.std.specs.FinMap as map
use Rattle.jam_journal.specs.Tables.{Key}
use Rattle.jam_journal.specs.Lists.{list_of, before_more, changed_at}
use Rattle.jam_journal.proofs.NotedListsKeepThePast.{noted_ok, more_back}
use Rattle.jam_journal.proofs.past_lists.PastLists.append.Goals as goal

pub returns-then-not-is_empty-clause-ok : goal.returns-then-not-is_empty-clause-ok
returns-then-not-is_empty-clause-ok c =
    let key : Key = (c.args.first.now, c.args.second.now) in
    let table = c.self.inside.table in
    noted_ok c.append_noted.result table c.append_noted.new.table c.self.inside.changes.items c.append_noted.new.changes.items
    (each (λ v. reverse v.items) (reverse c.self.inside.older.items)) key (λ t. list_of (map.get t key) ++ c.args.texts.now) (changed_at key (before_more (map.get table key))) c.args.self.now
    c.self.view_is (more_back table key c.args.texts.now) c.append_noted.ensures.table c.append_noted.ensures.noted
