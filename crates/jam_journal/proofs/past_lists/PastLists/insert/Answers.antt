use Rattle.std.proofs.Common.{reverse, map as each}
use Rattle.std.specs.FinMap as map
use Rattle.jam_journal.specs.declared.past_lists.Before.TheVariants.{Other}
use Rattle.jam_journal.specs.Tables.{Key}
use Rattle.jam_journal.specs.Lists.{changed_at}
use Rattle.jam_journal.proofs.NotedListsKeepThePast.{noted_ok, other_back}
use Rattle.jam_journal.proofs.past_lists.PastLists.insert.Goals as goal

pub returns-then-not-is_empty-clause-ok : goal.returns-then-not-is_empty-clause-ok
returns-then-not-is_empty-clause-ok c =
    let key : Key = (c.args.first.now, c.args.second.now) in
    let table = c.self.inside.table in
    noted_ok c.insert_noted.result table c.insert_noted.new.table c.self.inside.changes.items c.insert_noted.new.changes.items
    (each (λ v. reverse v.items) (reverse c.self.inside.older.items)) key (λ _. c.args.list) (changed_at key (Other (map.get table key))) c.args.self.now
    c.self.view_is (other_back table key c.args.list) c.insert_noted.ensures.table c.insert_noted.ensures.noted
