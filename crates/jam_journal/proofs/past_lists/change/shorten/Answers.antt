use Rattle.std.proofs.Common.{take, Some, is_some, sym, ap, ◌∙◌}
use Rattle.std.specs.Option.{option_map}
use Rattle.std.specs.FinMap.{insert}
use Rattle.jam_journal.specs.Tables.{Key, put_back}
use Rattle.jam_journal.proofs.ReplacingTouchesOnePair.{back_there}
use Rattle.jam_journal.proofs.NotedListsKeepThePast.{twice}
use Rattle.jam_journal.proofs.past_lists.change.shorten.Goals as goal

pub returns-in-Some : goal.returns-in-Some
returns-in-Some c =
    let t = c.args.table.now in
    let key : Key = (c.args.first.now, c.args.second.now) in
    let got = sym c.replace.ensures.before ∙ c.in-Some.is in
    twice t c.replace.new.self c.replace-in-Some.new.self key c.in-Some.list c.new.result c.first.result got c.replace.ensures.after c.replace-in-Some.ensures.after
    ∙ ap (insert t key) c.first.ensures
    ∙ sym (back_there t key (Some (take c.args.count c.in-Some.list)) (ap is_some got))
    ∙ ap (λ o. put_back t key (option_map (take c.args.count) o)) (sym got)
