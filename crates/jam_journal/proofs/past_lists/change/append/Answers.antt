use Rattle.std.proofs.Common.{◌++◌, sym, ap, ◌∙◌}
use Rattle.std.specs.FinMap.{insert}
use Rattle.std.proofs.lemmas.Result.{on_ok_weaker, on_err_weaker}
use Rattle.jam_journal.specs.Tables.{Key, put}
use Rattle.jam_journal.specs.Lists.{list_of}
use Rattle.jam_journal.proofs.ReplacingTouchesOnePair.{put_own}
use Rattle.jam_journal.proofs.NotedListsKeepThePast.{twice}
use Rattle.jam_journal.proofs.past_lists.change.append.Goals as goal

pub returns-in-Some-clause-ok : goal.returns-in-Some-clause-ok
returns-in-Some-clause-ok c =
    let t = c.args.table.now in
    let key : Key = (c.args.first.now, c.args.second.now) in
    let got = sym c.replace.ensures.before ∙ c.in-Some.is in
    on_ok_weaker c.joined-list.result.1
    (λ e.
    twice t c.replace.new.self c.replace-in-Some.new.self key c.in-Some.list c.new.result c.joined-list.result.0 got c.replace.ensures.after c.replace-in-Some.ensures.after
    ∙ ap (insert t key) (e ∙ (λ i. list_of (sym got i) ++ c.in_ok-more.ensures i)))
    c.joined-list.ensures.ok

pub returns-in-Some-clause-err : goal.returns-in-Some-clause-err
returns-in-Some-clause-err c =
    let t = c.args.table.now in
    let key : Key = (c.args.first.now, c.args.second.now) in
    let got = sym c.replace.ensures.before ∙ c.in-Some.is in
    on_err_weaker c.joined-list.result.1
    (λ e.
    twice t c.replace.new.self c.replace-in-Some.new.self key c.in-Some.list c.new.result c.joined-list.result.0 got c.replace.ensures.after c.replace-in-Some.ensures.after
    ∙ ap (insert t key) e ∙ ap (put t key) (sym got) ∙ put_own t key)
    c.joined-list.ensures.err
