use Rattle.std.proofs.Common.{string_bytes, Some, is_some, ap, sym, ◌∙◌}
use Rattle.std.specs.Option.{option_copied_mut}
use Rattle.std.specs.FinMap as map
use Rattle.std.proofs.lemmas.Result.{IfOk-weaker, on_ok_weaker, on_err_weaker}
use Rattle.jam_journal.proofs.ReplacingTouchesOneName.{at_changed}
use Rattle.jam_journal.proofs.ReplacingTouchesOnePair.{get_table, put_rows, same_rows, row_at}
use Rattle.jam_journal.proofs.table.Table.insert.Goals as goal

pub returns-in-Some-clause-before : goal.returns-in-Some-clause-before
returns-in-Some-clause-before g c =
    let is = sym c.get_mut.ensures.value ∙ ap option_copied_mut c.in-Some.is in
    IfOk-weaker c.insert.result _ _
    (λ x p. p ∙ sym (ap (λ m. map.get m (c.args.first.now, c.args.second.now)) (sym c.self.view_is)
    ∙ get_table string_bytes c.self.inside.rows.entries c.args.first.now c.args.second.now ∙ ap (λ o. row_at o c.args.second.now) is))
    c.insert.ensures.before

pub returns-in-Some-clause-ok : goal.returns-in-Some-clause-ok
returns-in-Some-clause-ok g c =
    let old = c.self.inside.rows in
    let new = c.get_mut.follows.lender c.insert.new.self in
    let is = sym c.get_mut.ensures.value ∙ ap option_copied_mut c.in-Some.is in
    let changed = (c.get_mut.follows.holds c.insert.new.self).3 (ap is_some is) in
    on_ok_weaker c.insert.result
    (λ e. put_rows string_bytes old.entries new.entries c.args.first.now c.args.second.now c.in-Some.row.now (Some c.args.value)
    (λ n. ap (λ o. row_at o n) (sym is))
    (at_changed old new c.args.first.now c.insert.new.self (map.insert c.in-Some.row.now c.args.second.now c.args.value) changed e)
    ∙ ap (λ m. map.insert m (c.args.first.now, c.args.second.now) c.args.value) c.self.view_is)
    c.insert.ensures.ok

pub returns-in-Some-clause-err : goal.returns-in-Some-clause-err
returns-in-Some-clause-err g c =
    let old = c.self.inside.rows in
    let new = c.get_mut.follows.lender c.insert.new.self in
    let is = sym c.get_mut.ensures.value ∙ ap option_copied_mut c.in-Some.is in
    let changed = (c.get_mut.follows.holds c.insert.new.self).3 (ap is_some is) in
    on_err_weaker c.insert.result
    (λ e. same_rows string_bytes old.entries new.entries c.args.first.now c.in-Some.row.now is
    (at_changed old new c.args.first.now c.insert.new.self c.in-Some.row.now changed e)
    ∙ c.self.view_is)
    c.insert.ensures.err

pub returns-in-None-clause-before : goal.returns-in-None-clause-before
returns-in-None-clause-before g c =
    let is = sym c.get_mut.ensures.value ∙ ap option_copied_mut c.in-None.is in
    IfOk-weaker c.add_row.result _ _
    (λ x p. p ∙ sym (ap (λ m. map.get m (c.args.first.now, c.args.second.now)) (sym c.self.view_is)
    ∙ get_table string_bytes c.self.inside.rows.entries c.args.first.now c.args.second.now ∙ ap (λ o. row_at o c.args.second.now) is))
    c.add_row.ensures.before
