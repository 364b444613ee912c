use Rattle.std.proofs.Common.{string_bytes, Some, is_some, ap, sym, ◌∙◌}
use Rattle.std.specs.Option.{option_copied_mut}
use Rattle.jam_journal.specs.Tables.{back_name}
use Rattle.jam_journal.proofs.ReplacingTouchesOneName.{at_changed}
use Rattle.jam_journal.proofs.ReplacingTouchesOnePair.{back_rows, back_no_row}
use Rattle.jam_journal.proofs.table.put_in_row.Goals as goal

pub returns-in-Some-clause-table : goal.returns-in-Some-clause-table
returns-in-Some-clause-table g c =
    let old = c.args.rows.now in
    let first = c.args.first.now in
    let second = c.args.second.now in
    let is = sym c.get_mut.ensures.value ∙ ap option_copied_mut c.in-Some.is in
    let row = c.put_back.new.self in
    let new = c.get_mut.follows.lender row in
    back_rows string_bytes old.entries new.entries first second c.in-Some.row.now c.args.value is
    (at_changed old new first row (back_name c.in-Some.row.now second c.args.value) ((c.get_mut.follows.holds row).3 (ap is_some is)) c.put_back.ensures)

pub returns-in-Some-clause-empty : goal.returns-in-Some-clause-empty
returns-in-Some-clause-empty g c =
    let is = sym c.get_mut.ensures.value ∙ ap option_copied_mut c.in-Some.is in
    λ t. ((c.get_mut.follows.holds c.put_back.new.self).3 (ap is_some is)).1 ∙ ap (λ row. Some row) (c.keeps_nothing.ensures t)

pub returns-in-None-clause-table : goal.returns-in-None-clause-table
returns-in-None-clause-table g c =
    back_no_row string_bytes c.args.rows.now.entries c.get_mut.follows.lender-at-none.entries c.args.first.now c.args.second.now c.args.value
    (sym c.get_mut.ensures.value ∙ ap option_copied_mut c.in-None.is)
    (ap (λ m. m.entries) c.get_mut.follows.holds-at-none)

pub returns-in-None-clause-empty : goal.returns-in-None-clause-empty
returns-in-None-clause-empty g c = λ e. cc
