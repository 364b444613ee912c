use Rattle.std.proofs.Common.{string_bytes, Some, is_some, ap, sym, ◌∙◌}
use Rattle.std.specs.Option.{option_copied_mut}
use Rattle.std.specs.FinMap as map
use Rattle.jam_journal.specs.Tables.{back_name, put_back}
use Rattle.jam_journal.proofs.ReplacingTouchesOneName.{at_changed}
use Rattle.jam_journal.proofs.ReplacingTouchesOnePair.{get_table, back_rows, back_no_row, row_at}
use Rattle.jam_journal.proofs.table.Table.replace.Goals as goal
use Rattle.jam_journal.proofs.table.Table.replace.Goals.{in-Some, in-None}

pub returns-clause-before : goal.returns-clause-before
returns-clause-before g c =
    let value =
    ap (λ m. map.get m (c.args.first.now, c.args.second.now)) (sym c.self.view_is)
    ∙ get_table string_bytes c.self.inside.rows.entries c.args.first.now c.args.second.now
    ∙ ap (λ o. row_at o c.args.second.now) (sym c.get_mut.ensures.value) in
    elim c.match-get_mut.branch [
      | in-Some w ↦ w.result-is ∙ w.replace.ensures.before ∙ sym (value ∙ ap (λ r. row_at (option_copied_mut r) c.args.second.now) w.in-Some.is)
      | in-None w ↦ w.result-is ∙ sym (value ∙ ap (λ r. row_at (option_copied_mut r) c.args.second.now) w.in-None.is)
    ]

pub returns-clause-after : goal.returns-clause-after
returns-clause-after g c =
    let old = c.self.inside.rows in
    let first = c.args.first.now in
    let second = c.args.second.now in
    elim c.match-get_mut.branch [
      | in-Some w ↦
          let is = sym c.get_mut.ensures.value ∙ ap option_copied_mut w.in-Some.is in
          let row = w.replace.new.self in
          let new = c.get_mut.follows.lender row in
          rw w.self-inside-is
          (back_rows string_bytes old.entries new.entries first second w.in-Some.row.now (Some c.args.value) is
          (at_changed old new first row (back_name w.in-Some.row.now second (Some c.args.value)) ((c.get_mut.follows.holds row).3 (ap is_some is)) w.replace.ensures.after)
          ∙ ap (λ m. put_back m (first, second) (Some c.args.value)) c.self.view_is)
      | in-None w ↦
          let none = sym c.get_mut.ensures.value ∙ ap option_copied_mut w.in-None.is in
          rw w.self-inside-is
          (back_no_row string_bytes old.entries c.get_mut.follows.lender-at-none.entries first second (Some c.args.value) none (ap (λ m. m.entries) c.get_mut.follows.holds-at-none)
          ∙ ap (λ m. put_back m (first, second) (Some c.args.value)) c.self.view_is)
    ]
