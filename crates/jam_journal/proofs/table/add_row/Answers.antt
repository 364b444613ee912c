use Rattle.std.proofs.Common.{string_bytes, Some, ap, sym, ◌∙◌}
use Rattle.std.specs.Ordering.{nat_cmp}
use Rattle.std.specs.Cmp.Lexicographic.{slice_cmp}
use Rattle.std.specs.FinMap as map
use Rattle.jam_journal.specs.Tables.{table_of}
use Rattle.jam_journal.proofs.ReplacingTouchesOneName.{at_name, at_changed}
use Rattle.jam_journal.proofs.ReplacingTouchesOnePair.{put_rows, row_at}
use Rattle.jam_journal.proofs.table.add_row.Goals as goal

pub returns-clause-ok : goal.returns-clause-ok
returns-clause-ok g c =
    let old = c.args.rows.now in
    let key = string_bytes c.in_ok-key.key in
    put_rows string_bytes old.entries c.insert.new.self.entries key c.args.second.now map.empty (Some c.args.value)
    (λ n. map.get-empty (slice_cmp nat_cmp) n ∙ ap (λ o. row_at o n) (sym (ap (at_name string_bytes old.entries) c.in_ok-key.ensures.ok ∙ c.requires)))
    (at_changed old c.insert.new.self key c.in_ok-row.row (map.insert map.empty c.args.second.now c.args.value) c.in_ok-insert.ensures.updates c.in_ok-row.ensures)
    ∙ ap (λ k. map.insert (table_of string_bytes old.entries) (k, c.args.second.now) c.args.value) c.in_ok-key.ensures.ok
