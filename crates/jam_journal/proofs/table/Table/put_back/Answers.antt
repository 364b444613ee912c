use Rattle.std.proofs.Common.{string_bytes, ap, ◌∙◌}
use Rattle.jam_journal.specs.Tables.{put_back}
use Rattle.jam_journal.proofs.ReplacingTouchesOneName.{at_gone}
use Rattle.jam_journal.proofs.ReplacingTouchesOnePair.{row_gone}
use Rattle.jam_journal.proofs.table.Table.put_back.Goals as goal

pub returns-then-put_in_row : goal.returns-then-put_in_row
returns-then-put_in_row g c =
    let rows = c.put_in_row.new.rows in
    let new = c.remove.new.self in
    let first = c.args.first.now in
    row_gone string_bytes rows.entries new.entries first
    (c.put_in_row.ensures.empty c.if-put_in_row.true)
    (at_gone rows new first c.remove.ensures.updates)
    ∙ c.put_in_row.ensures.table
    ∙ ap (λ m. put_back m (first, c.args.second.now) c.args.value) c.self.view_is

pub returns-else-put_in_row : goal.returns-else-put_in_row
returns-else-put_in_row g c =
    c.put_in_row.ensures.table ∙ ap (λ m. put_back m (c.args.first.now, c.args.second.now) c.args.value) c.self.view_is
