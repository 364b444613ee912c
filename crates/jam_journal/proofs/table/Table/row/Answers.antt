use Rattle.std.proofs.Common.{string_bytes, map as each, ap, sym, ◌∙◌}
use Rattle.std.specs.Option.{option_copied}
use Rattle.std.specs.FinMap as map
use Rattle.std.proofs.lemmas.Result.{IfOk-weaker}
use Rattle.jam_journal.specs.Tables.{row_of}
use Rattle.jam_journal.proofs.ReplacingTouchesOnePair.{row_kept, no_row_kept}
use Rattle.jam_journal.proofs.table.Table.row.Goals as goal

pub returns-in-Some : goal.returns-in-Some
returns-in-Some g c =
    let first = c.args.first.now in
    let rows = c.self.inside.rows.entries in
    IfOk-weaker c.entries.result _ _
    (λ x p. p ∙ ap map.entries (sym (row_kept first string_bytes rows c.in-Some.row.now (sym c.get.ensures.value ∙ ap option_copied c.in-Some.is)) ∙ ap (λ m. row_of m first) c.self.view_is))
    c.entries.ensures

pub returns-in-None : goal.returns-in-None
returns-in-None g c =
    let first = c.args.first.now in
    let rows = c.self.inside.rows.entries in
    ap (each (λ e. (string_bytes e.0.now, e.1.now))) c.new.ensures.items
    ∙ sym (no_row_kept first string_bytes rows (sym c.get.ensures.value ∙ ap option_copied c.in-None.is)) ∙ ap (λ m. map.entries (row_of m first)) c.self.view_is
