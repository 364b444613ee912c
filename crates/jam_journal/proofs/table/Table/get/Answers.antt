use Rattle.std.proofs.Common.{string_bytes, ap, sym, ◌∙◌}
use Rattle.std.specs.Option.{option_copied}
use Rattle.std.specs.FinMap as map
use Rattle.jam_journal.proofs.ReplacingTouchesOnePair.{get_table, row_at}
use Rattle.jam_journal.proofs.table.Table.get.Goals as goal

pub returns-in-Some : goal.returns-in-Some
returns-in-Some g c =
    c.get-in-Some.ensures
    ∙ ap (λ o. row_at o c.args.second.now) (sym (ap option_copied c.in-Some.is) ∙ c.get.ensures.value)
    ∙ sym (get_table string_bytes c.self.inside.rows.entries c.args.first.now c.args.second.now)
    ∙ ap (λ m. map.get m (c.args.first.now, c.args.second.now)) c.self.view_is

pub returns-in-None : goal.returns-in-None
returns-in-None g c =
    ap (λ o. row_at o c.args.second.now) (sym (ap option_copied c.in-None.is) ∙ c.get.ensures.value)
    ∙ sym (get_table string_bytes c.self.inside.rows.entries c.args.first.now c.args.second.now)
    ∙ ap (λ m. map.get m (c.args.first.now, c.args.second.now)) c.self.view_is
