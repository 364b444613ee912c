use Rattle.std.proofs.Common.{◌≡◌, map as each, refl, ap, sym, ◌∙◌}
use Rattle.std.specs.FinMap as map
use Rattle.std.specs.Map.Iter.{deref_pair}
use Rattle.std.proofs.lemmas.Iterator.Consumers.{map_from_collect, YieldsList-from_rest}
use Rattle.std.proofs.lemmas.Result.{IfOk-at_ok}
use Rattle.jam_journal.proofs.ReplacingTouchesOneName.{shown, shown_lent, entries_shown}
use Rattle.jam_journal.proofs.others.Others.entries.Goals as goal

pub returns : goal.returns
returns g c =
    let collected = IfOk-at_ok (λ row. each deref_pair row.items ≡ c.iter.result) c.in_ok-collect.was (map_from_collect _ c.collect.ensures.ran (YieldsList-from_rest c.iter.result refl)) in
    shown_lent c.in_ok-collect.field-0.items
    ∙ ap shown (collected ∙ c.iter.ensures.rest)
    ∙ sym (entries_shown c.self.inside.values.entries c.iter.ensures.ordered)
    ∙ ap map.entries c.self.view_is
