use Rattle.std.proofs.Common.{string_bytes, ap, sym, ◌∙◌}
use Rattle.std.specs.FinMap as map
use Rattle.jam_journal.proofs.ReplacingTouchesOneName.{by_bytes, get_names}
use Rattle.jam_journal.proofs.others.Others.get.Goals as goal

pub returns : goal.returns
returns g c =
    let entries = c.self.inside.values.entries in
    let name = c.args.name.now in
    c.get.ensures.value ∙ by_bytes entries name ∙ sym (get_names string_bytes entries name) ∙ ap (λ m. map.get m name) c.self.view_is
