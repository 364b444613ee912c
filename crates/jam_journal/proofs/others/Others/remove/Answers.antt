use Rattle.std.proofs.Common.{string_bytes, None, ap, sym, ◌∙◌}
use Rattle.std.specs.FinMap as map
use Rattle.jam_journal.proofs.ReplacingTouchesOneName.{by_bytes, get_names, put_tree}
use Rattle.jam_journal.proofs.others.Others.remove.Goals as goal

pub returns-clause-before : goal.returns-clause-before
returns-clause-before g c =
    let entries = c.self.inside.values.entries in
    let name = c.args.name.now in
    c.remove.ensures.value ∙ by_bytes entries name ∙ sym (get_names string_bytes entries name) ∙ ap (λ m. map.get m name) c.self.view_is

pub returns-clause-after : goal.returns-clause-after
returns-clause-after g c =
    put_tree c.self.inside.values c.remove.new.self c.args.name.now None c.remove.ensures.updates ∙ ap (λ m. map.remove m c.args.name.now) c.self.view_is
