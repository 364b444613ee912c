use Rattle.std.proofs.Common.{string_bytes, sym, ◌∙◌}
use Rattle.jam_journal.proofs.ReplacingTouchesOneName.{none_named, named_none}
use Rattle.jam_journal.proofs.others.Others.is_empty.Goals as goal

pub returns : goal.returns
returns g c =
    let entries = c.self.inside.values.entries in (
      (λ e. sym c.self.view_is ∙ none_named string_bytes entries (c.is_empty.ensures.0 e)),
      (λ e. c.is_empty.ensures.1 (named_none string_bytes entries (c.self.view_is ∙ e))),
    )
