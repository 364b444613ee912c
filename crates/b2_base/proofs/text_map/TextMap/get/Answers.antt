use Rattle.std.proofs.Common.{ap, sym, ◌∙◌}
use Rattle.std.specs.FinMap as map
use Rattle.b2_base.proofs.MapsHoldWhatEntriesHold.{get_text}
use Rattle.b2_base.proofs.text_map.TextMap.get.Goals as goal

pub returns : goal.returns
returns g c = c.get.ensures.value ∙ sym (get_text c.self.inside.values.entries c.args.text.now) ∙ ap (λ m. map.get m c.args.text.now) c.self.view_is
