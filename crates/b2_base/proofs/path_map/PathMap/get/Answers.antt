use Rattle.std.proofs.Common.{ap, sym, ◌∙◌}
use Rattle.std.specs.FinMap as map
use Rattle.b2_base.proofs.MapsHoldWhatEntriesHold.{get_text}
use Rattle.b2_base.proofs.path_map.PathMap.get.Goals as goal

pub returns : goal.returns
returns g c = c.get.ensures.value ∙ sym (get_text c.self.inside.values.entries c.args.path.now) ∙ ap (λ m. map.get m c.args.path.now) c.self.view_is
