use Rattle.std.proofs.Common.{ap, sym, ◌∙◌}
use Rattle.std.specs.FinMap as map
use Rattle.b2_base.proofs.MapsHoldWhatEntriesHold.{get_text}
use Rattle.b2_virtual.specs.Spots.{Numbers}
use Rattle.b2_virtual.proofs.spot_map.SpotMap.get.Goals as goal

pub returns : goal.returns
returns c = c.get.ensures.value ∙ sym (get_text c.self.inside.numbers.entries c.args.text.now) ∙ ap (λ (m : Numbers). map.get m c.args.text.now) c.self.view_is
