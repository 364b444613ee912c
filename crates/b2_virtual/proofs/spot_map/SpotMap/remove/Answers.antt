use Rattle.std.proofs.Common.{None, cond, ap, ◌∙◌}
use Rattle.std.specs.FinMap as map
use Rattle.std.specs.Str.{bytes_eq}
use Rattle.b2_virtual.proofs.OtherSpotsKeepTheirNumbers.{taken}
use Rattle.b2_virtual.specs.Spots.{Numbers}
use Rattle.b2_virtual.proofs.spot_map.SpotMap.remove.Goals as goal

pub returns : goal.returns
returns c = λ q.
    taken c.self.inside.numbers.entries c.remove-before.new.self.entries c.args.text.now c.remove-before.ensures.updates.0 q
    ∙ ap (λ (m : Numbers). cond (bytes_eq q c.args.text.now) None (map.get m q)) c.self.view_is
