use Rattle.std.proofs.Common.{Some, cond, ap, ◌∙◌}
use Rattle.std.specs.FinMap as map
use Rattle.std.specs.Str.{bytes_eq}
use Rattle.b2_virtual.proofs.OtherSpotsKeepTheirNumbers.{put}
use Rattle.b2_virtual.specs.Spots.{Numbers}
use Rattle.b2_virtual.proofs.spot_map.SpotMap.insert.Goals as goal

pub returns-clause-ok : goal.returns-clause-ok
returns-clause-ok c = λ q.
    put c.self.inside.numbers.entries c.insert.new.self.entries c.args.text c.args.number c.in_ok-_before.ensures.updates.0 q
    ∙ ap (λ (m : Numbers). cond (bytes_eq q c.args.text) (Some c.args.number) (map.get m q)) c.self.view_is
