use Rattle.std.proofs.Common.{List, ℕ, None, cond, ap, ◌∙◌}
use Rattle.std.specs.FinMap as map
use Rattle.std.specs.Str.{bytes_eq}
use Rattle.b2_virtual.proofs.OtherSpotsKeepTheirNumbers.{one_more}
use Rattle.b2_virtual.proofs.spot_map.SpotMap.remove_all.Goals as goal

pub loop-text-preserved : goal.loop-text-preserved
loop-text-preserved c =
    one_more None c.args.self.now c.loop-text.self c.remove.new.self c.args.texts.now c.loop-text.text-index c.text-item.result c.loop-text-test.true
    (λ q. c.remove.ensures q ∙ ap (λ (t : List ℕ). cond (bytes_eq q t) None (map.get c.loop-text.self q)) c.text-item.is)
    c.loop-text.invariant
