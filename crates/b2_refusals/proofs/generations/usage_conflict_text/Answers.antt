use Rattle.std.proofs.Common.{◌∙◌}
use Rattle.b2_alternatives.specs.Choosing.{property_text}
use Rattle.b2_refusals.proofs.TextsGrowByOneElement.{conflict_joined}
use Rattle.b2_refusals.proofs.generations.usage_conflict_text.Goals as goal

pub returns : goal.returns
returns c =
    let feature = c.args.feature.now in
    (rw (c.as_str-target.ensures.value, c.in_ok-first.ensures, c.in_ok-second.ensures) at c.in_ok-format.ensures.ok)
    ∙ conflict_joined c.args.target.now (property_text (feature, c.args.first.now)) (property_text (feature, c.args.second.now))
