use Rattle.std.proofs.Common.{◌∙◌, sym, ap, not}
use Rattle.std.specs.FinMap as map
use Rattle.b2_features.specs.declared.attribute.Attribute.TheVariants.{Free}
use Rattle.b2_features.specs.Faults.{is_with}
use Rattle.b2_props.proofs.DraftHoldsEachGainedPair.{gain_nothing, found_there}
use Rattle.b2_props.proofs.draft.Draft.add.Goals as goal

pub returns-else-is_none : goal.returns-else-is_none
returns-else-is_none c =
    gain_nothing c.args.registry.now (c.args.feature.now, c.args.value.now) c.args.self.now (ap (is_with Free c.args.registry.now) (sym c.as_str.ensures.value) ∙ sym c.is_with.ensures ∙ c.if-is_with.false)
    (found_there c.get.result (map.get c.args.self.now.values c.args.feature.now) c.get.ensures (c.is_none.ensures ∙ ap not c.if-is_none.false))
