use Rattle.std.proofs.Common.{◌∙◌, ap}
use Rattle.std.specs.Option.{option_map}
use Rattle.b2_features.specs.Table.{seen, feature_of}
use Rattle.b2_features.proofs.MapEntriesShowTheTable.{feature_at, seen_now}
use Rattle.b2_features.proofs.registry.Registry.find.Goals as goal

pub returns : goal.returns
returns c =
    seen_now c.get.result ∙ ap (option_map seen) c.get.ensures.value ∙ feature_at c.args.name.now c.self.inside.features.entries c.self.invariant.keys
    ∙ ap (λ table. feature_of table c.args.name.now) c.self.view_is
