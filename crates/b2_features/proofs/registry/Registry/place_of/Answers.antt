use Rattle.std.proofs.Common.{◌∙◌, ap}
use Rattle.b2_features.specs.Table.{place_of}
use Rattle.b2_features.proofs.MapEntriesShowTheTable.{place_at}
use Rattle.b2_features.proofs.registry.Registry.place_of.Goals as goal

pub returns : goal.returns
returns c = c.get_index_of.ensures.index ∙ place_at c.args.name.now c.self.inside.features.entries c.self.invariant.keys ∙ ap (λ table. place_of table c.args.name.now) c.self.view_is
