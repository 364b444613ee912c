use Rattle.std.proofs.Common.{◌∙◌, ap, sym, subst}
use Rattle.std.specs.List.{list_all}
use Rattle.b2_features.specs.Table.{HasDistinctNames, is_whole}
use Rattle.b2_features.proofs.MapEntriesShowTheTable.{names_apart}
use Rattle.b2_features.proofs.registry.Registry.count.Goals as goal

pub returns-clause-distinct : goal.returns-clause-distinct
returns-clause-distinct c = subst HasDistinctNames c.self.view_is (names_apart c.self.inside.features.entries c.self.invariant.keys c.len.ensures.unique)

pub returns-clause-whole : goal.returns-clause-whole
returns-clause-whole c = ap (list_all is_whole) (sym c.self.view_is) ∙ c.self.invariant.whole
