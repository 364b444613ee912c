use Rattle.std.proofs.Common.{subst}
use Rattle.b2_paths.specs.PathTables.{AreDistinct}
use Rattle.b2_paths.proofs.PathsKeepTheirPlaces.{are_distinct}
use Rattle.b2_paths.proofs.path_table.PathTable.distinct.Goals as goal

pub returns-clause-distinct : goal.returns-clause-distinct
returns-clause-distinct c = subst AreDistinct c.self.view_is (are_distinct c.self.inside.paths.keys c.len-len.ensures.unique)
