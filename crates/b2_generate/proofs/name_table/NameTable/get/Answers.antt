use Rattle.std.proofs.Common.{ap, ◌∙◌}
use Rattle.std.specs.FinMap as map
use Rattle.b2_generate.proofs.HashedNamesAreFound.{get_hashed}
use Rattle.b2_generate.proofs.name_table.NameTable.get.Goals as goal

pub returns : goal.returns
returns g c = c.get.ensures.value ∙ get_hashed c.self.inside.values.entries c.args.name.now ∙ ap (λ m. map.get m c.args.name.now) c.self.view_is
