use Rattle.std.proofs.Common.{ap₂, ◌∙◌}
use Rattle.std.specs.FinMap as map
use Rattle.b2_generate.proofs.HashedNamesAreFound.{one_hashed}
use Rattle.b2_generate.proofs.name_table.NameTable.insert.Goals as goal

pub returns-clause-given : goal.returns-clause-given
returns-clause-given g c =
    one_hashed c.self.inside.values.entries c.insert.new.self.entries c.in_ok-copy.field-0 c.args.value c.in_ok-_before.ensures.updates.0
    ∙ ap₂ (λ m k. map.insert m k c.args.value) c.self.view_is c.in_ok-copy.ensures
