use Rattle.std.proofs.Common.{ap₂, ◌∙◌}
use Rattle.std.specs.FinMap as map
use Rattle.b2_references.proofs.HashedTextsAreFound.{get_hashed, one_hashed}
use Rattle.b2_references.proofs.text_table.TextTable.insert.Goals as goal

pub returns-clause-before : goal.returns-clause-before
returns-clause-before g c =
    c.in_ok-insert.ensures.old ∙ get_hashed c.self.inside.values.entries c.new.result
    ∙ ap₂ (λ m t. map.get m t) c.self.view_is c.new.ensures

pub returns-clause-ok : goal.returns-clause-ok
returns-clause-ok g c =
    one_hashed c.self.inside.values.entries c.insert.new.self.entries c.new.result c.args.value c.in_ok-insert.ensures.updates.0
    ∙ ap₂ (λ m t. map.insert m t c.args.value) c.self.view_is c.new.ensures
