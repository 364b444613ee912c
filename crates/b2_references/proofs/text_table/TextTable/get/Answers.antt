use Rattle.std.proofs.Common.{ap₂, ◌∙◌}
use Rattle.std.specs.FinMap as map
use Rattle.b2_references.proofs.HashedTextsAreFound.{get_hashed}
use Rattle.b2_references.proofs.text_table.TextTable.get.Goals as goal

pub returns : goal.returns
returns g c =
    c.get.ensures.value ∙ get_hashed c.self.inside.values.entries c.as_str.result.now
    ∙ ap₂ (λ m t. map.get m t) c.self.view_is c.as_str.ensures.value
