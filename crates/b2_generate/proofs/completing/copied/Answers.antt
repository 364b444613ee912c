use Rattle.std.proofs.Common.{◌∙◌}
use Rattle.b2_generate.proofs.completing.copied.Goals as goal

pub returns-clause-name : goal.returns-clause-name
returns-clause-name c = c.in_ok-name.ensures

pub returns-clause-asked : goal.returns-clause-asked
returns-clause-asked c = c.in_ok-asked.ensures

pub returns-clause-children : goal.returns-clause-children
returns-clause-children c = c.from_vec.ensures ∙ c.in_ok-children.ensures.items ∙ c.as_slice.ensures
