use Rattle.std.proofs.Common.{◌∙◌}
use Rattle.b2_generators.specs.Table.{type_named}
use Rattle.b2_generators.proofs.LookupsAnswerAsListsDo.{has_type}
use Rattle.b2_generators.proofs.type_table.TypeTable.has.Goals as goal

pub returns : goal.returns
returns c = c.is_some.ensures ∙ has_type c.suffixes_of.result (type_named c.args.self.now c.args.name.now) c.suffixes_of.ensures
