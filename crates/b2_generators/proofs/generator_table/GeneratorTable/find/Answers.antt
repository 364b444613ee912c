use Rattle.std.proofs.Common.{◌∙◌, ap}
use Rattle.b2_generators.specs.Table.{generator_named}
use Rattle.b2_generators.proofs.LookupsAnswerAsListsDo.{generator_at}
use Rattle.b2_generators.proofs.generator_table.GeneratorTable.find.Goals as goal

pub returns : goal.returns
returns c = c.get.ensures.value ∙ generator_at c.args.id.now c.self.inside.generators.entries c.self.invariant ∙ ap (λ generators. generator_named generators c.args.id.now) c.self.view_is
