use Rattle.std.proofs.Common.{◌∙◌, ap}
use Rattle.std.specs.Option.{option_map}
use Rattle.b2_generators.specs.Table.{FileType, type_named}
use Rattle.b2_generators.proofs.LookupsAnswerAsListsDo.{suffixes_at}
use Rattle.b2_generators.proofs.type_table.TypeTable.suffixes_of.Goals as goal

pub returns : goal.returns
returns c =
    c.get.ensures.value ∙ suffixes_at c.args.name.now c.self.inside.types.entries
    ∙ ap (λ types. option_map (λ (t : FileType). t.suffixes) (type_named types c.args.name.now)) c.self.view_is
