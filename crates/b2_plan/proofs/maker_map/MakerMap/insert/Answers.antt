use Rattle.std.proofs.Common.{ap₂, ◌∙◌}
use Rattle.std.specs.FinMap as map
use Rattle.b2_plan.proofs.EntriesMakeMaps.{one_path}
use Rattle.b2_plan.proofs.maker_map.MakerMap.insert.Goals as goal

pub returns-clause-ok : goal.returns-clause-ok
returns-clause-ok c =
    one_path c.self.inside.numbers.entries c.insert.new.self.entries c.in_ok-key.key c.args.number c.in_ok-_before.ensures.updates.0
    ∙ ap₂ (λ m path. map.insert m path c.args.number) c.self.view_is c.in_ok-key.ensures
