use Rattle.std.proofs.Common.{ap, sym, ◌∙◌}
use Rattle.std.specs.FinMap as map
use Rattle.std.specs.Map.{lookup}
use Rattle.std.specs.Str.{bytes_eq}
use Rattle.b2_plan.proofs.EntriesMakeMaps.{get_path}
use Rattle.b2_plan.proofs.maker_map.MakerMap.get.Goals as goal

pub returns : goal.returns
returns c =
    c.copied.ensures ∙ c.get.ensures.value ∙ ap (λ path. lookup (bytes_eq path) c.self.inside.numbers.entries) c.as_str.ensures.value
    ∙ sym (get_path c.self.inside.numbers.entries c.args.path.now) ∙ ap (λ m. map.get m c.args.path.now) c.self.view_is
