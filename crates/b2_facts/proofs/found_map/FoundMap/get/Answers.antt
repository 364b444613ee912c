use Rattle.std.proofs.Common.{ap, sym, ◌∙◌}
use Rattle.std.specs.FinMap as map
use Rattle.b2_facts.proofs.FoundsAreMaps.{get_pair}
use Rattle.b2_facts.proofs.found_map.FoundMap.get.Goals as goal

pub returns : goal.returns
returns c = c.get.ensures.value ∙ sym (get_pair c.self.inside.targets.entries (c.args.list, c.args.file)) ∙ ap (λ m. map.get m (c.args.list, c.args.file)) c.self.view_is
