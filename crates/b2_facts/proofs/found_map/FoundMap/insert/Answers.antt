use Rattle.std.proofs.Common.{ap, ◌∙◌}
use Rattle.std.specs.FinMap as map
use Rattle.b2_facts.proofs.FoundsAreMaps.{one_pair}
use Rattle.b2_facts.proofs.found_map.FoundMap.insert.Goals as goal

pub returns-clause-ok : goal.returns-clause-ok
returns-clause-ok c = one_pair c.self.inside.targets.entries c.insert.new.self.entries (c.args.list, c.args.file) c.args.targets c.in_ok-insert.ensures.updates.0 ∙ ap (λ m. map.insert m (c.args.list, c.args.file) c.args.targets) c.self.view_is
