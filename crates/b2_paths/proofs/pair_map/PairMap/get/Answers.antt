use Rattle.std.proofs.Common.{ap, sym, ◌∙◌}
use Rattle.std.specs.FinMap as map
use Rattle.b2_paths.proofs.PairsAreKeys.{get_pair}
use Rattle.b2_paths.proofs.pair_map.PairMap.get.Goals as goal

pub returns : goal.returns
returns c = c.copied.ensures ∙ c.get.ensures.value ∙ sym (get_pair c.self.inside.values.entries (c.args.left, c.args.right)) ∙ ap (λ m. map.get m (c.args.left, c.args.right)) c.self.view_is
