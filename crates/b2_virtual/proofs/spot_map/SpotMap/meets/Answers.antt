use Rattle.std.proofs.Common.{sym, ◌∙◌}
use Rattle.std.proofs.lemmas.Bool.{true≢false}
use Rattle.b2_virtual.proofs.NearestKeysTellNesting.{not_there}
use Rattle.b2_virtual.proofs.spot_map.SpotMap.meets.Goals as goal

pub comes_before-requires-clause-none : goal.comes_before-requires-clause-none
comes_before-requires-clause-none c = not_there c.args.self.now c.args.text.now (λ g. true≢false (sym (c.goes_on.ensures.1 g) ∙ c.if-goes_on.false))
