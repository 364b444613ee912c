use Rattle.std.proofs.Common.{◌∙◌}
use Rattle.jam_values.proofs.ListsGrowByOne.{same_pointwise}
use Rattle.jam_values.proofs.conditions.is_same.Goals as goal

pub returns : goal.returns
returns c = c.eq.ensures ∙ same_pointwise c.args.texts.now c.args.others.now
