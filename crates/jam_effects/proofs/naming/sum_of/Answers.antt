use Rattle.std.proofs.Common.{[], arith}
use Rattle.jam_effects.proofs.SumsTellWhatFits.{empty_sum, sized_within}
use Rattle.jam_effects.proofs.naming.sum_of.Goals as goal

pub returns-then-size-gt-LIMIT : goal.returns-then-size-gt-LIMIT
returns-then-size-gt-LIMIT c = c.summed.ensures [] empty_sum

pub returns : goal.returns
returns c = sized_within c.args.found.now c.args.size c.requires (omega arith)
