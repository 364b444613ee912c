use Rattle.std.proofs.Common.{get_or, sym, ◌∙◌}
use Rattle.b2_verdicts.proofs.ListsAtPlaces.{index_among}
use Rattle.b2_verdicts.proofs.record.stamped.Goals as goal

pub returns-in_default : goal.returns-in_default
returns-in_default c = (get_or c.args.numbers.now c.loop-number.number-index 0, index_among c.args.numbers.now c.loop-number.number-index c.loop-number-test.true, sym c.stamp_of.ensures ∙ c.in_default.is)
