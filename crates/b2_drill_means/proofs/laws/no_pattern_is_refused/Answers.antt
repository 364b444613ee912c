use Rattle.b2_drill_means.proofs.NoPatternStands.{no_pattern}
use Rattle.b2_drill_means.proofs.laws.no_pattern_is_refused.Goals as goal

pub returns : goal.returns
returns c = λ n disk answer few stands. no_pattern c.one_reading.ensures c.one_meaning.ensures c.one_ending.ensures c.one_plan.ensures n disk few stands answer
