use Rattle.std.proofs.Common.{rules}
use Rattle.b2_drill_call.proofs.DrillsHaveTargets.{some_target}
use Rattle.b2_drill_call.proofs.asked.drill_of.Goals as goal

pub returns-in-Some-clause-some : goal.returns-in-Some-clause-some
returns-in-Some-clause-some c = some_target c.args.words.now c.in-Some.n (search rules)
