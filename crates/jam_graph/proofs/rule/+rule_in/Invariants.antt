use Rattle.std.proofs.Common.{length}
use Rattle.jam_graph.proofs.rule.+rule_in.Given as goal

abbrev pub decreases-rule_in : goal.decreases-rule_in
decreases-rule_in l = length l.rows.now
