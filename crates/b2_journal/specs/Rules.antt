use Rattle.b2_runs.specs.LogCourses.{Opening, Opening.to_update, Opening.to_cut}
use Rattle.b2_journal.specs.declared.opening_rule.OpeningRule.{OpeningRule}
use Rattle.b2_journal.specs.declared.opening_rule.OpeningRule.TheVariants as rules

-- what a rule opens a log for
abbrev pub opening_by : OpeningRule → Opening
opening_by rules.Update = to_update
opening_by rules.Cut = to_cut
