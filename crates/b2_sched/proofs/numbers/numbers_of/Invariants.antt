use Rattle.std.proofs.Common.{◌<◌}
use Rattle.b2_runs.specs.Outcomes.{IsListOf}
use Rattle.b2_sched.specs.NumberSets.{Has}
use Rattle.b2_sched.proofs.numbers.numbers_of.Given as goal

-- the flagged numbers so far
abbrev pub invariant-loop-number : goal.invariant-loop-number
invariant-loop-number l = IsListOf (λ i. (i < l.number) × Has l.flags i) l.numbers.items
