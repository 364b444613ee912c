use Rattle.std.proofs.Common.{◌≡◌, ◌<◌, get_or}
use Rattle.b2_runs.specs.Outcomes.{IsListOf}
use Rattle.b2_sched.specs.declared.state.State.TheVariants.{Settled, Failed}
use Rattle.b2_sched.proofs.numbers.failed_of.Given as goal

-- the failed steps so far
abbrev pub invariant-loop-number : goal.invariant-loop-number
invariant-loop-number l = IsListOf (λ i. (i < l.number) × (get_or l.states i Settled ≡ Failed)) l.numbers.items
