use Rattle.std.proofs.Common.{ℕ, ◌<◌, get_or}
use Rattle.b2_verdicts.specs.Sights.{IsStanding}
use Rattle.b2_explain.proofs.checks.all_stand.Given as goal

-- the files so far stand
abbrev pub invariant-loop-number : goal.invariant-loop-number
invariant-loop-number l = (k : ℕ) → k < l.number-index → IsStanding l.facts (get_or l.outs k 0)
