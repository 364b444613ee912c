use Rattle.std.proofs.Common.{ℕ, ◌<◌, get_or}
use Rattle.b2_verdicts.specs.Stamps.{IsNoNewer}
use Rattle.b2_explain.proofs.checks.first_newer.Given as goal

-- none of the members so far is newer
abbrev pub invariant-loop-number : goal.invariant-loop-number
invariant-loop-number l = (k : ℕ) → k < l.number-index → IsNoNewer l.facts l.written (get_or l.ins k 0)
