use Rattle.std.proofs.Common.{ℕ, ◌<◌, get_or}
use Rattle.b2_verdicts.specs.Stamps.{IsNoNewer}
use Rattle.b2_verdicts.proofs.older.newest.Given as goal

-- none of the files so far is newer
abbrev pub invariant-loop-number : goal.invariant-loop-number
invariant-loop-number l = (k : ℕ) → k < l.number-index → IsNoNewer l.facts l.newest (get_or l.numbers k 0)
