use Rattle.std.proofs.Common.{ℕ, ◌<◌, get_or}
use Rattle.b2_verdicts.specs.Stamps.{IsNoNewer}
use Rattle.b2_verdicts.proofs.older.first_newer.Given as goal

-- none of the files so far is newer
abbrev pub invariant-loop-place : goal.invariant-loop-place
invariant-loop-place l = (k : ℕ) → k < l.place → IsNoNewer l.facts l.stamp (get_or l.numbers k 0)
