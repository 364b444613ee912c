use Rattle.std.proofs.Common.{ℕ, ◌<◌, get_or}
use Rattle.b2_verdicts.specs.Sights.{IsStanding}
use Rattle.b2_verdicts.proofs.stamps.first_gone.Given as goal

-- the files so far stand
abbrev pub invariant-loop-place : goal.invariant-loop-place
invariant-loop-place l = (k : ℕ) → k < l.place → IsStanding l.facts (get_or l.numbers k 0)
