use Rattle.std.proofs.Common.{ℕ, ◌<◌, get_or}
use Rattle.b2_verdicts.specs.Stamps.{IsNotOlder}
use Rattle.b2_explain.proofs.checks.first_older.Given as goal

-- none of the outputs so far is older
abbrev pub invariant-loop-out : goal.invariant-loop-out
invariant-loop-out l = (k : ℕ) → k < l.out-index → IsNotOlder l.facts l.ins (get_or l.outs k 0)
