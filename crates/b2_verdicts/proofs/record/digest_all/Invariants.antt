use Rattle.std.proofs.Common.{◌≡◌, ℕ, ◌<◌, Ok, get_or}
use Rattle.std.specs.List.{Contains}
use Rattle.b2_verdicts.specs.VerdictCalls.{Always, Asks}
use Rattle.b2_verdicts.specs.Digested.{IsGoneIfUnknown}
use Rattle.b2_verdicts.proofs.record.digest_all.Given as goal

-- the digests of the files so far are known
abbrev pub invariant-loop-number : goal.invariant-loop-number
invariant-loop-number g l = record {
  asks : Asks {T = Unit {0}} (Contains l.numbers) Always l.initial.facts l.facts (g.F.Files.outside l.initial.files) (g.F.Files.outside l.files) (Ok tt);
  each : (k : ℕ) → k < l.number-index → IsGoneIfUnknown (g.F.Files.outside l.initial.files).disk l.facts (get_or l.numbers k 0);
}
