use Rattle.std.proofs.Common.{◌≡◌, ℕ, ◌<◌, List, Some, Ok, length, get_or, slice_get}
use Rattle.std.specs.List.{Contains}
use Rattle.b2_verdicts.specs.Sights.{digest_at}
use Rattle.b2_verdicts.specs.VerdictCalls.{Always, Asks}
use Rattle.b2_verdicts.proofs.record.digested.Given as goal

-- the digests of the files so far
abbrev pub invariant-loop-number : goal.invariant-loop-number
invariant-loop-number g l = record {
  asks : Asks {T = Unit {0}} (Contains l.numbers) Always l.initial.facts l.facts (g.F.Files.outside l.initial.files) (g.F.Files.outside l.files) (Ok tt);
  count : length l.made ≡ l.number-index;
  each : (k : ℕ) (digest : List ℕ) → k < l.number-index → slice_get l.made k ≡ Some digest → digest_at l.facts (get_or l.numbers k 0) ≡ Some digest;
}
